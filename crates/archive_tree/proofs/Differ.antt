-- Bodies that are all different, one after another.
use Rattle.std.proofs.Common.{◌≡◌, ◌≢◌, ◌+◌, ◌<◌, ℕ, Bool, true, false, ◌||◌, cond, List, [], ◌∷◌, ◌++◌, map, take, drop, length, Bor, get_or, IsTrue, refl, ap, sym, subst, ◌∙◌, arith, inl, inr, true≢false}
use Rattle.std.specs.List.{AllByRecursion, list_any}
use Rattle.std.specs.Ordering.{is_eq, nat_cmp, ordering_then}
use Rattle.std.specs.declared.cmp.Ordering.{Ordering}
use Rattle.std.specs.declared.cmp.Ordering.TheVariants.{Less, Equal, Greater}
use Rattle.std.specs.Cmp.{nat_cmp_total, tied_itself}
use Rattle.std.proofs.lemmas.List.{take_more, drop_more, map-append, take-append-drop}
use Rattle.std.proofs.lemmas.List.Folds.{list_any-append}
use Rattle.keyed_tree.specs.Data.{PlainKey}
use Rattle.keyed_tree.specs.Laws.{key_cmp-is_eq}
use Rattle.keyed_tree.specs.Lists.{Has}
use Rattle.keyed_tree.specs.Order.{key_cmp}
use Rattle.archive_tree.specs.Stands.{AllDiffer, bodies}
use Rattle.archive_tree.specs.PartsTest.{do_differ}
use Rattle.keyed_tree.specs.View.{key_view}
use Rattle.archive_tree.specs.View.{alt_view}
use Rattle.keyed_tree.specs.declared.label.KeyVal.{KeyVal}
use Rattle.archive_tree.specs.declared.node.Alt.{Alt}
use Rattle.archive_tree.proofs.Tells.{bools, any_tells, tells_any, differ_tell}

abbrev pub among : PlainKey → List PlainKey → Bool
among b ds = list_any (λ d. is_eq (key_cmp b d)) ds

among_has : (b : PlainKey) (ds : List PlainKey) → IsTrue (among b ds) → Has b ds
among_has b ds h = (let some = any_tells (λ d. is_eq (key_cmp b d)) ds h in subst (λ z. Has z ds) (sym ((key_cmp-is_eq b some.0).0 some.1.1)) some.1.0)

has_among : (b : PlainKey) (ds : List PlainKey) → Has b ds → IsTrue (among b ds)
has_among b ds m = tells_any (λ d. is_eq (key_cmp b d)) ds b m ((key_cmp-is_eq b b).1 refl)

all_push : (P : PlainKey → Type 0) (ds : List PlainKey) (b : PlainKey) → AllByRecursion P ds → P b → AllByRecursion P (ds ++ b ∷ [])
all_push P [] b h p = (p, tt)
all_push P (d ∷ ds) b h p = (h.0, all_push P ds b h.1 p)

differ_push : (ds : List PlainKey) (b : PlainKey) → AllDiffer ds → ¬ (Has b ds) → AllDiffer (ds ++ b ∷ [])
differ_push [] b h n = (tt, tt)
differ_push (d ∷ ds) b h n = (all_push (λ e. d ≢ e) ds b h.0 (λ e. n (inl e)), differ_push ds b h.1 (λ m. n (inr m)))

has_middle : (P : PlainKey → Type 0) (ds es : List PlainKey) (b : PlainKey) → AllByRecursion P (ds ++ b ∷ es) → P b
has_middle P [] es b h = h.0
has_middle P (d ∷ ds) es b h = has_middle P ds es b h.1

differ_middle : (ds es : List PlainKey) (b : PlainKey) → AllDiffer (ds ++ b ∷ es) → ¬ (Has b ds)
differ_middle [] es b h m = m
differ_middle (d ∷ ds) es b h m = elim m [ inl e ↦ has_middle (λ z. d ≢ z) ds es b h.0 e | inr k ↦ differ_middle ds es b h.1 k ]

to_false : (b : Bool) → ¬ (IsTrue b) → b ≡ false
to_false true h = absurd (h refl)
to_false false h = refl

module _ {X : Type 0} (f : X → PlainKey) (xs : List X) (i : ℕ) (x : X) (low : i < length xs) (at : x ≡ get_or xs i x) where
  more : map f (take (i + 1) xs) ≡ map f (take i xs) ++ f x ∷ []
  more = ap (map f) (take_more xs i x low ∙ ap (λ y. take i xs ++ y ∷ []) (sym at)) ∙ map-append f (take i xs) (x ∷ [])

  whole : map f xs ≡ map f (take i xs) ++ f x ∷ map f (drop (i + 1) xs)
  whole = ap (map f) (sym (take-append-drop i xs)) ∙ map-append f (take i xs) (drop i xs) ∙ ap (λ z. map f (take i xs) ++ map f z) (drop_more xs i x low ∙ ap (λ y. y ∷ drop (i + 1) xs) (sym at))

  pub differ_step : IsTrue (do_differ (map f (take i xs))) → among (f x) (map f (take i xs)) ≡ false → IsTrue (do_differ (map f (take (i + 1) xs)))
  differ_step h n = rw more ((differ_tell (map f (take i xs) ++ f x ∷ [])).1 (differ_push (map f (take i xs)) (f x) ((differ_tell (map f (take i xs))).0 h) (λ m. true≢false (sym (has_among (f x) (map f (take i xs)) m) ∙ n))))

  pub differ_stop : among (f x) (map f (take i xs)) ≡ true → do_differ (map f xs) ≡ false
  differ_stop m = to_false (do_differ (map f xs)) (λ h. differ_middle (map f (take i xs)) (map f (drop (i + 1) xs)) (f x) (subst AllDiffer whole ((differ_tell (map f xs)).0 h)) (among_has (f x) (map f (take i xs)) m))

  pub seen_step : (b : PlainKey) → among b (map f (take (i + 1) xs)) ≡ cond (is_eq (key_cmp (f x) b)) true (among b (map f (take i xs)))
  seen_step b =
      let same : is_eq (key_cmp (f x) b) ≡ is_eq (key_cmp b (f x)) = (let one = key_cmp-is_eq (f x) b in let two = key_cmp-is_eq b (f x) in bools (is_eq (key_cmp (f x) b)) (is_eq (key_cmp b (f x))) (λ h. two.1 (sym (one.0 h))) (λ h. one.1 (sym (two.0 h)))) in
      rw (more, same) (list_any-append (λ d. is_eq (key_cmp b d)) (map f (take i xs)) (f x ∷ []) ∙ swap (is_eq (key_cmp b (f x))) (among b (map f (take i xs))))
    where
      swap : (c d : Bool) → (d || (c || false)) ≡ cond c true d
      swap true true = refl
      swap true false = refl
      swap false true = refl
      swap false false = refl

-- ---- sought by a number first

-- the order of pairs of a number and a body
abbrev pub pair_cmp : ℕ × Bor KeyVal → ℕ × Bor KeyVal → Ordering
pair_cmp x y = ordering_then (nat_cmp x.0 y.0) (key_cmp (key_view x.1.now) (key_view y.1.now))

-- where the number is one that the body has, the body alone decides
pub same_pair : (f : PlainKey → ℕ) (n : ℕ) (b d : PlainKey) → n ≡ f b → is_eq (ordering_then (nat_cmp n (f d)) (key_cmp b d)) ≡ is_eq (key_cmp b d)
same_pair f n b d e = bools (is_eq (ordering_then (nat_cmp n (f d)) (key_cmp b d))) (is_eq (key_cmp b d)) (last (nat_cmp n (f d)) (key_cmp b d)) back
  where
    last : (o p : Ordering) → IsTrue (is_eq (ordering_then o p)) → IsTrue (is_eq p)
    last Less p h = absurd (true≢false (sym h))
    last Equal p h = h
    last Greater p h = absurd (true≢false (sym h))

    both : (o p : Ordering) → o ≡ Equal → IsTrue (is_eq p) → IsTrue (is_eq (ordering_then o p))
    both o p t h = rw t h

    back : IsTrue (is_eq (key_cmp b d)) → IsTrue (is_eq (ordering_then (nat_cmp n (f d)) (key_cmp b d)))
    back h = both (nat_cmp n (f d)) (key_cmp b d) (ap (nat_cmp n) (ap f (sym ((key_cmp-is_eq b d).0 h)) ∙ sym e) ∙ tied_itself nat_cmp_total n) h

pub short_differ : (xs : List Alt) → length xs < 2 → do_differ (bodies (map alt_view xs)) ≡ true
short_differ [] h = refl
short_differ (x ∷ []) h = refl
short_differ (x ∷ y ∷ xs) h = absurd (omega arith)

pub bodies-view : (xs : List Alt) → bodies (map alt_view xs) ≡ map (λ a. key_view a.body) xs
bodies-view [] = refl
bodies-view (x ∷ xs) = ap (λ z. key_view x.body ∷ z) (bodies-view xs)
