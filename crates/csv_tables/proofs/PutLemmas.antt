-- Elements put in their places, one after the other, and what is found among them.
use Rattle.std.proofs.Common.{◌≡◌, Bool, true, false, cond, ◌||◌, List, [], ◌∷◌, map, fold, Option, Some, None, is_some, find, refl, ap, sym, ◌∙◌}
use Rattle.std.proofs.lemmas.Bool.{true≢false}
use Rattle.std.specs.BTreeSet.{replace_key}
use Rattle.std.specs.List.{list_any}
use Rattle.std.specs.Option.{option_or}
use Rattle.std.specs.Ordering.{match_ordering}
use Rattle.std.specs.declared.cmp.Ordering.{Ordering}
use Rattle.std.specs.declared.cmp.Ordering.TheVariants.{Less, Equal, Greater}
use Rattle.key_spec.proofs.SortLemmas.{by_order}

-- ---- whether one passes

skip_same : (p q r : Bool) → q ≡ p → (p || r) ≡ (p || (q || r))
skip_same true q r e = refl
skip_same false true r e = absurd (true≢false e)
skip_same false false r e = refl

pub or-swap : (p q r : Bool) → (p || (q || r)) ≡ (q || (p || r))
or-swap true true r = refl
or-swap true false r = refl
or-swap false true r = refl
or-swap false false r = refl

pub or-move : (p q r : Bool) → ((p || q) || r) ≡ (q || (p || r))
or-move true true r = refl
or-move true false r = refl
or-move false true r = refl
or-move false false r = refl

-- a test that goes by the place in the order
abbrev pub IsTest : {X : Type 0} → (X → X → Ordering) → (X → Bool) → Type 0
IsTest {X} R p = (c x : X) → R c x ≡ Equal → p x ≡ p c

module _ {X : Type 0} (R : X → X → Ordering) (p : X → Bool) (test : IsTest R p) where
  pub any-put : (xs : List X) (c : X) → list_any p (replace_key R xs c) ≡ (p c || list_any p xs)
  any-put [] c = refl
  any-put (x ∷ xs) c = by_order (R c x) at_less at_equal (at_greater (any-put xs c))
    where
      at_less : R c x ≡ Less → list_any p (match_ordering (R c x) (c ∷ x ∷ xs) (c ∷ xs) (x ∷ replace_key R xs c)) ≡ (p c || (p x || list_any p xs))
      at_less e = rw e refl

      at_equal : R c x ≡ Equal → list_any p (match_ordering (R c x) (c ∷ x ∷ xs) (c ∷ xs) (x ∷ replace_key R xs c)) ≡ (p c || (p x || list_any p xs))
      at_equal e = rw e (skip_same (p c) (p x) (list_any p xs) (test c x e))

      at_greater : list_any p (replace_key R xs c) ≡ (p c || list_any p xs) → R c x ≡ Greater → list_any p (match_ordering (R c x) (c ∷ x ∷ xs) (c ∷ xs) (x ∷ replace_key R xs c)) ≡ (p c || (p x || list_any p xs))
      at_greater more e = rw e (ap (λ b. p x || b) more ∙ or-swap (p x) (p c) (list_any p xs))

  pub any-put_all : (old cs : List X) → list_any p (fold (replace_key R) old cs) ≡ (list_any p old || list_any p cs)
  any-put_all old [] = none (list_any p old)
    where
      none : (b : Bool) → b ≡ (b || false)
      none true = refl
      none false = refl
  any-put_all old (c ∷ cs) =
      any-put_all (replace_key R old c) cs ∙ ap (λ b. b || list_any p cs) (any-put old c) ∙ or-move (p c) (list_any p old) (list_any p cs)

  -- ---- the one that passes

  keep_same : (b q : Bool) (c x : X) (o : Option X) → q ≡ b → cond b (Some c) o ≡ cond b (Some c) (cond q (Some x) o)
  keep_same true q c x o e = refl
  keep_same false true c x o e = absurd (true≢false e)
  keep_same false false c x o e = refl

  swap : (b q : Bool) (c x : X) (o : Option X) → (b ≡ true → q ≡ true → ⊥) → cond q (Some x) (cond b (Some c) o) ≡ cond b (Some c) (cond q (Some x) o)
  swap true true c x o n = absurd (n refl refl)
  swap true false c x o n = refl
  swap false true c x o n = refl
  swap false false c x o n = refl

  module _ (one : (c x : X) → p c ≡ true → p x ≡ true → R c x ≡ Equal) where
    pub find-put : (xs : List X) (c : X) → find p (replace_key R xs c) ≡ cond (p c) (Some c) (find p xs)
    find-put [] c = refl
    find-put (x ∷ xs) c = by_order (R c x) at_less at_equal (at_greater (find-put xs c))
      where
        at_less : R c x ≡ Less → find p (match_ordering (R c x) (c ∷ x ∷ xs) (c ∷ xs) (x ∷ replace_key R xs c)) ≡ cond (p c) (Some c) (cond (p x) (Some x) (find p xs))
        at_less e = rw e refl

        at_equal : R c x ≡ Equal → find p (match_ordering (R c x) (c ∷ x ∷ xs) (c ∷ xs) (x ∷ replace_key R xs c)) ≡ cond (p c) (Some c) (cond (p x) (Some x) (find p xs))
        at_equal e = rw e (keep_same (p c) (p x) c x (find p xs) (test c x e))

        at_greater : find p (replace_key R xs c) ≡ cond (p c) (Some c) (find p xs) → R c x ≡ Greater
            → find p (match_ordering (R c x) (c ∷ x ∷ xs) (c ∷ xs) (x ∷ replace_key R xs c)) ≡ cond (p c) (Some c) (cond (p x) (Some x) (find p xs))
        at_greater more e =
            rw e (ap (λ (o : Option X). cond (p x) (Some x) o) more
            ∙ swap (p c) (p x) c x (find p xs) (λ f g. let h : Greater ≡ Equal = sym e ∙ one c x f g in cc))

    -- where at most one of them passes, it is found
    abbrev pub FewPass : List X → Type 0
    FewPass [] = Unit {0}
    FewPass (c ∷ cs) = (p c ≡ true → find p cs ≡ None) × FewPass cs

    step : (b : Bool) (c : X) (o old : Option X) → (b ≡ true → o ≡ None) → option_or o (cond b (Some c) old) ≡ option_or (cond b (Some c) o) old
    step true c o old n = rw (n refl) refl
    step false c o old n = refl

    pub find-put_all : (old cs : List X) → FewPass cs → find p (fold (replace_key R) old cs) ≡ option_or (find p cs) (find p old)
    find-put_all old [] f = refl
    find-put_all old (c ∷ cs) f =
        find-put_all (replace_key R old c) cs f.1 ∙ ap (option_or (find p cs)) (find-put old c) ∙ step (p c) c (find p cs) (find p old) f.0

pub find-some : {X : Type 0} (p : X → Bool) (xs : List X) → is_some (find p xs) ≡ list_any p xs
find-some p [] = refl
find-some p (x ∷ xs) = by (p x) (find-some p xs)
  where
    by : (b : Bool) → is_some (find p xs) ≡ list_any p xs → is_some (cond b (Some x) (find p xs)) ≡ (b || list_any p xs)
    by true e = refl
    by false e = e

pub any-map : {X Y : Type 0} (f : X → Y) (p : Y → Bool) (xs : List X) → list_any p (map f xs) ≡ list_any (λ x. p (f x)) xs
any-map f p [] = refl
any-map f p (x ∷ xs) = ap (λ b. p (f x) || b) (any-map f p xs)
