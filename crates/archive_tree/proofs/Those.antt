-- What is picked of a list of numbered trees.
use Rattle.std.proofs.Common.{◌≡◌, ℕ, ◌+◌, Bool, true, false, cond, List, [], ◌∷◌, length, Option, Some, None, IfSome, refl, ap, sym, subst, ◌∙◌, inl, inr}
use Rattle.std.specs.List.{AllByRecursion, cons_option, enumerate_from, range_with_len}
use Rattle.std.specs.Option.{option_map}
use Rattle.std.specs.Ordering.{nat_cmp, is_eq}
use Rattle.std.specs.declared.cmp.Ordering.TheVariants.{Less}
use Rattle.std.proofs.lemmas.Cmp.{nat_cmp_total}
use Rattle.keyed_tree.specs.Data.{PlainLabel, PlainKeyed, label_of, kids_of}
use Rattle.keyed_tree.specs.Kids.{IsOrdered, kid_at}
use Rattle.keyed_tree.specs.Laws.{label_cmp-is_eq}
use Rattle.keyed_tree.specs.Lists.{Ascends, Has}
use Rattle.keyed_tree.specs.Order.{label_cmp}
use Rattle.jsonml_tree.proofs.Lists.{all_has, has_map, not_itself}
use Rattle.keyed_tree.proofs.Kids.{has_found}
use Rattle.keyed_tree.proofs.KidsKeep.{kid_ordered}
use Rattle.archive_tree.specs.Stands.{nums, those, passed, under, rooted, numbered}
use Rattle.archive_tree.proofs.Numbers.{range-ascend}

abbrev pub number_of : (ℕ × PlainKeyed) → ℕ
number_of w = w.0

abbrev pub onto : ℕ → Option PlainKeyed → List (ℕ × PlainKeyed) → List (ℕ × PlainKeyed)
onto n o xs = cons_option (option_map (λ k. (n, k)) o) xs

-- a fact of each number holds of each picked one
pub all_those : (P : ℕ → Type 0) (f : PlainKeyed → Option PlainKeyed) (ws : List (ℕ × PlainKeyed)) → AllByRecursion P (nums ws) → AllByRecursion P (nums (those f ws))
all_those P f [] h = tt
all_those P f (w ∷ ws) h =
    let rest = all_those P f ws h.1 in
    elim (f w.1) as (λ o. AllByRecursion P (nums (onto w.0 o (those f ws)))) [ None ↦ rest | Some k ↦ (h.0, rest) ]

pub those_ascend : (f : PlainKeyed → Option PlainKeyed) (ws : List (ℕ × PlainKeyed)) → Ascends nat_cmp (nums ws) → Ascends nat_cmp (nums (those f ws))
those_ascend f [] h = tt
those_ascend f (w ∷ ws) h =
    let above = all_those (λ n. nat_cmp w.0 n ≡ Less) f ws h.0 in
    let rest = those_ascend f ws h.1 in
    elim (f w.1) as (λ o. Ascends nat_cmp (nums (onto w.0 o (those f ws)))) [ None ↦ rest | Some k ↦ (above, rest) ]

-- what f gives of a tree is picked
pub has_those : (f : PlainKeyed → Option PlainKeyed) (n : ℕ) (t d : PlainKeyed) (ws : List (ℕ × PlainKeyed)) → Has (n, t) ws → f t ≡ Some d → Has (n, d) (those f ws)
has_those f n t d [] m e = absurd m
has_those f n t d (w ∷ ws) m e = elim m [
  | inl g ↦ subst (λ (v : ℕ × PlainKeyed). Has (n, d) (onto v.0 (f v.1) (those f ws))) (sym g) (rw e (inl refl))
  | inr k ↦ (let rest = has_those f n t d ws k e in elim (f w.1) as (λ o. Has (n, d) (onto w.0 o (those f ws))) [ None ↦ rest | Some j ↦ inr rest ])
]

-- and what is picked is given of a tree
pub record From (f : PlainKeyed → Option PlainKeyed) (n : ℕ) (d : PlainKeyed) (ws : List (ℕ × PlainKeyed)) : Type 0 where
  pub tree : PlainKeyed
  pub has : Has (n, tree) ws
  pub gives : f tree ≡ Some d

past : (f : PlainKeyed → Option PlainKeyed) (n : ℕ) (d : PlainKeyed) (w : ℕ × PlainKeyed) (ws : List (ℕ × PlainKeyed)) → From f n d ws → From f n d (w ∷ ws)
past f n d w ws g = record { tree = g.tree; has = inr g.has; gives = g.gives }

pub those_has : (f : PlainKeyed → Option PlainKeyed) (n : ℕ) (d : PlainKeyed) (ws : List (ℕ × PlainKeyed)) → Has (n, d) (those f ws) → From f n d ws
those_has f n d [] m = absurd m
those_has f n d (w ∷ ws) m =
    elim (f w.1) as (λ o. f w.1 ≡ o → Has (n, d) (onto w.0 o (those f ws)) → From f n d (w ∷ ws)) [
      | None ↦ λ e k. past f n d w ws (those_has f n d ws k)
      | Some j ↦ λ e k. elim k [
        | inl g ↦ record { tree = w.1; has = inl (λ i. ((g i).0, w.1)); gives = e ∙ ap (λ (z : ℕ × PlainKeyed). Some z.1) g }
        | inr x ↦ past f n d w ws (those_has f n d ws x)
      ]
    ] refl m

-- a number that is picked, with what is picked
pub record Numbered (n : ℕ) (ws : List (ℕ × PlainKeyed)) : Type 0 where
  pub tree : PlainKeyed
  pub has : Has (n, tree) ws

numbered_later : (n : ℕ) (w : ℕ × PlainKeyed) (ws : List (ℕ × PlainKeyed)) → Numbered n ws → Numbered n (w ∷ ws)
numbered_later n w ws g = record { tree = g.tree; has = inr g.has }

pub nums_has : (n : ℕ) (ws : List (ℕ × PlainKeyed)) → Has n (nums ws) → Numbered n ws
nums_has n [] m = absurd m
nums_has n (w ∷ ws) m = elim m [
  | inl e ↦ record { tree = w.1; has = inl (λ i. (e i, w.1)) }
  | inr k ↦ numbered_later n w ws (nums_has n ws k)
]

pub has_nums : (n : ℕ) (t : PlainKeyed) (ws : List (ℕ × PlainKeyed)) → Has (n, t) ws → Has n (nums ws)
has_nums n t ws m = has_map number_of (n, t) ws m

-- ascending numbers: one tree for each
pub one_tree : (n : ℕ) (t d : PlainKeyed) (ws : List (ℕ × PlainKeyed)) → Ascends nat_cmp (nums ws) → Has (n, t) ws → Has (n, d) ws → t ≡ d
one_tree n t d [] a h g = absurd h
one_tree n t d (w ∷ ws) a h g = elim h [
  | inl e ↦ elim g [
    | inl f ↦ ap (λ (z : ℕ × PlainKeyed). z.1) (sym e ∙ f)
    | inr y ↦ absurd (not_itself nat_cmp_total n (subst (λ (z : ℕ × PlainKeyed). nat_cmp z.0 n ≡ Less) e (all_has (λ x. nat_cmp w.0 x ≡ Less) (nums ws) n a.0 (has_nums n d ws y))))
  ]
  | inr x ↦ elim g [
    | inl f ↦ absurd (not_itself nat_cmp_total n (subst (λ (z : ℕ × PlainKeyed). nat_cmp z.0 n ≡ Less) f (all_has (λ x. nat_cmp w.0 x ≡ Less) (nums ws) n a.0 (has_nums n t ws x))))
    | inr y ↦ one_tree n t d ws a.1 x y
  ]
]

-- ---- trees that pass

some_is : (a b : PlainKeyed) → Some a ≡ Some b → a ≡ b
some_is a b e = cc

none_is : (b : PlainKeyed) → ¬ (None ≡ Some b)
none_is b e = cc

pub passed_is : (p : PlainKeyed → Bool) (a b : PlainKeyed) → passed p a ≡ Some b → a ≡ b
passed_is p a b e = elim (p a) as (λ t. cond t (Some a) None ≡ Some b → a ≡ b) [ true ↦ λ d. some_is a b d | false ↦ λ d. absurd (none_is b d) ] e

pub passed_true : (p : PlainKeyed → Bool) (a b : PlainKeyed) → passed p a ≡ Some b → p a ≡ true
passed_true p a b e = elim (p a) as (λ t. cond t (Some a) None ≡ Some b → t ≡ true) [ true ↦ λ d. refl | false ↦ λ d. absurd (none_is b d) ] e

pub passes : (p : PlainKeyed → Bool) (a : PlainKeyed) → p a ≡ true → passed p a ≡ Some a
passes p a e = rw e

abbrev pub labelled : PlainLabel → PlainKeyed → Bool
labelled l k = is_eq (label_cmp (label_of k) l)

pub has_rooted : (n : ℕ) (t : PlainKeyed) (ws : List (ℕ × PlainKeyed)) → Has (n, t) ws → Has (n, t) (rooted ws (label_of t))
has_rooted n t ws m = has_those (passed (labelled (label_of t))) n t t ws m (passes (labelled (label_of t)) t ((label_cmp-is_eq (label_of t) (label_of t)).1 refl))

pub rooted_has : (n : ℕ) (t : PlainKeyed) (l : PlainLabel) (ws : List (ℕ × PlainKeyed)) → Has (n, t) (rooted ws l) → Has (n, t) ws × (label_of t ≡ l)
rooted_has n t l ws m =
    let from = those_has (passed (labelled l)) n t ws m in
    let same : from.tree ≡ t = passed_is (labelled l) from.tree t from.gives in
    let label : label_of from.tree ≡ l = (label_cmp-is_eq (label_of from.tree) l).0 (passed_true (labelled l) from.tree t from.gives) in
    (subst (λ z. Has (n, z) ws) same from.has, subst (λ z. label_of z ≡ l) same label)

-- ---- lists of versions whose numbers ascend, and whose trees are ordered

pub record Orderly (ws : List (ℕ × PlainKeyed)) : Type 0 where
  pub ascending : Ascends nat_cmp (nums ws)
  pub ordered : AllByRecursion (λ w. IsOrdered w.1) ws

those_ordered : (f : PlainKeyed → Option PlainKeyed) → ((k : PlainKeyed) → IsOrdered k → IfSome (f k) IsOrdered) → (ws : List (ℕ × PlainKeyed)) → AllByRecursion (λ w. IsOrdered w.1) ws → AllByRecursion (λ w. IsOrdered w.1) (those f ws)
those_ordered f g [] h = tt
those_ordered f g (w ∷ ws) h =
    let rest = those_ordered f g ws h.1 in
    elim (f w.1) as (λ o. IfSome o IsOrdered → AllByRecursion (λ w. IsOrdered w.1) (onto w.0 o (those f ws))) [ None ↦ λ e. rest | Some k ↦ λ e. (e, rest) ] (g w.1 h.0)

kid_at_ordered : (l : PlainLabel) (k : PlainKeyed) → IsOrdered k → IfSome (kid_at l (kids_of k)) IsOrdered
kid_at_ordered l k h =
    elim (kid_at l (kids_of k)) as (λ o. kid_at l (kids_of k) ≡ o → IfSome o IsOrdered) [
      | None ↦ λ e. tt
      | Some c ↦ λ e. kid_ordered k c h (has_found l c (kids_of k) e).0
    ] refl

pub orderly_under : (ws : List (ℕ × PlainKeyed)) (l : PlainLabel) → Orderly ws → Orderly (under ws l)
orderly_under ws l h = record { ascending = those_ascend (λ k. kid_at l (kids_of k)) ws h.ascending; ordered = those_ordered (λ k. kid_at l (kids_of k)) (kid_at_ordered l) ws h.ordered }

passed_ordered : (p : PlainKeyed → Bool) (k : PlainKeyed) → IsOrdered k → IfSome (passed p k) IsOrdered
passed_ordered p k h = elim (p k) as (λ b. IfSome (cond b (Some k) None) IsOrdered) [ true ↦ h | false ↦ tt ]

pub orderly_rooted : (ws : List (ℕ × PlainKeyed)) (l : PlainLabel) → Orderly ws → Orderly (rooted ws l)
orderly_rooted ws l h = record { ascending = those_ascend (passed (labelled l)) ws h.ascending; ordered = those_ordered (passed (labelled l)) (passed_ordered (labelled l)) ws h.ordered }

pub nums-enumerate : (n : ℕ) (vs : List PlainKeyed) → nums (enumerate_from n vs) ≡ range_with_len n (length vs)
nums-enumerate n [] = refl
nums-enumerate n (v ∷ vs) = ap (λ z. n ∷ z) (nums-enumerate (n + 1) vs)

numbered_ordered : (n : ℕ) (vs : List PlainKeyed) → AllByRecursion IsOrdered vs → AllByRecursion (λ w. IsOrdered w.1) (enumerate_from n vs)
numbered_ordered n [] h = tt
numbered_ordered n (v ∷ vs) h = (h.0, numbered_ordered (n + 1) vs h.1)

pub orderly_numbered : (vs : List PlainKeyed) → AllByRecursion IsOrdered vs → Orderly (numbered vs)
orderly_numbered vs h = record { ascending = subst (Ascends nat_cmp) (sym (nums-enumerate 1 vs)) (range-ascend 1 (length vs)); ordered = numbered_ordered 1 vs h }
