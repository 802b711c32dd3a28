-- Kids in a row, and a search among them.
use Rattle.std.proofs.Common.{◌≡◌, ◌≢◌, ℕ, zero, suc, ◌+◌, ◌<◌, Bool, true, false, cond, IsTrue, ◌&&◌, true≢false, List, [], ◌∷◌, map, get_or, length, Option, Some, None, Result, Ok, Err, MatchResult, refl, ap, sym, subst, ◌∙◌, inl, inr, arith}
use Rattle.std.proofs.lemmas.Bool.{cases_lt}
use Rattle.std.specs.Option.{option_map}
use Rattle.std.specs.List.{find, AllByRecursion}
use Rattle.std.specs.List.Sorted.{IsSearchInRange, IsBinarySearchResult, IsSortedBy}
use Rattle.std.proofs.lemmas.List.Sorted.{searchable_from_sorted}
use Rattle.std.specs.Ordering.{is_lt, is_eq}
use Rattle.std.specs.declared.cmp.Ordering.{Ordering}
use Rattle.std.specs.declared.cmp.Ordering.TheVariants.{Less, Equal, Greater}
use Rattle.keyed_tree.specs.Data.{PlainLabel, PlainKeyed, inner, leaf, label_of, PlainKids, no_kids, kid, kids_from, kids_list, kids_of}
use Rattle.keyed_tree.specs.Kids.{ascend_from, ascend, are_ordered, IsOrdered, kid_at}
use Rattle.keyed_tree.specs.Lists.{Ascends, Has}
use Rattle.keyed_tree.specs.Order.{label_cmp}
use Rattle.keyed_tree.specs.Laws.{label_cmp_total, label_cmp_exact, label_cmp-is_eq}
use Rattle.jsonml_tree.proofs.Lists.{all_has}

pub kids_list-kids_from : (ks : List PlainKeyed) → kids_list (kids_from ks) ≡ ks
kids_list-kids_from [] = refl
kids_list-kids_from (k ∷ ks) = ap (λ z. k ∷ z) (kids_list-kids_from ks)

pub kids_from-kids_list : (ks : PlainKids) → kids_from (kids_list ks) ≡ ks
kids_from-kids_list no_kids = refl
kids_from-kids_list (kid k ks) = ap (λ z. kid k z) (kids_from-kids_list ks)

pub kids_list-injective : (ks js : PlainKids) → kids_list ks ≡ kids_list js → ks ≡ js
kids_list-injective ks js e = sym (kids_from-kids_list ks) ∙ ap kids_from e ∙ kids_from-kids_list js

-- both tests of a conjunction pass
pub both : (a b : Bool) → IsTrue (a && b) → IsTrue a × IsTrue b
both true b h = (refl, h)
both false b h = absurd (true≢false (sym h))

pub is_lt-Less : (o : Ordering) → IsTrue (is_lt o) → o ≡ Less
is_lt-Less o h = grind arith

-- ---- ascending neighbours are ascending pairs

above_all : (l m : PlainLabel) (ks : PlainKids) → label_cmp l m ≡ Less → AllByRecursion (λ n. label_cmp m n ≡ Less) (map label_of (kids_list ks)) → AllByRecursion (λ n. label_cmp l n ≡ Less) (map label_of (kids_list ks))
above_all l m no_kids e h = tt
above_all l m (kid k ks) e h = (label_cmp_total.trans l m (label_of k) e h.0, above_all l m ks e h.1)

pub ascend_from-all : (l : PlainLabel) (ks : PlainKids) → IsTrue (ascend_from l ks) → AllByRecursion (λ m. label_cmp l m ≡ Less) (map label_of (kids_list ks)) × Ascends label_cmp (map label_of (kids_list ks))
ascend_from-all l no_kids h = (tt, tt)
ascend_from-all l (kid k ks) h =
    let two = both (is_lt (label_cmp l (label_of k))) (ascend_from (label_of k) ks) h in
    let next : label_cmp l (label_of k) ≡ Less = is_lt-Less _ two.0 in
    let rest = ascend_from-all (label_of k) ks two.1 in
    ((next, above_all l (label_of k) ks next rest.0), rest)

pub ascend-all : (ks : PlainKids) → IsTrue (ascend ks) → Ascends label_cmp (map label_of (kids_list ks))
ascend-all no_kids h = tt
ascend-all (kid k ks) h = ascend_from-all (label_of k) ks h

pub all-ascend_from : (l : PlainLabel) (ks : PlainKids) → AllByRecursion (λ m. label_cmp l m ≡ Less) (map label_of (kids_list ks)) → Ascends label_cmp (map label_of (kids_list ks)) → IsTrue (ascend_from l ks)
all-ascend_from l no_kids h g = refl
all-ascend_from l (kid k ks) h g = (let e = h.0 in rw e (all-ascend_from (label_of k) ks g.0 g.1))

pub all-ascend : (ks : PlainKids) → Ascends label_cmp (map label_of (kids_list ks)) → IsTrue (ascend ks)
all-ascend no_kids h = refl
all-ascend (kid k ks) h = all-ascend_from (label_of k) ks h.0 h.1

pub kids_ascend : (t : PlainKeyed) → IsOrdered t → Ascends label_cmp (map label_of (kids_of t))
kids_ascend (inner l ks) h = ascend-all ks (both (ascend ks) (are_ordered ks) h).0
kids_ascend (leaf l b) h = tt

-- ---- the kid with a label

is_itself : (l : PlainLabel) → is_eq (label_cmp l l) ≡ true
is_itself l = (label_cmp-is_eq l l).1 refl

is_other : (l m : PlainLabel) → label_cmp l m ≡ Less → is_eq (label_cmp l m) ≡ false
is_other l m e = rw e

-- a kid is found by its label
pub found_at : (c : PlainKeyed) (ks : List PlainKeyed) → Ascends label_cmp (map label_of ks) → Has c ks → kid_at (label_of c) ks ≡ Some c
found_at c [] up m = absurd m
found_at c (k ∷ ks) up m = elim m [
  | inl e ↦ (let d : is_eq (label_cmp (label_of k) (label_of c)) ≡ true = subst (λ z. is_eq (label_cmp (label_of k) (label_of z)) ≡ true) e (is_itself (label_of k)) in rw d (ap (λ z. Some z) e))
  | inr n ↦ (let low = all_has (λ x. label_cmp (label_of k) (label_of x) ≡ Less) ks c (labels_above k ks up.0) n in let d = is_other (label_of k) (label_of c) low in rw d (found_at c ks up.1 n))
]
  where
    labels_above : (k : PlainKeyed) (ks : List PlainKeyed) → AllByRecursion (λ m. label_cmp (label_of k) m ≡ Less) (map label_of ks) → AllByRecursion (λ x. label_cmp (label_of k) (label_of x) ≡ Less) ks
    labels_above k [] h = tt
    labels_above k (j ∷ js) h = (h.0, labels_above k js h.1)

some_same : (a b : PlainKeyed) → Some a ≡ Some b → a ≡ b
some_same a b d = cc

-- what is found is a kid, and has the label
pub has_found : (l : PlainLabel) (c : PlainKeyed) (ks : List PlainKeyed) → kid_at l ks ≡ Some c → Has c ks × (label_of c ≡ l)
has_found l c [] e = cc
has_found l c (k ∷ ks) e =
    elim (is_eq (label_cmp (label_of k) l)) as (λ b. is_eq (label_cmp (label_of k) l) ≡ b → cond b (Some k) (kid_at l ks) ≡ Some c → Has c (k ∷ ks) × (label_of c ≡ l)) [
      | true ↦ λ t d. (let same : k ≡ c = some_same k c d in (inl same, subst (λ z. label_of z ≡ l) same ((label_cmp-is_eq (label_of k) l).0 t)))
      | false ↦ λ t d. (let rest = has_found l c ks d in (inr rest.0, rest.1))
    ] refl e

-- no kid has the label
pub not_found : (l : PlainLabel) (ks : List PlainKeyed) → kid_at l ks ≡ None → (c : PlainKeyed) → Has c ks → label_of c ≢ l
not_found l [] e c m d = m
not_found l (k ∷ ks) e c m d =
    elim (is_eq (label_cmp (label_of k) l)) as (λ b. is_eq (label_cmp (label_of k) l) ≡ b → cond b (Some k) (kid_at l ks) ≡ None → ⊥) [
      | true ↦ λ t f. cc
      | false ↦ λ t f. elim m [
        | inl g ↦ true≢false (sym ((label_cmp-is_eq (label_of k) l).1 (ap label_of g ∙ d)) ∙ t)
        | inr n ↦ not_found l ks f c n d
      ]
    ] refl e

-- ---- a search by halving, among whatever has labels that ascend

module _ {X : Type 0} (name : X → PlainLabel) where
  sorted : (xs : List X) → Ascends label_cmp (map name xs) → IsSortedBy (λ a b. is_lt (label_cmp (name a) (name b))) xs
  sorted [] up k d low high = absurd (omega arith)
  sorted (x ∷ []) up k d low high = absurd (omega arith)
  sorted (x ∷ y ∷ xs) up zero d low high = (let below = up.0.0 in let back = label_cmp_total.antisymm (name y) (name x) in grind arith)
  sorted (x ∷ y ∷ xs) up (suc k) d low high = let e : suc k + 1 ≡ suc (k + 1) = omega arith in rw e (sorted (y ∷ xs) up.1 k d (omega arith) (omega arith))

  abbrev pub at_label : PlainLabel → List X → Option X
  at_label l xs = find (λ x. is_eq (label_cmp (name x) l)) xs

  none_at : (l : PlainLabel) (xs : List X) → ((k : ℕ) (d : X) → k < length xs → label_cmp (name (get_or xs k d)) l ≢ Equal) → at_label l xs ≡ None
  none_at l [] h = refl
  none_at l (x ∷ xs) h =
      let rest = none_at l xs (λ k d low. h (suc k) d (omega arith)) in
      let other = h 0 x (omega arith) in
      elim (label_cmp (name x) l) as (λ o. (o ≢ Equal) → cond (is_eq o) (Some x) (at_label l xs) ≡ None) [ Less ↦ λ n. rest | Equal ↦ λ n. absurd (n refl) | Greater ↦ λ n. rest ] other

  before : (x y : X) (l : PlainLabel) → label_cmp (name x) (name y) ≡ Less → label_cmp (name y) l ≡ Equal → is_eq (label_cmp (name x) l) ≡ false
  before x y l low e = (let same : name y ≡ l = label_cmp_exact (name y) l e in subst (λ z. is_eq (label_cmp (name x) z) ≡ false) same (is_other (name x) (name y) low))

  below_at : (P : PlainLabel → Type 0) (xs : List X) (i : ℕ) (d : X) → AllByRecursion P (map name xs) → i < length xs → P (name (get_or xs i d))
  below_at P [] i d h low = absurd (omega arith)
  below_at P (x ∷ xs) zero d h low = h.0
  below_at P (x ∷ xs) (suc i) d h low = below_at P xs i d h.1 (omega arith)

  one_at : (l : PlainLabel) (xs : List X) (i : ℕ) (d : X) → Ascends label_cmp (map name xs) → i < length xs → label_cmp (name (get_or xs i d)) l ≡ Equal → at_label l xs ≡ Some (get_or xs i d)
  one_at l [] i d up low e = absurd (omega arith)
  one_at l (x ∷ xs) zero d up low e = rw e
  one_at l (x ∷ xs) (suc i) d up low e =
      let less = below_at (λ m. label_cmp (name x) m ≡ Less) xs i d up.0 (omega arith) in
      let other = before x (get_or xs i d) l less e in
      rw other (one_at l xs i d up.1 (omega arith) e)

  -- what a binary search among ascending labels answers is what a search from the front finds
  pub search_finds : (l : PlainLabel) (xs : List X) (r : Result ℕ ℕ) → Ascends label_cmp (map name xs) → IsSearchInRange r (length xs) → IsBinarySearchResult (λ x. label_cmp (name x) l) xs r
      → MatchResult r (λ i. (d : X) → at_label l xs ≡ Some (get_or xs i d)) (λ i. at_label l xs ≡ None)
  search_finds l xs (Ok i) up range is = λ d. one_at l xs i d up range (is d)
  search_finds l xs (Err i) up range is =
      let split = is (searchable_from_sorted label_cmp_total name xs l (sorted xs up)) in
      none_at l xs (λ k d low e. elim (cases_lt k i) [ inl h ↦ (let less = split.0 k d (omega arith) h in cc) | inr h ↦ (let greater = split.1 k d h low in cc) ])

-- the same of what a slice holds, by its view
module _ {X Y : Type 0} (view : X → Y) (name : Y → PlainLabel) where
  at_label-map : (l : PlainLabel) (xs : List X) → at_label name l (map view xs) ≡ option_map view (at_label (λ x. name (view x)) l xs)
  at_label-map l [] = refl
  at_label-map l (x ∷ xs) =
      let rest = at_label-map l xs in
      elim (is_eq (label_cmp (name (view x)) l)) as (λ b. cond b (Some (view x)) (at_label name l (map view xs)) ≡ option_map view (cond b (Some x) (at_label (λ x. name (view x)) l xs))) [ true ↦ refl | false ↦ rest ]

  names-map : (xs : List X) → map name (map view xs) ≡ map (λ x. name (view x)) xs
  names-map [] = refl
  names-map (x ∷ xs) = ap (λ z. name (view x) ∷ z) (names-map xs)

  pub search_seen : (l : PlainLabel) (xs : List X) (r : Result ℕ ℕ) → Ascends label_cmp (map name (map view xs)) → IsSearchInRange r (length xs) → IsBinarySearchResult (λ x. label_cmp (name (view x)) l) xs r
      → MatchResult r (λ i. (d : X) → Some (view (get_or xs i d)) ≡ at_label name l (map view xs)) (λ i. None ≡ at_label name l (map view xs))
  search_seen l xs (Ok i) up range is =
      let found = search_finds (λ x. name (view x)) l xs (Ok i) (subst (Ascends label_cmp) (names-map xs) up) range is in
      λ d. sym (at_label-map l xs ∙ ap (option_map view) (found d))
  search_seen l xs (Err i) up range is =
      let none = search_finds (λ x. name (view x)) l xs (Err i) (subst (Ascends label_cmp) (names-map xs) up) range is in
      sym (at_label-map l xs ∙ ap (option_map view) none)

-- the labels of a list of kids that ascend
pub labels_ascend : (ks : List PlainKeyed) → IsTrue (ascend (kids_from ks)) → Ascends label_cmp (map label_of ks)
labels_ascend ks h = subst (λ js. Ascends label_cmp (map label_of js)) (kids_list-kids_from ks) (ascend-all (kids_from ks) h)

pub search_kid : {X : Type 0} (view : X → PlainKeyed) (l : PlainLabel) (xs : List X) (r : Result ℕ ℕ) → IsTrue (ascend (kids_from (map view xs))) → IsSearchInRange r (length xs) → IsBinarySearchResult (λ x. label_cmp (label_of (view x)) l) xs r
    → MatchResult r (λ i. (d : X) → Some (view (get_or xs i d)) ≡ kid_at l (map view xs)) (λ i. None ≡ kid_at l (map view xs))
search_kid view l xs r h range is = search_seen view label_of l xs r (labels_ascend (map view xs) h) range is
