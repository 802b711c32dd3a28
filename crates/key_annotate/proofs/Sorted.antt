-- Kids that a sort has put in order, against the kids in order.
use Rattle.std.proofs.Common.{◌≡◌, ◌≢◌, ℕ, zero, suc, ◌+◌, ◌<◌, ◌≤◌, Bool, true, false, cond, IsTrue, true≢false, List, [], ◌∷◌, map, length, get_or, Some, None, refl, ap, sym, subst, ◌∙◌, inl, inr, arith}
use Rattle.std.proofs.lemmas.List.Sums.{sum_by-cons}
use Rattle.std.proofs.lemmas.List.Sorted.{sum_by-IsPermutation, Contains-permutation, IsPermutation-sym}
use Rattle.std.specs.List.{AllByRecursion, Contains, sum_by}
use Rattle.std.specs.List.Sorted.{IsPermutation, IsSortedBy}
use Rattle.std.specs.Ordering.{is_lt, is_eq, ordering_reverse}
use Rattle.std.specs.declared.cmp.Ordering.TheVariants.{Less, Equal, Greater}
use Rattle.keyed_tree.specs.Data.{PlainLabel, PlainKeyed, label_of, kids_from}
use Rattle.keyed_tree.specs.Kids.{ascend}
use Rattle.std.proofs.lemmas.List.{length-map, get_or-map}
use Rattle.keyed_tree.specs.Lists.{Has}
use Rattle.keyed_tree.specs.Order.{label_cmp}
use Rattle.keyed_tree.specs.Laws.{label_cmp_total, label_cmp_exact, label_cmp-is_eq}
use Rattle.jsonml_tree.proofs.Lists.{same_items}
use Rattle.key_annotate.specs.Annotated.{in_order}
use Rattle.key_annotate.specs.Ordered.{kids_in_order}
use Rattle.key_annotate.proofs.InOrder.{Apart, Rise, has-order, order-has, rise-order, apart-rise, order-apart, ascend-rise, rise-ascend}

-- ---- how often a label stands among kids, which no order changes

abbrev one_if : Bool → ℕ
one_if true = 1
one_if false = 0

abbrev is_at : PlainLabel → PlainKeyed → ℕ
is_at l k = one_if (is_eq (label_cmp (label_of k) l))

abbrev times : PlainLabel → List PlainKeyed → ℕ
times l ks = sum_by (is_at l) ks

itself_once : (k : PlainKeyed) → is_at (label_of k) k ≡ 1
itself_once k = let e : is_eq (label_cmp (label_of k) (label_of k)) ≡ true = (label_cmp-is_eq (label_of k) (label_of k)).1 refl in rw e refl

other_never : (l : PlainLabel) (k : PlainKeyed) → l ≢ label_of k → is_at l k ≡ 0
other_never l k other =
    elim (is_eq (label_cmp (label_of k) l)) as (λ b. is_eq (label_cmp (label_of k) l) ≡ b → one_if b ≡ 0) [
      | true ↦ λ e. absurd (other (sym ((label_cmp-is_eq (label_of k) l).0 e)))
      | false ↦ λ e. refl
    ] refl

never_other : (l : PlainLabel) (k : PlainKeyed) → is_at l k ≡ 0 → l ≢ label_of k
never_other l k e d = let one = itself_once k in let same : is_at l k ≡ is_at (label_of k) k = ap (λ m. is_at m k) d in omega arith

all-never : (l : PlainLabel) (ks : List PlainKeyed) → AllByRecursion (λ j. l ≢ label_of j) ks → times l ks ≡ 0
all-never l [] h = refl
all-never l (k ∷ ks) h = let more = sum_by-cons (is_at l) k ks in let this = other_never l k h.0 in let rest = all-never l ks h.1 in omega arith

never-all : (l : PlainLabel) (ks : List PlainKeyed) → times l ks ≡ 0 → AllByRecursion (λ j. l ≢ label_of j) ks
never-all l [] e = tt
never-all l (k ∷ ks) e = let more = sum_by-cons (is_at l) k ks in (never_other l k (omega arith), never-all l ks (omega arith))

at_most_one : (l : PlainLabel) (k : PlainKeyed) → is_at l k ≤ 1
at_most_one l k = elim (is_eq (label_cmp (label_of k) l)) as (λ b. one_if b ≤ 1) [ true ↦ omega arith | false ↦ omega arith ]

apart-times : (ks : List PlainKeyed) → Apart ks → (l : PlainLabel) → times l ks ≤ 1
apart-times [] a l = omega arith
apart-times (k ∷ ks) a l =
    let more = sum_by-cons (is_at l) k ks in
    let one = at_most_one l k in
    elim (is_eq (label_cmp (label_of k) l)) as (λ b. is_eq (label_cmp (label_of k) l) ≡ b → times l (k ∷ ks) ≤ 1) [
      | true ↦ λ e. (
          let same : label_of k ≡ l = (label_cmp-is_eq (label_of k) l).0 e in
          let rest : times l ks ≡ 0 = subst (λ m. times m ks ≡ 0) same (all-never (label_of k) ks a.0) in
          omega arith)
      | false ↦ λ e. (
          let this : is_at l k ≡ 0 = rw e refl in
          let rest = apart-times ks a.1 l in
          omega arith)
    ] refl

times-apart : (ks : List PlainKeyed) → ((l : PlainLabel) → times l ks ≤ 1) → Apart ks
times-apart [] h = tt
times-apart (k ∷ ks) h =
    let none : times (label_of k) ks ≡ 0 = (let more = sum_by-cons (is_at (label_of k)) k ks in let one = itself_once k in let most = h (label_of k) in omega arith) in
    (never-all (label_of k) ks none, times-apart ks (λ l. let more = sum_by-cons (is_at l) k ks in let most = h l in omega arith))

apart-permuted : (ks js : List PlainKeyed) → IsPermutation ks js → Apart ks → Apart js
apart-permuted ks js p a = times-apart js (λ l. let same = sum_by-IsPermutation (is_at l) ks js p in let most = apart-times ks a l in omega arith)

-- ---- sorted kids

pub at_has : (xs : List PlainKeyed) (k : ℕ) (x : PlainKeyed) → k < length xs → get_or xs k x ≡ x → Has x xs
at_has [] k x low at = absurd (omega arith)
at_has (y ∷ ys) zero x low at = inl at
at_has (y ∷ ys) (suc k) x low at = inr (at_has ys k x (omega arith) at)

pub has_at : (xs : List PlainKeyed) (x : PlainKeyed) → Has x xs → Contains xs x
has_at [] x m = absurd m
has_at (y ∷ ys) x m = elim m [ inl e ↦ (0, omega arith, e) | inr n ↦ (let h = has_at ys x n in let low : h.0 < length ys = h.1 in (suc h.0, omega arith, h.2)) ]

has-permuted : (ks js : List PlainKeyed) → IsPermutation ks js → (z : PlainKeyed) → Has z ks → Has z js
has-permuted ks js p z m = let h = Contains-permutation ks js z p (has_at ks z m) in at_has js h.0 z h.1 h.2

abbrev pub before : PlainKeyed → PlainKeyed → Bool
before a b = is_lt (label_cmp (label_of a) (label_of b))

-- sorted kids of which no two have one label ascend
next_less : (l m : PlainLabel) → l ≢ m → is_lt (label_cmp m l) ≡ false → is_lt (label_cmp l m) ≡ true
next_less l m other e =
    elim (label_cmp m l) as (λ o. label_cmp m l ≡ o → is_lt o ≡ false → is_lt (label_cmp l m) ≡ true) [
      | Less ↦ λ d f. absurd (true≢false f)
      | Equal ↦ λ d f. absurd (other (sym (label_cmp_exact m l d)))
      | Greater ↦ λ d f. ap is_lt (label_cmp_total.antisymm l m ∙ ap ordering_reverse d)
    ] refl e

sorted-tail : (k : PlainKeyed) (ks : List PlainKeyed) → IsSortedBy before (k ∷ ks) → IsSortedBy before ks
sorted-tail k ks h = λ i d low high.
    let next : suc i + 1 ≡ suc (i + 1) = omega arith in
    subst (λ n. before (get_or (k ∷ ks) n d) (get_or ks i d) ≡ false) next (h (suc i) d (omega arith) (omega arith))

sorted-ascend : (ks : List PlainKeyed) → Apart ks → IsSortedBy before ks → IsTrue (ascend (kids_from ks))
sorted-ascend [] a h = refl
sorted-ascend (k ∷ []) a h = refl
sorted-ascend (k ∷ j ∷ ks) a h =
    let next : is_lt (label_cmp (label_of k) (label_of j)) ≡ true = next_less (label_of k) (label_of j) a.0.0 (h 0 k (omega arith) (omega arith)) in
    rw next (sorted-ascend (j ∷ ks) a.1 (sorted-tail k (j ∷ ks) h))

no_order : (b c : Bool) → (IsTrue c → IsTrue b) → b ≡ false → c ≡ false
no_order b true h e = absurd (true≢false (sym (h refl) ∙ e))
no_order b false h e = refl

-- the kids in order are the sorted ones, where these ascend; where they do not, no order does
pub sorted-kids : (ks js : List PlainKeyed) → IsPermutation ks js → IsSortedBy before js → cond (ascend (kids_from js)) (Some js) None ≡ kids_in_order ks
sorted-kids ks js p up =
    elim (ascend (kids_from js)) as (λ b. ascend (kids_from js) ≡ b → cond b (Some js) None ≡ kids_in_order ks) [
      | true ↦ λ e. (
          let rise : Rise js = ascend-rise js e in
          let back = IsPermutation-sym ks js p in
          let order : Rise (in_order ks) = rise-order ks (apart-permuted js ks back (apart-rise js rise)) in
          let same : js ≡ in_order ks = same_items label_of label_cmp_total js (in_order ks) rise order (λ z m. has-order z ks (has-permuted js ks back z m)) (λ z m. has-permuted ks js p z (order-has z ks m)) in
          let ok : ascend (kids_from (in_order ks)) ≡ true = rise-ascend (in_order ks) order in
          rw ok (ap (λ z. Some z) same))
      | false ↦ λ e. (
          let none : ascend (kids_from (in_order ks)) ≡ false =
          no_order (ascend (kids_from js)) (ascend (kids_from (in_order ks))) (λ h. sorted-ascend js (apart-permuted ks js p (order-apart ks (ascend-rise (in_order ks) h))) up) e in
          rw none refl)
    ] refl

-- ---- the same of what the code sorts, and of what the code finds to ascend

module _ {X : Type 0} (view : X → PlainKeyed) where
  sorted-at : (ks : List X) (x : X) → IsSortedBy (λ a b. before (view a) (view b)) ks → IsSortedBy before (map view ks)
  sorted-at ks x h = λ k d low high.
      let len : length (map view ks) ≡ length ks = length-map ks view in
      let later : get_or (map view ks) (k + 1) d ≡ view (get_or ks (k + 1) x) = get_or-map view ks (k + 1) x d (omega arith) in
      let sooner : get_or (map view ks) k d ≡ view (get_or ks k x) = get_or-map view ks k x d (omega arith) in
      let test : before (view (get_or ks (k + 1) x)) (view (get_or ks k x)) ≡ false = h k x low (omega arith) in
      ap (λ y. before y (get_or (map view ks) k d)) later ∙ ap (before (view (get_or ks (k + 1) x))) sooner ∙ test

  pub sorted-views : (ks : List X) → IsSortedBy (λ a b. before (view a) (view b)) ks → IsSortedBy before (map view ks)
  sorted-views [] h = λ k d low high. absurd (omega arith)
  sorted-views (x ∷ xs) h = sorted-at (x ∷ xs) x h

  -- fewer than two ascend
  pub few-ascend : (ks : List X) → length ks ≤ 1 → ascend (kids_from (map view ks)) ≡ true
  few-ascend [] h = refl
  few-ascend (k ∷ []) h = refl
  few-ascend (k ∷ j ∷ ks) h = absurd (omega arith)
