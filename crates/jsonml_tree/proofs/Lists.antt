-- Lists in order, and what they have.
use Rattle.std.proofs.Common.{◌≡◌, ◌≢◌, ◌↔◌, ℕ, zero, suc, ◌<◌, ◌≤◌, Bool, true, false, IsTrue, List, [], ◌∷◌, ◌++◌, map, length, get_or, Any, refl, ap, sym, subst, ◌∙◌, inl, inr, arith}
use Rattle.std.proofs.lemmas.Cmp.{tied_itself}
use Rattle.std.proofs.lemmas.List.Sorted.{Contains-permutation, IsPermutation-sym, sum_by-IsPermutation}
use Rattle.std.proofs.lemmas.List.Sums.{sum_by-cons}
use Rattle.std.specs.Cmp.{IsTotalOrder}
use Rattle.std.specs.List.{AllByRecursion, Contains, sum_by}
use Rattle.std.specs.List.Sorted.{IsPermutation}
use Rattle.std.specs.declared.cmp.Ordering.{Ordering}
use Rattle.std.specs.declared.cmp.Ordering.TheVariants.{Less}
use Rattle.jsonml_tree.specs.Lists.{AllDiffer, Ascends, Has}

pub all_has : {K : Type 0} (P : K → Type 0) (xs : List K) (x : K) → AllByRecursion P xs → Has x xs → P x
all_has P [] x h m = absurd m
all_has P (y ∷ ys) x h m = elim m [ inl e ↦ subst P e h.0 | inr n ↦ all_has P ys x h.1 n ]

-- what holds of each item that a list has
pub has_all : {K : Type 0} (P : K → Type 0) (xs : List K) → ((x : K) → Has x xs → P x) → AllByRecursion P xs
has_all P [] h = tt
has_all P (x ∷ xs) h = (h x (inl refl), has_all P xs (λ y m. h y (inr m)))

-- of two lists, one after the other
pub all-append : {X : Type 0} (P : X → Type 0) (xs ys : List X) → AllByRecursion P xs → AllByRecursion P ys → AllByRecursion P (xs ++ ys)
all-append P [] ys h g = g
all-append P (x ∷ xs) ys h g = (h.0, all-append P xs ys h.1 g)

pub has_map : {X K : Type 0} (f : X → K) (x : X) (xs : List X) → Has x xs → Has (f x) (map f xs)
has_map f x [] m = absurd m
has_map f x (y ∷ ys) m = elim m [ inl e ↦ inl (ap f e) | inr n ↦ inr (has_map f x ys n) ]

-- an item of a list whose image is k
pub record Source {X K : Type 0} (f : X → K) (k : K) (xs : List X) : Type 0 where
  pub item : X
  pub has : Has item xs
  pub is : f item ≡ k

later : {X K : Type 0} (f : X → K) (k : K) (x : X) (xs : List X) → Source f k xs → Source f k (x ∷ xs)
later f k x xs s = record { item = s.item; has = inr s.has; is = s.is }

pub source : {X K : Type 0} (f : X → K) (k : K) (xs : List X) → Has k (map f xs) → Source f k xs
source f k [] m = absurd m
source f k (x ∷ xs) m = elim m [ inl e ↦ record { item = x; has = inl refl; is = e } | inr n ↦ later f k x xs (source f k xs n) ]

-- `Has`, `Contains` and `Any` say the same
pub at_has : {X : Type 0} (xs : List X) (k : ℕ) (x : X) → k < length xs → get_or xs k x ≡ x → Has x xs
at_has [] k x low at = absurd (omega arith)
at_has (y ∷ ys) zero x low at = inl at
at_has (y ∷ ys) (suc k) x low at = inr (at_has ys k x (omega arith) at)

pub has_at : {X : Type 0} (xs : List X) (x : X) → Has x xs → Contains xs x
has_at [] x m = absurd m
has_at (y ∷ ys) x m = elim m [ inl e ↦ (0, omega arith, e) | inr n ↦ (let h = has_at ys x n in let low : h.0 < length ys = h.1 in (suc h.0, omega arith, h.2)) ]

pub any_has : {X : Type 0} (P : X → Type 0) (xs : List X) → Any P xs → (x : X) × (Has x xs × P x)
any_has P xs h = (h.1, (at_has xs h.0 h.1 h.2 h.3, h.4))

pub has_any : {X : Type 0} (P : X → Type 0) (xs : List X) (x : X) → Has x xs → P x → Any P xs
has_any P [] x m p = absurd m
has_any P (y ∷ ys) x m p = elim m [
  | inl e ↦ (0, x, omega arith, e, p)
  | inr n ↦ (let h = has_any P ys x n p in let low : h.0 < length ys = h.2 in (suc h.0, h.1, omega arith, h.3, h.4))
]

-- ---- another order of the same items

pub has_permuted : {X : Type 0} (xs ys : List X) → IsPermutation xs ys → (z : X) → Has z xs → Has z ys
has_permuted xs ys p z m = (let h = Contains-permutation xs ys z p (has_at xs z m) in at_has ys h.0 z h.1 h.2)

pub all_permuted : {X : Type 0} (P : X → Type 0) (xs ys : List X) → IsPermutation xs ys → AllByRecursion P xs → AllByRecursion P ys
all_permuted P xs ys p h = has_all P ys (λ z m. all_has P xs z h (has_permuted ys xs (IsPermutation-sym xs ys p) z m))

-- ---- how often an item stands in a list

abbrev one_if : Bool → ℕ
one_if true = 1
one_if false = 0

module _ {K : Type 0} (same : K → K → Bool) (exact : (x y : K) → IsTrue (same x y) ↔ (x ≡ y)) where
  abbrev is_at : K → K → ℕ
  is_at k j = one_if (same j k)

  abbrev times : K → List K → ℕ
  times k js = sum_by (is_at k) js

  itself_once : (k : K) → is_at k k ≡ 1
  itself_once k = (let e : same k k ≡ true = (exact k k).1 refl in rw e refl)

  other_never : (k j : K) → k ≢ j → is_at k j ≡ 0
  other_never k j other =
      elim (same j k) as (λ b. same j k ≡ b → one_if b ≡ 0) [
        | true ↦ λ e. absurd (other (sym ((exact j k).0 e)))
        | false ↦ λ e. refl
      ] refl

  never_other : (k j : K) → is_at k j ≡ 0 → k ≢ j
  never_other k j e d = (let one = itself_once k in let e' : is_at k j ≡ is_at k k = ap (is_at k) (sym d) in omega arith)

  all-never : (k : K) (js : List K) → AllByRecursion (λ j. k ≢ j) js → times k js ≡ 0
  all-never k [] h = refl
  all-never k (j ∷ js) h = (let more = sum_by-cons (is_at k) j js in let this = other_never k j h.0 in let rest = all-never k js h.1 in omega arith)

  never-all : (k : K) (js : List K) → times k js ≡ 0 → AllByRecursion (λ j. k ≢ j) js
  never-all k [] e = tt
  never-all k (j ∷ js) e = (let more = sum_by-cons (is_at k) j js in (never_other k j (omega arith), never-all k js (omega arith)))

  at_most_one : (k j : K) → is_at k j ≤ 1
  at_most_one k j = elim (same j k) as (λ b. one_if b ≤ 1) [ true ↦ omega arith | false ↦ omega arith ]

  differ-times : (js : List K) → AllDiffer js → (k : K) → times k js ≤ 1
  differ-times [] a k = omega arith
  differ-times (j ∷ js) a k =
      let more = sum_by-cons (is_at k) j js in
      let one = at_most_one k j in
      elim (same j k) as (λ b. same j k ≡ b → times k (j ∷ js) ≤ 1) [
        | true ↦ λ e. (
            let is : j ≡ k = (exact j k).0 e in
            let rest : times k js ≡ 0 = subst (λ z. times z js ≡ 0) is (all-never j js a.0) in
            omega arith)
        | false ↦ λ e. (
            let this : is_at k j ≡ 0 = rw e refl in
            let rest = differ-times js a.1 k in
            omega arith)
      ] refl

  times-differ : (js : List K) → ((k : K) → times k js ≤ 1) → AllDiffer js
  times-differ [] h = tt
  times-differ (j ∷ js) h =
      let none : times j js ≡ 0 = (let more = sum_by-cons (is_at j) j js in let one = itself_once j in let most = h j in omega arith) in
      (never-all j js none, times-differ js (λ k. (let more = sum_by-cons (is_at k) j js in let most = h k in omega arith)))

  pub differ_permuted : (ks js : List K) → IsPermutation ks js → AllDiffer ks → AllDiffer js
  differ_permuted ks js p a = times-differ js (λ k. (let e = sum_by-IsPermutation (is_at k) ks js p in let most = differ-times ks a k in omega arith))

-- ---- lists that ascend

pub not_both : {K : Type 0} {R : K → K → Ordering} → IsTotalOrder R → (x y : K) → R x y ≡ Less → ¬ (R y x ≡ Less)
not_both o x y h g = let back = o.antisymm x y in cc

pub not_itself : {K : Type 0} {R : K → K → Ordering} → IsTotalOrder R → (x : K) → ¬ (R x x ≡ Less)
not_itself o x h = let e = tied_itself o x in cc

-- the head of a list is the head of another that has the same items
first_same : {X K : Type 0} (f : X → K) {R : K → K → Ordering} → IsTotalOrder R → (x y : X) (xs ys : List X)
    → Ascends R (map f (x ∷ xs)) → Ascends R (map f (y ∷ ys)) → Has x (y ∷ ys) → Has y (x ∷ xs) → x ≡ y
first_same f {R} o x y xs ys p q m n = elim m [
  | inl e ↦ sym e
  | inr m2 ↦ elim n [
    | inl e ↦ e
    | inr n2 ↦ absurd (not_both o (f x) (f y) (all_has (λ k. R (f x) k ≡ Less) (map f xs) (f y) p.0 (has_map f y xs n2)) (all_has (λ k. R (f y) k ≡ Less) (map f ys) (f x) q.0 (has_map f x ys m2)))
  ]
]

rest_has : {X K : Type 0} (f : X → K) {R : K → K → Ordering} → IsTotalOrder R → (x y : X) (xs ys : List X) → x ≡ y
    → Ascends R (map f (x ∷ xs)) → ((z : X) → Has z (x ∷ xs) → Has z (y ∷ ys)) → (z : X) → Has z xs → Has z ys
rest_has f {R} o x y xs ys e p h z m = elim (h z (inr m)) [
  | inl d ↦ absurd (not_itself o (f x) (subst (λ w. R (f x) (f w) ≡ Less) (sym (e ∙ d)) (all_has (λ k. R (f x) k ≡ Less) (map f xs) (f z) p.0 (has_map f z xs m))))
  | inr n ↦ n
]

-- two ascending lists that have the same items are one list
pub same_items : {X K : Type 0} (f : X → K) {R : K → K → Ordering} → IsTotalOrder R → (xs ys : List X)
    → Ascends R (map f xs) → Ascends R (map f ys) → ((z : X) → Has z xs → Has z ys) → ((z : X) → Has z ys → Has z xs) → xs ≡ ys
same_items f o [] [] p q h g = refl
same_items f o [] (y ∷ ys) p q h g = absurd (g y (inl refl))
same_items f o (x ∷ xs) [] p q h g = absurd (h x (inl refl))
same_items f o (x ∷ xs) (y ∷ ys) p q h g =
    let e : x ≡ y = first_same f o x y xs ys p q (h x (inl refl)) (g y (inl refl)) in
    let rest : xs ≡ ys = same_items f o xs ys p.1 q.1 (rest_has f o x y xs ys e p h) (rest_has f o y x ys xs (sym e) q g) in
    cc

-- in a list that ascends no two items have one key
pub one_of_key : {X K : Type 0} (f : X → K) {R : K → K → Ordering} → IsTotalOrder R → (xs : List X) → Ascends R (map f xs) → (x y : X) → Has x xs → Has y xs → f x ≡ f y → x ≡ y
one_of_key f o [] up x y m n e = absurd m
one_of_key f {R} o (z ∷ zs) up x y m n e = elim m [
  | inl c ↦ elim n [
    | inl d ↦ sym c ∙ d
    | inr q ↦ absurd (not_itself o (f z) (subst (λ k. R (f z) k ≡ Less) (sym e ∙ ap f (sym c)) (all_has (λ k. R (f z) k ≡ Less) (map f zs) (f y) up.0 (has_map f y zs q))))
  ]
  | inr p ↦ elim n [
    | inl d ↦ absurd (not_itself o (f z) (subst (λ k. R (f z) k ≡ Less) (e ∙ ap f (sym d)) (all_has (λ k. R (f z) k ≡ Less) (map f zs) (f x) up.0 (has_map f x zs p))))
    | inr q ↦ one_of_key f o zs up.1 x y p q e
  ]
]
