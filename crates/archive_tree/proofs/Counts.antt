-- In how many of some sets a number is.
use Rattle.std.proofs.Common.{◌≡◌, ◌↔◌, ◌+◌, ◌≤◌, ◌==◌, ℕ, Bool, true, false, cond, ◌&&◌, List, [], ◌∷◌, IsTrue, refl, sym, subst, ◌∙◌, arith, inl, inr, true≢false}
use Rattle.std.specs.List.{list_all}
use Rattle.std.proofs.lemmas.Bool.{eqb-true, eq-eqb, cases_lt}
use Rattle.version_set.specs.Members.{has}
use Rattle.keyed_tree.specs.Lists.{Has}
use Rattle.jsonml_tree.proofs.Lists.{all_has, has_all}
use Rattle.keyed_tree.proofs.Kids.{both}
use Rattle.archive_tree.specs.Parts.{Apart, AllApart, AreParts}
use Rattle.archive_tree.specs.PartsTest.{sets_with, are_parts}
use Rattle.archive_tree.proofs.Numbers.{has-Has, Has-has}

pub and : (a b : Bool) → IsTrue a → IsTrue b → IsTrue (a && b)
and true b h g = g
and false b h g = h

pub all_tells : {X : Type 0} (p : X → Bool) (xs : List X) → IsTrue (list_all p xs) → (x : X) → Has x xs → IsTrue (p x)
all_tells p [] h x m = absurd m
all_tells p (y ∷ ys) h x m = (let two = both (p y) (list_all p ys) h in elim m [ inl e ↦ subst (λ z. IsTrue (p z)) e two.0 | inr k ↦ all_tells p ys two.1 x k ])

pub tells_all : {X : Type 0} (p : X → Bool) (xs : List X) → ((x : X) → Has x xs → IsTrue (p x)) → IsTrue (list_all p xs)
tells_all p [] h = refl
tells_all p (x ∷ xs) h = and (p x) (list_all p xs) (h x (inl refl)) (tells_all p xs (λ n m. h n (inr m)))

-- 1 for a number that is there
abbrev pub one_if : Bool → ℕ
one_if b = cond b 1 0

one_le : (b : Bool) (k : ℕ) → k ≡ one_if b → k ≤ 1
one_le true k e = omega (arith, e)
one_le false k e = omega (arith, e)

one_must : (b : Bool) (k : ℕ) → k ≡ one_if b → 1 ≤ k → b ≡ true
one_must true k e le = refl
one_must false k e le = absurd (omega (arith, e, le))

-- ---- sets that have a number

has_some : (n : ℕ) (ss : List (List ℕ)) → 1 ≤ sets_with n ss → (s : List ℕ) × (Has s ss × Has n s)
has_some n [] h = absurd (omega (arith, h))
has_some n (s ∷ ss) h =
    elim (has s n) as (λ b. has s n ≡ b → 1 ≤ one_if b + sets_with n ss → (t : List ℕ) × (Has t (s ∷ ss) × Has n t)) [
      | true ↦ λ e g. (s, (inl refl, has-Has s n e))
      | false ↦ λ e g. (let rest = has_some n ss (omega (arith, g)) in (rest.0, (inr rest.1.0, rest.1.1)))
    ] refl h

some_has : (n : ℕ) (ss : List (List ℕ)) (s : List ℕ) → Has s ss → Has n s → 1 ≤ sets_with n ss
some_has n [] s m k = absurd m
some_has n (t ∷ ss) s m k =
    elim m [
      | inl e ↦ (let d : has t n ≡ true = Has-has t n (subst (Has n) (sym e) k) in rw d (omega arith))
      | inr i ↦ (let rest = some_has n ss s i k in omega (arith, rest))
    ]

one_at_most : (n : ℕ) (ss : List (List ℕ)) → AllApart ss → sets_with n ss ≤ 1
one_at_most n [] h = omega arith
one_at_most n (s ∷ ss) h =
    elim (has s n) as (λ b. has s n ≡ b → one_if b + sets_with n ss ≤ 1) [
      | true ↦ λ e. elim (cases_lt 0 (sets_with n ss)) [
        | inl lt ↦ absurd (let t = has_some n ss (omega (arith, lt)) in all_has (Apart s) ss t.0 h.0 t.1.0 n (has-Has s n e) t.1.1)
        | inr le ↦ omega (arith, le)
      ]
      | false ↦ λ e. (let rest = one_at_most n ss h.1 in omega (arith, rest))
    ] refl

one_apart : (ss : List (List ℕ)) → ((n : ℕ) → sets_with n ss ≤ 1) → AllApart ss
one_apart [] h = tt
one_apart (s ∷ ss) h = (
  has_all (Apart s) ss (λ t m n i j. (
      let most : 1 + sets_with n ss ≤ 1 = subst (λ b. one_if b + sets_with n ss ≤ 1) (Has-has s n i) (h n) in
      let some = some_has n ss t m j in
      absurd (omega (arith, most, some)))),
  one_apart ss (λ n. (let most = h n in omega (arith, most))),
)

-- ---- parts of a set

-- each number of the set is in one of its parts
pub parts_count : (ns : List ℕ) (ss : List (List ℕ)) → AreParts ss ns → (n : ℕ) → sets_with n ss ≡ one_if (has ns n)
parts_count ns ss h n =
    let most = one_at_most n ss h.apart in
    elim (has ns n) as (λ b. has ns n ≡ b → sets_with n ss ≡ one_if b) [
      | true ↦ λ e. (let t = h.whole n (has-Has ns n e) in let some = some_has n ss t.0 t.1.0 t.1.1 in omega (arith, most, some))
      | false ↦ λ e. elim (cases_lt 0 (sets_with n ss)) [
        | inl lt ↦ absurd (let t = has_some n ss (omega (arith, lt)) in true≢false (sym (Has-has ns n (h.inside t.0 t.1.0 n t.1.1)) ∙ e))
        | inr le ↦ omega (arith, le)
      ]
    ] refl

pub count_parts : (ns : List ℕ) (ss : List (List ℕ)) → ((n : ℕ) → sets_with n ss ≡ one_if (has ns n)) → AreParts ss ns
count_parts ns ss h = record {
  apart = one_apart ss (λ n. one_le (has ns n) (sets_with n ss) (h n));
  inside = λ s m n i. has-Has ns n (one_must (has ns n) (sets_with n ss) (h n) (some_has n ss s m i));
  whole = λ n m. has_some n ss (let e : sets_with n ss ≡ 1 = subst (λ b. sets_with n ss ≡ one_if b) (Has-has ns n m) (h n) in omega (arith, e));
}

pub parts_tell : (ns : List ℕ) (ss : List (List ℕ)) → IsTrue (are_parts ns ss) ↔ AreParts ss ns
parts_tell ns ss = (
  λ h. (
      let two = both (list_all (λ n. sets_with n ss == 1) ns) (list_all (λ s. list_all (has ns) s) ss) h in
      count_parts ns ss (λ n. elim (has ns n) as (λ b. has ns n ≡ b → sets_with n ss ≡ one_if b) [
        | true ↦ λ e. eqb-true (sets_with n ss) 1 (all_tells (λ m. sets_with m ss == 1) ns two.0 n (has-Has ns n e))
        | false ↦ λ e. elim (cases_lt 0 (sets_with n ss)) [
          | inl lt ↦ absurd (
              let t = has_some n ss (omega (arith, lt)) in
              let within = all_tells (λ s. list_all (has ns) s) ss two.1 t.0 t.1.0 in
              true≢false (sym (all_tells (has ns) t.0 within n t.1.1) ∙ e))
          | inr le ↦ omega (arith, le)
        ]
      ] refl)),
  λ h. and (list_all (λ n. sets_with n ss == 1) ns) (list_all (λ s. list_all (has ns) s) ss)
      (tells_all (λ m. sets_with m ss == 1) ns (λ n m. (let e : sets_with n ss ≡ 1 = subst (λ b. sets_with n ss ≡ one_if b) (Has-has ns n m) (parts_count ns ss h n) in eq-eqb (sets_with n ss) 1 e)))
      (tells_all (λ s. list_all (has ns) s) ss (λ s m. tells_all (has ns) s (λ n i. Has-has ns n (h.inside s m n i)))),
)

-- the numbers alone are their parts
pub whole_alone : (ns : List ℕ) → IsTrue (are_parts ns (ns ∷ []))
whole_alone ns =
    and (list_all (λ n. sets_with n (ns ∷ []) == 1) ns) (list_all (λ s. list_all (has ns) s) (ns ∷ []))
    (tells_all (λ n. sets_with n (ns ∷ []) == 1) ns (λ n m. once n (Has-has ns n m)))
    (and (list_all (has ns) ns) true (tells_all (has ns) ns (λ n m. Has-has ns n m)) refl)
  where
    once : (n : ℕ) → has ns n ≡ true → IsTrue (sets_with n (ns ∷ []) == 1)
    once n e = rw e refl
