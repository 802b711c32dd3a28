-- Names that are the same, by length and bytes, against their order.
use Rattle.std.proofs.Common.{◌≡◌, ℕ, ◌<◌, ◌≤◌, Bool, true, false, ◌&&◌, List, [], ◌∷◌, length, take, refl, ap, ap₂, sym, ◌∙◌, arith, String, Global, string_bytes, string_cmp, string_eq}
use Rattle.std.proofs.lemmas.Map.Text.{is_eq-slice_cmp}
use Rattle.std.specs.Cmp.Lexicographic.{pointwise, slice_cmp}
use Rattle.std.specs.Ordering.{is_eq, ordering_then}
use Rattle.std.specs.declared.cmp.Ordering.{Ordering}
use Rattle.std.specs.declared.cmp.Ordering.TheVariants.{Less, Equal, Greater}
use Rattle.std.specs.Str.{bytes_eq}
use Rattle.key_spec.specs.RuleView.{names_view}
use Rattle.key_spec.specs.Rules.{name_cmp, path_cmp, place_cmp, goes_behind}

pub is_eq-then : (o r : Ordering) → is_eq (ordering_then o r) ≡ is_eq o && is_eq r
is_eq-then Less r = refl
is_eq-then Equal r = refl
is_eq-then Greater r = refl

-- one name on
pub same-step : (x y : List ℕ) (xs ys : List (List ℕ)) → bytes_eq x y ≡ true → is_eq (path_cmp (x ∷ xs) (y ∷ ys)) ≡ is_eq (path_cmp xs ys)
same-step x y xs ys e = is_eq-then (name_cmp x y) (path_cmp xs ys) ∙ ap (λ b. b && is_eq (path_cmp xs ys)) (is_eq-slice_cmp x y ∙ e)

pub other-step : (x y : List ℕ) (xs ys : List (List ℕ)) → bytes_eq x y ≡ false → is_eq (path_cmp (x ∷ xs) (y ∷ ys)) ≡ false
other-step x y xs ys e = is_eq-then (name_cmp x y) (path_cmp xs ys) ∙ ap (λ b. b && is_eq (path_cmp xs ys)) (is_eq-slice_cmp x y ∙ e)

and-false : (b c : Bool) → c ≡ false → b && c ≡ false
and-false true c e = e
and-false false c e = refl

pub slices-order : (xs ys : List (String Global)) → slice_cmp string_cmp xs ys ≡ path_cmp (names_view xs) (names_view ys)
slices-order [] [] = refl
slices-order [] (y ∷ ys) = refl
slices-order (x ∷ xs) [] = refl
slices-order (x ∷ xs) (y ∷ ys) = ap (ordering_then (name_cmp (string_bytes x) (string_bytes y))) (slices-order xs ys)

pub slices-same : (xs ys : List (String Global)) → pointwise string_eq xs ys ≡ is_eq (path_cmp (names_view xs) (names_view ys))
slices-same [] [] = refl
slices-same [] (y ∷ ys) = refl
slices-same (x ∷ xs) [] = refl
slices-same (x ∷ xs) (y ∷ ys) =
    ap₂ (λ a b. a && b) (sym (is_eq-slice_cmp (string_bytes x) (string_bytes y))) (slices-same xs ys)
    ∙ sym (is_eq-then (name_cmp (string_bytes x) (string_bytes y)) (path_cmp (names_view xs) (names_view ys)))

pub same-place : (context : List (List ℕ)) (tag : List ℕ) (other : List (List ℕ)) (name : List ℕ)
    → is_eq (place_cmp context tag other name) ≡ bytes_eq tag name && is_eq (path_cmp context other)
same-place context tag other name = is_eq-then (path_cmp context other) (name_cmp tag name) ∙ swap (is_eq (path_cmp context other)) (is_eq (name_cmp tag name)) (bytes_eq tag name) (is_eq-slice_cmp tag name)
  where
    swap : (a b c : Bool) → b ≡ c → a && b ≡ c && a
    swap true true c e = ap (λ d. d && true) e
    swap true false c e = ap (λ d. d && true) e
    swap false true c e = ap (λ d. d && false) e
    swap false false c e = ap (λ d. d && false) e

-- ---- names behind a path

pub behind-short : (path names : List (List ℕ)) → length names ≤ length path → goes_behind path names ≡ false
behind-short [] [] h = refl
behind-short [] (n ∷ names) h = absurd (omega (arith, h))
behind-short (s ∷ path) [] h = refl
behind-short (s ∷ path) (n ∷ names) h = and-false (bytes_eq s n) (goes_behind path names) (behind-short path names (omega (arith, h)))

pub behind-long : (path names : List (List ℕ)) → length path < length names → goes_behind path names ≡ is_eq (path_cmp path (take (length path) names))
behind-long [] [] h = absurd (omega (arith, h))
behind-long [] (n ∷ names) h = refl
behind-long (s ∷ path) [] h = absurd (omega (arith, h))
behind-long (s ∷ path) (n ∷ names) h = one (bytes_eq s n) refl (behind-long path names (omega (arith, h)))
  where
    cut : List (List ℕ)
    cut = take (length path) names

    one : (b : Bool) → bytes_eq s n ≡ b → goes_behind path names ≡ is_eq (path_cmp path cut) → (b && goes_behind path names) ≡ is_eq (path_cmp (s ∷ path) (n ∷ cut))
    one true e more = more ∙ sym (same-step s n path cut e)
    one false e more = sym (other-step s n path cut e)

pub ruleset same = (same-place)
