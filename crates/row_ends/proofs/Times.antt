-- The intervals of the sets of all kids.
use Rattle.std.proofs.Common.{◌≡◌, ℕ, zero, suc, ◌+◌, List, [], ◌∷◌, ◌++◌, ◌<◌, length, drop, get_or, replicate, Some, None, refl, sym, ap, ◌∙◌, append_assoc, append-nil, drop-cons, add-one, arith}
use Rattle.std.specs.List.{flat_map}
use Rattle.std.proofs.lemmas.List.{map-append}
use Rattle.std.proofs.lemmas.List.Concat.{flat_map-append}
use Rattle.record_format.specs.Nodes.{set_in}
use Rattle.row_ends.specs.Kids.{stamps_in, sets_in}
use Rattle.row_ends.proofs.Stamps.{Set}

abbrev pub intervals : List Set → Set
intervals ss = flat_map (λ s. s) ss

-- the same set once more
times-suc : (n : ℕ) (set : Set) → intervals (replicate (suc n) set) ≡ intervals (replicate n set) ++ set
times-suc zero set = append-nil set
times-suc (suc n) set = ap (λ (rest : Set). set ++ rest) (times-suc n set) ∙ sym (append_assoc set (intervals (replicate n set)) set)

pub times_more : (n : ℕ) (set : Set) → intervals (replicate (n + 1) set) ≡ intervals (replicate n set) ++ set
times_more n set = (let next : n + 1 ≡ suc n = omega arith in ap (λ (k : ℕ). intervals (replicate k set)) next ∙ times-suc n set)

-- kids that inherit have the set of the row
inherited : (row : Set) (n : ℕ) → sets_in row (replicate n None) ≡ replicate n row
inherited row zero = refl
inherited row (suc n) = ap (λ (ss : List Set). row ∷ ss) (inherited row n)

-- the intervals so far, and those that are left
abbrev pub left_of : Set → List (ℕ × Set) → ℕ → Set
left_of row ss n = intervals (sets_in row (stamps_in ss n))

-- first kids that inherit, and one that stores its set
pub left-first : (row : Set) (s : ℕ × Set) (ss : List (ℕ × Set)) (n : ℕ) → left_of row (s ∷ ss) n ≡ intervals (replicate s.0 row) ++ (s.1 ++ left_of row ss n)
left-first row s ss n =
    ap intervals (map-append (λ t. set_in t row) (replicate s.0 None) (Some s.1 ∷ stamps_in ss n) ∙ ap (λ (front : List Set). front ++ (s.1 ∷ sets_in row (stamps_in ss n))) (inherited row s.0))
    ∙ flat_map-append (λ s. s) (replicate s.0 row) (s.1 ∷ sets_in row (stamps_in ss n))

pub left-last : (row : Set) (n : ℕ) → left_of row [] n ≡ intervals (replicate n row)
left-last row n = ap intervals (inherited row n)

-- the first of those that are left was added
pub one-done : (row old new : Set) (s : ℕ × Set) (ss : List (ℕ × Set)) (n : ℕ) → new ≡ (old ++ intervals (replicate s.0 row)) ++ s.1 → new ++ left_of row ss n ≡ old ++ left_of row (s ∷ ss) n
one-done row old new s ss n e =
    let more = intervals (replicate s.0 row) in
    ap (λ (x : Set). x ++ left_of row ss n) e
    ∙ append_assoc (old ++ more) s.1 (left_of row ss n)
    ∙ append_assoc old more (s.1 ++ left_of row ss n)
    ∙ ap (λ (x : Set). old ++ x) (sym (left-first row s ss n))

-- the one at an index is the first of those that are left from there
pub first-left : {X : Type 0} (xs : List X) (i : ℕ) (x : X) → i < length xs → x ≡ get_or xs i x → drop i xs ≡ x ∷ drop (i + 1) xs
first-left xs i x here is = drop-cons xs i x here ∙ ap (λ y. y ∷ drop (suc i) xs) (sym is) ∙ ap (λ n. x ∷ drop n xs) (sym (add-one i))
