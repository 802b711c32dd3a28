-- What a search finds, and how many nodes it visits.
use Rattle.std.proofs.Common.{◌≡◌, ℕ, zero, suc, ◌+◌, ◌*◌, ◌≤◌, max, Bool, true, false, ◌||◌, List, [], ◌∷◌, ◌++◌, length, refl, sym, ap, subst, ◌∙◌, arith}
use Rattle.std.proofs.lemmas.List.{length-append, append-nil}
use Rattle.std.specs.Int.{div_ceil}
use Rattle.std.proofs.Math.Nat.{mul-le-mul_left, mul-suc}
use Rattle.version_set.specs.Members.{members, has}
use Rattle.timestamp_tree.specs.Data.{PlainTs, leaf, node, leaves, height}
use Rattle.timestamp_tree.specs.Tree.{IsTree}
use Rattle.timestamp_tree.specs.Search.{answers_from, answers, visits}
use Rattle.timestamp_tree.proofs.Trees.{some_has, top_has, left_half}

-- ---- answers

neither : (a b : Bool) → (a || b) ≡ false → (a ≡ false) × (b ≡ false)
neither true b e = absurd cc
neither false b e = (refl, e)

-- no position where no set has i
pub answers_none : (i at : ℕ) (sets : List (List (ℕ × ℕ))) → some_has sets i ≡ false → answers_from i at sets ≡ []
answers_none i at [] h = refl
answers_none i at (s ∷ ss) h =
    let both = neither (has (members s) i) (some_has ss i) h in
    rw both.0 (answers_none i (at + 1) ss both.1)

some_first : (i at : ℕ) (s : List (ℕ × ℕ)) (ss : List (List (ℕ × ℕ))) (b : Bool) → has (members s) i ≡ b → (b || some_has ss i) ≡ true → (some_has ss i ≡ true → 1 ≤ length (answers_from i (at + 1) ss)) → 1 ≤ length (answers_from i at (s ∷ ss))
some_first i at s ss true e h rest = rw e (omega arith)
some_first i at s ss false e h rest = rw e (rest h)

-- some position where some set has i
answers_some : (i at : ℕ) (sets : List (List (ℕ × ℕ))) → some_has sets i ≡ true → 1 ≤ length (answers_from i at sets)
answers_some i at [] h = absurd cc
answers_some i at (s ∷ ss) h = some_first i at s ss (has (members s) i) refl h (answers_some i (at + 1) ss)

append_first : (i at : ℕ) (s : List (ℕ × ℕ)) (xs ys : List (List (ℕ × ℕ))) (b : Bool) → has (members s) i ≡ b → answers_from i (at + 1) (xs ++ ys) ≡ answers_from i (at + 1) xs ++ answers_from i (at + suc (length xs)) ys
    → answers_from i at (s ∷ (xs ++ ys)) ≡ answers_from i at (s ∷ xs) ++ answers_from i (at + suc (length xs)) ys
append_first i at s xs ys true e rest = rw e (ap (λ (r : List ℕ). at ∷ r) rest)
append_first i at s xs ys false e rest = rw e rest

pub answers-append : (i at : ℕ) (xs ys : List (List (ℕ × ℕ))) → answers_from i at (xs ++ ys) ≡ answers_from i at xs ++ answers_from i (at + length xs) ys
answers-append i at [] ys = let e : at ≡ at + 0 = omega arith in ap (λ (n : ℕ). answers_from i n ys) e
answers-append i at (s ∷ xs) ys =
    let e : at + 1 + length xs ≡ at + suc (length xs) = omega arith in
    append_first i at s xs ys (has (members s) i) refl (answers-append i (at + 1) xs ys ∙ ap (λ (n : ℕ). answers_from i (at + 1) xs ++ answers_from i n ys) e)

-- a node whose set lacks i has no answer below
pub node_none : (i at : ℕ) (s : List (ℕ × ℕ)) (n : ℕ) (l r : PlainTs) → IsTree (node s n l r) → has (members s) i ≡ false → answers_from i at (leaves (node s n l r)) ≡ []
node_none i at s n l r h e = answers_none i at (leaves (node s n l r)) (sym (top_has (node s n l r) i h) ∙ e)

-- ---- visits

-- a part of the answers, under a lower height
part : (a h m : ℕ) → h ≤ m → 2 * a * h ≤ 2 * a * m
part a h m le = mul-le-mul_left (2 * a) le

twice : (a b n : ℕ) → 2 * (a + b) * n ≡ 2 * a * n + 2 * b * n
twice a b zero = omega arith
twice a b (suc n) = rw (mul-suc, mul-suc, mul-suc) (omega (arith, twice a b n))

both_parts : (v w a b m : ℕ) → v ≤ 1 + 2 * a * m → w ≤ 1 + 2 * b * m → 1 ≤ a + b → 1 + v + w ≤ 1 + 2 * (a + b) * suc m
both_parts v w a b m p q some = rw mul-suc (omega (arith, twice a b m))

visits_node : (i at : ℕ) (s : List (ℕ × ℕ)) (n : ℕ) (l r : PlainTs) (b : Bool) → IsTree (node s n l r) → has (members s) i ≡ b
    → visits l i ≤ 1 + 2 * length (answers_from i at (leaves l)) * height l → visits r i ≤ 1 + 2 * length (answers_from i (at + length (leaves l)) (leaves r)) * height r
    → visits (node s n l r) i ≤ 1 + 2 * length (answers_from i at (leaves (node s n l r))) * suc (max (height l) (height r))
visits_node i at s n l r true h e left right =
    let a : ℕ = length (answers_from i at (leaves l)) in
    let b : ℕ = length (answers_from i (at + length (leaves l)) (leaves r)) in
    let m : ℕ = max (height l) (height r) in
    let lower = part a (height l) m (omega arith) in
    let higher = part b (height r) m (omega arith) in
    let some : 1 ≤ length (answers_from i at (leaves (node s n l r))) = answers_some i at (leaves (node s n l r)) (sym (top_has (node s n l r) i h) ∙ e) in
    let sum : a + b ≡ length (answers_from i at (leaves (node s n l r))) = sym (length-append (answers_from i at (leaves l)) (answers_from i (at + length (leaves l)) (leaves r))) ∙ ap length (sym (answers-append i at (leaves l) (leaves r))) in
    let bound = both_parts (visits l i) (visits r i) a b m (omega (arith, left, lower)) (omega (arith, right, higher)) (omega (arith, sum, some)) in
    rw e (subst (λ (x : ℕ). 1 + visits l i + visits r i ≤ 1 + 2 * x * suc (max (height l) (height r))) sum bound)
visits_node i at s n l r false h e left right = rw e (omega arith)

visits_at : (i at : ℕ) (t : PlainTs) → IsTree t → visits t i ≤ 1 + 2 * length (answers_from i at (leaves t)) * height t
visits_at i at (leaf s) h = omega arith
visits_at i at (node s n l r) h = visits_node i at s n l r (has (members s) i) h refl (visits_at i at l h.3) (visits_at i (at + length (leaves l)) r h.4)

-- a search visits few nodes beside those that lead to answers
pub visits_within : (t : PlainTs) (i : ℕ) → IsTree t → visits t i ≤ 1 + 2 * length (answers (leaves t) i) * height t
visits_within t i h = visits_at i 0 t h

-- ---- a visited node

-- v is a node of a tree, and its set lacks i
pub none_below : (i at : ℕ) (v : PlainTs) (s : List (ℕ × ℕ)) (n : ℕ) (l r : PlainTs) (out : List ℕ) → v ≡ node s n l r → IsTree v → has (members s) i ≡ false → out ≡ out ++ answers_from i at (leaves v)
none_below i at v s n l r out e h lacks =
    let none : answers_from i at (leaves v) ≡ [] = ap (λ (t : PlainTs). answers_from i at (leaves t)) e ∙ node_none i at s n l r (subst IsTree e h) lacks in
    sym (append-nil out) ∙ ap (λ (x : List ℕ). out ++ x) (sym none)

-- the left part has half of so many sets
pub half_left : (v : PlainTs) (s : List (ℕ × ℕ)) (n : ℕ) (l r : PlainTs) (count k : ℕ) → v ≡ node s n l r → IsTree v → count ≡ length (leaves v) → k ≡ div_ceil count 2 → (k ≡ length (leaves l)) × (count ≡ length (leaves l) + length (leaves r))
half_left v s n l r count k e h is half_is =
    let sum : length (leaves v) ≡ length (leaves l) + length (leaves r) = ap (λ (t : PlainTs). length (leaves t)) e ∙ length-append (leaves l) (leaves r) in
    let part = left_half s n l r (subst IsTree e h) in
    let same : length (leaves (node s n l r)) ≡ length (leaves v) = ap (λ (t : PlainTs). length (leaves t)) (sym e) in
    (omega arith, omega arith)

-- the answers of both parts
pub answers_below : (i at : ℕ) (v : PlainTs) (s : List (ℕ × ℕ)) (n : ℕ) (l r : PlainTs) (k : ℕ) → v ≡ node s n l r → k ≡ length (leaves l) → answers_from i at (leaves v) ≡ answers_from i at (leaves l) ++ answers_from i (at + k) (leaves r)
answers_below i at v s n l r k e half_is =
    ap (λ (t : PlainTs). answers_from i at (leaves t)) e ∙ answers-append i at (leaves l) (leaves r) ∙ ap (λ (m : ℕ). answers_from i at (leaves l) ++ answers_from i (at + m) (leaves r)) (sym half_is)
