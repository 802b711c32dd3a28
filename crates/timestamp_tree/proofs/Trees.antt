-- Trees over lists of sets.
use Rattle.std.proofs.Common.{◌≡◌, ℕ, zero, suc, ◌+◌, ◌*◌, ◌<◌, ◌≤◌, Bool, true, false, ◌||◌, leb, List, [], ◌∷◌, ◌++◌, length, take, drop, refl, sym, ap, subst, ◌∙◌, arith}
use Rattle.std.specs.List.{flat_map, AllByRecursion}
use Rattle.std.proofs.lemmas.Bool.Decides.{nat_tests}
use Rattle.std.proofs.lemmas.List.{length-append, take_at, drop_at, take-append-drop, length-take, length-drop}
use Rattle.version_set.specs.Pairs.{IsCanonical}
use Rattle.version_set.specs.Members.{members, has}
use Rattle.version_set.proofs.SetLemmas.{has-either, members-united, IsCanonical-united}
use Rattle.timestamp_tree.specs.Data.{PlainTs, leaf, node, top, leaves, height}
use Rattle.timestamp_tree.specs.Bytes.{pair_bytes, set_bytes, stored, tree_bytes}
use Rattle.timestamp_tree.specs.Tree.{half, joined, tree_within, tree_of, IsTree}

pub leaves_some : (t : PlainTs) → 1 ≤ length (leaves t)
leaves_some (leaf s) = omega arith
leaves_some (node s n l r) = omega (arith, leaves_some l, length-append (leaves l) (leaves r))

-- ---- the set of a tree

pub top_canonical : (t : PlainTs) → IsTree t → IsCanonical (top t)
top_canonical (leaf s) h = h
top_canonical (node s n l r) h = subst (λ (ps : List (ℕ × ℕ)). IsCanonical ps) (sym h.0) (IsCanonical-united (top l) (top r) (top_canonical l h.3) (top_canonical r h.4))

-- whether some set has i
abbrev pub some_has : List (List (ℕ × ℕ)) → ℕ → Bool
some_has [] i = false
some_has (s ∷ ss) i = has (members s) i || some_has ss i

or_assoc : (a b c : Bool) → ((a || b) || c) ≡ (a || (b || c))
or_assoc true b c = refl
or_assoc false b c = refl

or_false : (a : Bool) → (a || false) ≡ a
or_false true = refl
or_false false = refl

pub some_has-append : (xs ys : List (List (ℕ × ℕ))) (i : ℕ) → some_has (xs ++ ys) i ≡ (some_has xs i || some_has ys i)
some_has-append [] ys i = refl
some_has-append (s ∷ xs) ys i = ap (λ (b : Bool). has (members s) i || b) (some_has-append xs ys i) ∙ sym (or_assoc (has (members s) i) (some_has xs i) (some_has ys i))

-- a tree's set has what the sets of its leaves have
pub top_has : (t : PlainTs) (i : ℕ) → IsTree t → has (members (top t)) i ≡ some_has (leaves t) i
top_has (leaf s) i h = sym (or_false (has (members s) i))
top_has (node s n l r) i h =
    ap (λ (ps : List (ℕ × ℕ)). has (members ps) i) h.0
    ∙ ap (λ (ns : List ℕ). has ns i) (members-united (top l) (top r) (top_canonical l h.3) (top_canonical r h.4))
    ∙ has-either (members (top l)) (members (top r)) i
    ∙ (λ j. top_has l i h.3 j || top_has r i h.4 j)
    ∙ sym (some_has-append (leaves l) (leaves r) i)

-- ---- the tree over its leaves

-- the left part of a node has half of the leaves
pub left_half : (s : List (ℕ × ℕ)) (n : ℕ) (l r : PlainTs) → IsTree (node s n l r) → length (leaves l) ≡ half (length (leaves (node s n l r)))
left_half s n l r h = h.2 ∙ ap half (sym (length-append (leaves l) (leaves r)))

tree_is_within : (d : ℕ) (t : PlainTs) → IsTree t → length (leaves t) ≤ d + 1 → tree_within d (leaves t) ≡ t
tree_is_within zero (leaf s) h le = refl
tree_is_within (suc d) (leaf s) h le = refl
tree_is_within zero (node s n l r) h le = absurd (omega (arith, leaves_some l, leaves_some r, length-append (leaves l) (leaves r)))
tree_is_within (suc d) (node s n l r) h le =
    let k : ℕ = length (leaves (node s n l r)) in
    let sum = length-append (leaves l) (leaves r) in
    let a = leaves_some l in
    let b = leaves_some r in
    let many : leb k 1 ≡ false = grind (arith, nat_tests) in
    let at : length (leaves l) ≡ half k = left_half s n l r h in
    let front : take (half k) (leaves l ++ leaves r) ≡ leaves l = take_at (leaves l) (leaves r) (half k) at in
    let back : drop (half k) (leaves l ++ leaves r) ≡ leaves r = drop_at (leaves l) (leaves r) (half k) at in
    let left = tree_is_within d l h.3 (omega arith) in
    let right = tree_is_within d r h.4 (omega arith) in
    let made : joined l r ≡ node s n l r = (λ i. node (sym h.0 i) (sym h.1 i) l r) in
    rw many ((λ i. joined (tree_within d (front i)) (tree_within d (back i))) ∙ (λ i. joined (left i) (right i)) ∙ made)

-- a tree is the one over its leaves
pub tree_is : (t : PlainTs) → IsTree t → t ≡ tree_of (leaves t)
tree_is t h = sym (tree_is_within (length (leaves t)) t h (omega arith))

-- two trees that have the halves of a list
pub joined_tree : (l r : PlainTs) (sets : List (List (ℕ × ℕ))) → 1 < length sets → IsTree l → IsTree r → leaves l ≡ take (half (length sets)) sets → leaves r ≡ drop (half (length sets)) sets → IsTree (joined l r) × (leaves (joined l r) ≡ sets)
joined_tree l r sets many a b e f =
    let whole : leaves l ++ leaves r ≡ sets = (λ i. e i ++ f i) ∙ take-append-drop (half (length sets)) sets in
    let count : length (leaves l) + length (leaves r) ≡ length sets = sym (length-append (leaves l) (leaves r)) ∙ ap length whole in
    let left : length (leaves l) ≡ half (length sets) = ap length e ∙ length_front (half (length sets)) sets (omega arith) in
    ((refl, refl, left ∙ ap half (sym count), a, b), whole)
  where
    length_front : (n : ℕ) (xs : List (List (ℕ × ℕ))) → n ≤ length xs → length (take n xs) ≡ n
    length_front n xs le = omega (arith, length-take n xs)

pub height_within : (t : PlainTs) → suc (height t) ≤ length (leaves t)
height_within (leaf s) = omega arith
height_within (node s n l r) = omega (arith, height_within l, height_within r, length-append (leaves l) (leaves r))

-- ---- sizes

pub length-pairs : (ps : List (ℕ × ℕ)) → length (flat_map pair_bytes ps) ≡ 8 * length ps
length-pairs [] = refl
length-pairs (p ∷ ps) = omega (arith, length-pairs ps)

pub length-set_bytes : (ps : List (ℕ × ℕ)) → length (set_bytes ps) ≡ 4 + 8 * length ps
length-set_bytes ps = omega (arith, length-pairs ps)

pub length-stored : (s : List (ℕ × ℕ)) (n : ℕ) → length (stored s n) ≡ length (set_bytes s) + 8
length-stored s n = length-append (set_bytes s) _

pub length-leaf : (s : List (ℕ × ℕ)) → length (tree_bytes (leaf s)) ≡ length (set_bytes s) + 8
length-leaf s = length-stored s 0

pub length-node : (s : List (ℕ × ℕ)) (n : ℕ) (l r : PlainTs) → length (tree_bytes (node s n l r)) ≡ length (set_bytes s) + 8 + (length (tree_bytes l) + length (tree_bytes r))
length-node s n l r = omega (arith, length-append (stored s n) (tree_bytes l ++ tree_bytes r), length-stored s n, length-append (tree_bytes l) (tree_bytes r))

-- ---- the tree of a list

-- the leaves of the tree over these sets
leaves_within : (d : ℕ) (sets : List (List (ℕ × ℕ))) → 1 ≤ length sets → length sets ≤ d + 1 → leaves (tree_within d sets) ≡ sets
leaves_within d [] some le = absurd (omega arith)
leaves_within zero (s ∷ []) some le = refl
leaves_within (suc d) (s ∷ []) some le = refl
leaves_within zero (s ∷ u ∷ sets) some le = absurd (omega arith)
leaves_within (suc d) (s ∷ u ∷ sets) some le =
    let all : List (List (ℕ × ℕ)) = s ∷ u ∷ sets in
    let many : leb (length all) 1 ≡ false = grind (arith, nat_tests) in
    let front = length-take (half (length all)) all in
    let back = length-drop (half (length all)) all in
    let left = leaves_within d (take (half (length all)) all) (omega arith) (omega arith) in
    let right = leaves_within d (drop (half (length all)) all) (omega arith) (omega arith) in
    rw many ((λ i. left i ++ right i) ∙ take-append-drop (half (length all)) all)

pub leaves-tree_of : (sets : List (List (ℕ × ℕ))) → 1 ≤ length sets → leaves (tree_of sets) ≡ sets
leaves-tree_of sets some = leaves_within (length sets) sets some (omega arith)

all_front : (n : ℕ) (sets : List (List (ℕ × ℕ))) → AllByRecursion IsCanonical sets → AllByRecursion IsCanonical (take n sets)
all_front zero sets h = tt
all_front (suc n) [] h = tt
all_front (suc n) (s ∷ sets) h = (h.0, all_front n sets h.1)

all_back : (n : ℕ) (sets : List (List (ℕ × ℕ))) → AllByRecursion IsCanonical sets → AllByRecursion IsCanonical (drop n sets)
all_back zero sets h = h
all_back (suc n) [] h = h
all_back (suc n) (s ∷ sets) h = all_back n sets h.1

tree_within_is : (d : ℕ) (sets : List (List (ℕ × ℕ))) → 1 ≤ length sets → length sets ≤ d + 1 → AllByRecursion IsCanonical sets → IsTree (tree_within d sets)
tree_within_is d [] some le h = absurd (omega arith)
tree_within_is zero (s ∷ []) some le h = h.0
tree_within_is (suc d) (s ∷ []) some le h = h.0
tree_within_is zero (s ∷ u ∷ sets) some le h = absurd (omega arith)
tree_within_is (suc d) (s ∷ u ∷ sets) some le h =
    let all : List (List (ℕ × ℕ)) = s ∷ u ∷ sets in
    let k : ℕ = half (length all) in
    let many : leb (length all) 1 ≡ false = grind (arith, nat_tests) in
    let front = length-take k all in
    let back = length-drop k all in
    let l : PlainTs = tree_within d (take k all) in
    let r : PlainTs = tree_within d (drop k all) in
    let left = tree_within_is d (take k all) (omega arith) (omega arith) (all_front k all h) in
    let right = tree_within_is d (drop k all) (omega arith) (omega arith) (all_back k all h) in
    rw many (joined_tree l r all (omega arith) left right (leaves_within d (take k all) (omega arith) (omega arith)) (leaves_within d (drop k all) (omega arith) (omega arith))).0

-- what is made of canonical sets is a tree
pub IsTree-tree_of : (sets : List (List (ℕ × ℕ))) → 1 ≤ length sets → AllByRecursion IsCanonical sets → IsTree (tree_of sets)
IsTree-tree_of sets some h = tree_within_is (length sets) sets some (omega arith) h

pub ruleset trees = (leaves-tree_of, IsTree-tree_of, top_has, top_canonical)
