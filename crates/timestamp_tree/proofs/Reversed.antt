-- Trees over the halves of a list, and their bytes in reverse.
use Rattle.std.proofs.Common.{◌≡◌, ℕ, zero, suc, ◌+◌, ◌-◌, ◌<◌, ◌≤◌, Bool, true, false, ◌||◌, leb, List, [], ◌∷◌, ◌++◌, length, map, take, drop, reverse, refl, sym, ap, ◌∙◌, append_assoc, arith}
use Rattle.std.specs.Int.{div_ceil}
use Rattle.std.proofs.lemmas.Bool.Decides.{nat_tests}
use Rattle.std.proofs.lemmas.List.{length-append, length-map, length-take, length-drop, length-reverse, take-map, drop-map, reverse-append}
use Rattle.version_set.specs.Pairs.{IsCanonical}
use Rattle.version_set.specs.Members.{members, has, united}
use Rattle.version_set.proofs.SetLemmas.{members_either, pairs_united}
use Rattle.timestamp_tree.specs.Data.{PlainTs, top}
use Rattle.timestamp_tree.specs.Bytes.{stored, tree_bytes}
use Rattle.timestamp_tree.specs.Tree.{half, joined, tree_within, tree_of}

-- ---- unions

-- the union of a set and itself
pub united_same : (ps : List (ℕ × ℕ)) → IsCanonical ps → ps ≡ united ps ps
united_same ps c = pairs_united ps ps ps c (members_either ps ps ps c c c (λ n. sym (or_same (has (members ps) n))))
  where
    or_same : (b : Bool) → (b || b) ≡ b
    or_same true = refl
    or_same false = refl

-- ---- the tree over two halves

-- it does not matter how many more levels a tree might have
tree_deeper : (d e : ℕ) (sets : List (List (ℕ × ℕ))) → 1 ≤ length sets → length sets ≤ d + 1 → length sets ≤ e + 1 → tree_within d sets ≡ tree_within e sets
tree_deeper d e [] some le ge = absurd (omega arith)
tree_deeper zero zero (s ∷ []) some le ge = refl
tree_deeper zero (suc e) (s ∷ []) some le ge = refl
tree_deeper (suc d) zero (s ∷ []) some le ge = refl
tree_deeper (suc d) (suc e) (s ∷ []) some le ge = refl
tree_deeper zero e (s ∷ u ∷ sets) some le ge = absurd (omega arith)
tree_deeper (suc d) zero (s ∷ u ∷ sets) some le ge = absurd (omega arith)
tree_deeper (suc d) (suc e) (s ∷ u ∷ sets) some le ge =
    let all : List (List (ℕ × ℕ)) = s ∷ u ∷ sets in
    let k : ℕ = half (length all) in
    let many : leb (length all) 1 ≡ false = grind (arith, nat_tests) in
    let front = length-take k all in
    let back = length-drop k all in
    let left = tree_deeper d e (take k all) (omega arith) (omega arith) (omega arith) in
    let right = tree_deeper d e (drop k all) (omega arith) (omega arith) (omega arith) in
    rw many (λ i. joined (left i) (right i))

pub tree_of_halves : (sets : List (List (ℕ × ℕ))) → 1 < length sets → tree_of sets ≡ joined (tree_of (take (half (length sets)) sets)) (tree_of (drop (half (length sets)) sets))
tree_of_halves [] many = absurd (omega arith)
tree_of_halves (s ∷ []) many = absurd (omega arith)
tree_of_halves (s ∷ u ∷ sets) lt =
    let all : List (List (ℕ × ℕ)) = s ∷ u ∷ sets in
    let k : ℕ = half (length all) in
    let many : leb (length all) 1 ≡ false = grind (arith, nat_tests) in
    let front = length-take k all in
    let back = length-drop k all in
    let left = tree_deeper (suc (length sets)) (length (take k all)) (take k all) (omega arith) (omega arith) (omega arith) in
    let right = tree_deeper (suc (length sets)) (length (drop k all)) (drop k all) (omega arith) (omega arith) (omega arith) in
    rw many (λ i. joined (left i) (right i))

-- the two halves of a slice make the tree's parts
pub tree_of_slice : {A : Type 0} (f : A → List (ℕ × ℕ)) (xs front back : List A) (k : ℕ) → 1 < length xs → k ≡ div_ceil (length xs) 2 → front ≡ take k xs → back ≡ drop k xs
    → tree_of (map f xs) ≡ joined (tree_of (map f front)) (tree_of (map f back))
tree_of_slice {A} f xs front back k many half_is e g =
    let same = length-map xs f in
    let at : half (length (map f xs)) ≡ k = omega (arith, same, half_is) in
    let left : take (half (length (map f xs))) (map f xs) ≡ map f front = ap (λ (n : ℕ). take n (map f xs)) at ∙ take-map f k xs ∙ ap (map f) (sym e) in
    let right : drop (half (length (map f xs))) (map f xs) ≡ map f back = ap (λ (n : ℕ). drop n (map f xs)) at ∙ drop-map f k xs ∙ ap (map f) (sym g) in
    tree_of_halves (map f xs) (omega arith) ∙ (λ i. joined (tree_of (left i)) (tree_of (right i)))

-- ---- a node behind both of its parts

reversed_node : (h a b : List ℕ) → reverse (h ++ (a ++ b)) ≡ (reverse b ++ reverse a) ++ reverse h
reversed_node h a b = reverse-append h (a ++ b) ∙ ap (λ (x : List ℕ). x ++ reverse h) (reverse-append a b)

-- how many bytes were appended
appended : (p q x : List ℕ) → q ≡ p ++ reverse x → length q - length p ≡ length x
appended p q x e = let a = length-append p (reverse x) in let r = length-reverse x in let s = ap length e in omega arith

-- the right part was written, then the left part, then the head of the node
pub node_behind : (l r : PlainTs) (o p q z : List ℕ) (ls rs : List (ℕ × ℕ)) (size : ℕ) → p ≡ o ++ reverse (tree_bytes r) → q ≡ p ++ reverse (tree_bytes l) → ls ≡ top l → rs ≡ top r → size ≡ length q - length p
    → z ≡ q ++ reverse (stored (united ls rs) size) → z ≡ o ++ reverse (tree_bytes (joined l r))
node_behind l r o p q z ls rs size e f g h s w =
    let a : List ℕ = tree_bytes l in
    let b : List ℕ = tree_bytes r in
    let head : List ℕ = stored (united (top l) (top r)) (length a) in
    let n : size ≡ length a = s ∙ appended p q a f in
    let both : q ≡ o ++ (reverse b ++ reverse a) = f ∙ ap (λ (x : List ℕ). x ++ reverse a) e ∙ append_assoc o (reverse b) (reverse a) in
    w ∙ (λ i. both i ++ reverse (stored (united (g i) (h i)) (n i))) ∙ append_assoc o (reverse b ++ reverse a) (reverse head) ∙ ap (λ (x : List ℕ). o ++ x) (sym (reversed_node head a b))
