-- Trees over sets that are all the same.
use Rattle.std.proofs.Common.{◌≡◌, ℕ, zero, suc, ◌+◌, ◌-◌, ◌*◌, ◌<◌, ◌≤◌, List, ◌++◌, length, take, drop, replicate, refl, sym, ap, ◌∙◌, append_assoc, arith}
use Rattle.std.specs.Int.{div_ceil}
use Rattle.std.proofs.Math.Nat.{add-mul}
use Rattle.std.proofs.lemmas.List.{length-append, length-replicate, take-replicate, drop-replicate, take_at}
use Rattle.xa_fields.specs.Spelling.{u64_bytes}
use Rattle.version_set.specs.Pairs.{IsCanonical}
use Rattle.version_set.specs.Members.{united}
use Rattle.timestamp_tree.specs.Data.{PlainTs, node, top}
use Rattle.timestamp_tree.specs.Bytes.{set_bytes, stored, tree_bytes}
use Rattle.timestamp_tree.specs.Tree.{half, joined, tree_of}
use Rattle.timestamp_tree.proofs.Trees.{length-stored}
use Rattle.timestamp_tree.proofs.Reversed.{united_same, tree_of_halves}

-- the tree over so many times this set
abbrev alike : ℕ → List (ℕ × ℕ) → PlainTs
alike k s = tree_of (replicate k s)

alike_halves : (k : ℕ) (s : List (ℕ × ℕ)) → 1 < k → alike k s ≡ joined (alike (half k) s) (alike (k - half k) s)
alike_halves k s many =
    let count = length-replicate k s in
    let at : half (length (replicate k s)) ≡ half k = ap half count in
    let left : take (half (length (replicate k s))) (replicate k s) ≡ replicate (half k) s = ap (λ (n : ℕ). take n (replicate k s)) at ∙ take-replicate (half k) k s (omega arith) in
    let right : drop (half (length (replicate k s))) (replicate k s) ≡ replicate (k - half k) s = ap (λ (n : ℕ). drop n (replicate k s)) at ∙ drop-replicate (half k) k s in
    tree_of_halves (replicate k s) (omega (arith, count)) ∙ (λ i. joined (tree_of (left i)) (tree_of (right i)))

-- the size of a node with its parts
one_more : (p q m n : ℕ) → m ≡ p + q + 1 → n + (p * n + q * n) ≡ m * n
one_more p q m n e = omega (arith, add-mul (p + q) 1 n, add-mul p q n, ap (λ (x : ℕ). x * n) e)

-- its root has the set, and all of its nodes have the size of a leaf
record Alike (k : ℕ) (s : List (ℕ × ℕ)) : Type 0 where
  tops : top (alike k s) ≡ s
  sizes : length (tree_bytes (alike k s)) ≡ (k + (k - 1)) * length (stored s 0)

alike_within : (d k : ℕ) (s : List (ℕ × ℕ)) → IsCanonical s → 1 ≤ k → k ≤ d → Alike k s
alike_within d zero s c some le = absurd (omega arith)
alike_within zero (suc k) s c some le = absurd (omega arith)
alike_within (suc d) (suc zero) s c some le = record { tops = refl; sizes = omega arith }
alike_within (suc d) (suc (suc k)) s c some le =
    let all : ℕ = suc (suc k) in
    let n : ℕ = length (stored s 0) in
    let front : ℕ = half all in
    let back : ℕ = all - front in
    let l : Alike front s = alike_within d front s c (omega arith) (omega arith) in
    let r : Alike back s = alike_within d back s c (omega arith) (omega arith) in
    let halves = alike_halves all s (omega arith) in
    let set : united (top (alike front s)) (top (alike back s)) ≡ s = (λ i. united (l.tops i) (r.tops i)) ∙ sym (united_same s c) in
    let own : length (stored s (length (tree_bytes (alike front s)))) ≡ n = length-stored s _ ∙ sym (length-stored s 0) in
    record {
      tops = ap top halves ∙ set;
      sizes = ap (λ (t : PlainTs). length (tree_bytes t)) halves
          ∙ ap (λ (u : List (ℕ × ℕ)). length (tree_bytes (node u (length (tree_bytes (alike front s))) (alike front s) (alike back s)))) set
          ∙ omega (arith, length-append (stored s (length (tree_bytes (alike front s)))) (tree_bytes (alike front s) ++ tree_bytes (alike back s)), length-append (tree_bytes (alike front s)) (tree_bytes (alike back s)), own, l.sizes, r.sizes)
          ∙ one_more (front + (front - 1)) (back + (back - 1)) (all + (all - 1)) n (omega arith);
    }

-- the bytes of a leaf's set
set_of_leaf : (s : List (ℕ × ℕ)) → take (length (stored s 0) - 8) (stored s 0) ≡ set_bytes s
set_of_leaf s = take_at (set_bytes s) (u64_bytes 0) (length (stored s 0) - 8) (omega (arith, length-stored s 0))

-- the head of a node was written, then the left part, then the right part
pub copies_behind : (s : List (ℕ × ℕ)) (whole o p q z : List ℕ) (k front : ℕ) → IsCanonical s → whole ≡ stored s 0 → 1 < k → front ≡ div_ceil k 2
    → p ≡ o ++ (take (length whole - 8) whole ++ u64_bytes ((front + (front - 1)) * length whole)) → q ≡ p ++ tree_bytes (alike front s) → z ≡ q ++ tree_bytes (alike (k - front) s) → z ≡ o ++ tree_bytes (alike k s)
copies_behind s whole o p q z k front c is many half_is e f g =
    let at : front ≡ half k = omega (arith, half_is) in
    let l = alike_within front front s c (omega arith) (omega arith) in
    let r = alike_within (k - front) (k - front) s c (omega arith) (omega arith) in
    let a : List ℕ = tree_bytes (alike front s) in
    let b : List ℕ = tree_bytes (alike (k - front) s) in
    let set : s ≡ united (top (alike front s)) (top (alike (k - front) s)) = united_same s c ∙ (λ i. united (sym l.tops i) (sym r.tops i)) in
    let front_bytes : take (length whole - 8) whole ≡ set_bytes s = ap (λ (x : List ℕ). take (length x - 8) x) is ∙ set_of_leaf s in
    let size : (front + (front - 1)) * length whole ≡ length a = ap (λ (x : List ℕ). (front + (front - 1)) * length x) is ∙ sym l.sizes in
    let head : List ℕ = stored s (length a) in
    let heads : p ≡ o ++ head = e ∙ (λ i. o ++ (front_bytes i ++ u64_bytes (size i))) in
    let split : alike k s ≡ joined (alike front s) (alike (k - front) s) = alike_halves k s many ∙ ap (λ (n : ℕ). joined (alike n s) (alike (k - n) s)) (sym at) in
    let made : node s (length a) (alike front s) (alike (k - front) s) ≡ alike k s = ap (λ (u : List (ℕ × ℕ)). node u (length a) (alike front s) (alike (k - front) s)) set ∙ sym split in
    g ∙ ap (λ (x : List ℕ). x ++ b) (f ∙ ap (λ (x : List ℕ). x ++ a) heads) ∙ ap (λ (x : List ℕ). x ++ b) (append_assoc o head a) ∙ append_assoc o (head ++ a) b ∙ ap (λ (x : List ℕ). o ++ x) (append_assoc head a b) ∙ ap (λ (t : PlainTs). o ++ tree_bytes t) made
