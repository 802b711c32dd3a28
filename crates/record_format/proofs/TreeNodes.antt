-- The nodes of a timestamp tree in preorder.
use Rattle.std.proofs.Common.{◌≡◌, ℕ, ◌+◌, ◌*◌, ◌<◌, ◌^◌, ◌==◌, Bool, true, false, cond, List, [], ◌∷◌, ◌++◌, length, refl, sym, ap, subst, ◌∙◌, append_assoc, arith}
use Rattle.std.specs.List.{flat_map, AllByRecursion}
use Rattle.std.proofs.lemmas.List.{append-nil, length-append}
use Rattle.xa_fields.specs.Spelling.{u64_bytes}
use Rattle.timestamp_tree.specs.Data.{PlainTs, leaf, node, top, leaves}
use Rattle.timestamp_tree.specs.Bytes.{set_bytes, tree_bytes}
use Rattle.timestamp_tree.specs.Tree.{IsTree}
use Rattle.timestamp_tree.proofs.Trees.{length-set_bytes, length-leaf, length-node}
use Rattle.record_parts.specs.Bounds.{IsSet}
use Rattle.xa_fields.specs.FieldLaws.{not_zero}
use Rattle.record_format.specs.Reading.{leaf_sets}
use Rattle.record_format.proofs.Unions.{IsSet-united}

abbrev pub Node : Type 0
Node = List (ℕ × ℕ) × ℕ

abbrev pub nodes_of : PlainTs → List Node
nodes_of (leaf s) = (s, 0) ∷ []
nodes_of (node s n l r) = (s, n) ∷ (nodes_of l ++ nodes_of r)

abbrev pub node_bytes : Node → List ℕ
node_bytes n = set_bytes n.0 ++ u64_bytes n.1

abbrev pub IsNode : Node → Type 0
IsNode n = IsSet n.0 × (n.1 < 2 ^ 64)

flat-append : (xs ys : List Node) → flat_map node_bytes (xs ++ ys) ≡ flat_map node_bytes xs ++ flat_map node_bytes ys
flat-append [] ys = refl
flat-append (x ∷ xs) ys = ap (λ (b : List ℕ). node_bytes x ++ b) (flat-append xs ys) ∙ sym (append_assoc (node_bytes x) (flat_map node_bytes xs) (flat_map node_bytes ys))

pub tree_bytes-is : (t : PlainTs) → tree_bytes t ≡ flat_map node_bytes (nodes_of t)
tree_bytes-is (leaf s) = sym (append-nil (set_bytes s ++ u64_bytes 0))
tree_bytes-is (node s n l r) =
    ap (λ (b : List ℕ). (set_bytes s ++ u64_bytes n) ++ b) ((λ i. tree_bytes-is l i ++ tree_bytes-is r i) ∙ sym (flat-append (nodes_of l) (nodes_of r)))

pub length-nodes_of : (t : PlainTs) → length (nodes_of t) + 1 ≡ 2 * length (leaves t)
length-nodes_of (leaf s) = refl
length-nodes_of (node s n l r) = omega (arith, length-nodes_of l, length-nodes_of r, length-append (nodes_of l) (nodes_of r), length-append (leaves l) (leaves r))

leaf_sets-append : (xs ys : List Node) → leaf_sets (xs ++ ys) ≡ leaf_sets xs ++ leaf_sets ys
leaf_sets-append [] ys = refl
leaf_sets-append (x ∷ xs) ys = first (x.1 == 0) (leaf_sets-append xs ys)
  where
    first : (b : Bool) → leaf_sets (xs ++ ys) ≡ leaf_sets xs ++ leaf_sets ys → cond b (x.0 ∷ leaf_sets (xs ++ ys)) (leaf_sets (xs ++ ys)) ≡ cond b (x.0 ∷ leaf_sets xs) (leaf_sets xs) ++ leaf_sets ys
    first true e = ap (λ (ss : List (List (ℕ × ℕ))). x.0 ∷ ss) e
    first false e = e

some_bytes : (t : PlainTs) → 0 < length (tree_bytes t)
some_bytes (leaf s) = omega (arith, length-leaf s, length-set_bytes s)
some_bytes (node s n l r) = omega (arith, length-node s n l r, length-set_bytes s)

pub leaf_sets-nodes_of : (t : PlainTs) → IsTree t → leaf_sets (nodes_of t) ≡ leaves t
leaf_sets-nodes_of (leaf s) h = refl
leaf_sets-nodes_of (node s n l r) h =
    let inner = not_zero n (omega (arith, h.1, some_bytes l)) in
    rw inner (leaf_sets-append (nodes_of l) (nodes_of r) ∙ (λ i. leaf_sets-nodes_of l h.3 i ++ leaf_sets-nodes_of r h.4 i))

All-append : (xs ys : List (List (ℕ × ℕ))) → AllByRecursion IsSet (xs ++ ys) → AllByRecursion IsSet xs × AllByRecursion IsSet ys
All-append [] ys h = (tt, h)
All-append (x ∷ xs) ys h = (let rest = All-append xs ys h.1 in ((h.0, rest.0), rest.1))

append-All : (xs ys : List Node) → AllByRecursion IsNode xs → AllByRecursion IsNode ys → AllByRecursion IsNode (xs ++ ys)
append-All [] ys p q = q
append-All (x ∷ xs) ys p q = (p.0, append-All xs ys p.1 q)

pub IsSet-top : (t : PlainTs) → IsTree t → AllByRecursion IsSet (leaves t) → IsSet (top t)
IsSet-top (leaf s) h f = f.0
IsSet-top (node s n l r) h f =
    let two = All-append (leaves l) (leaves r) f in
    subst IsSet (sym h.0) (IsSet-united (top l) (top r) (IsSet-top l h.3 two.0) (IsSet-top r h.4 two.1))

-- where the sets are within bounds and the whole is not too long, so is each node
pub each_node : (t : PlainTs) → IsTree t → AllByRecursion IsSet (leaves t) → length (tree_bytes t) < 2 ^ 64 → AllByRecursion IsNode (nodes_of t)
each_node (leaf s) h f short = ((f.0, omega arith), tt)
each_node (node s n l r) h f short =
    let two = All-append (leaves l) (leaves r) f in
    let size = length-node s n l r in
    let left : n ≡ length (tree_bytes l) = h.1 in
    ((IsSet-top (node s n l r) h f, omega arith), append-All (nodes_of l) (nodes_of r) (each_node l h.3 two.0 (omega arith)) (each_node r h.4 two.1 (omega arith)))

-- the sets of the leaves are among those of the nodes
pub each_leaf_set : (ns : List Node) → AllByRecursion IsNode ns → AllByRecursion IsSet (leaf_sets ns)
each_leaf_set [] h = tt
each_leaf_set (n ∷ ns) h = kept (n.1 == 0) (each_leaf_set ns h.1)
  where
    kept : (b : Bool) → AllByRecursion IsSet (leaf_sets ns) → AllByRecursion IsSet (cond b (n.0 ∷ leaf_sets ns) (leaf_sets ns))
    kept true rest = (h.0.0, rest)
    kept false rest = rest
