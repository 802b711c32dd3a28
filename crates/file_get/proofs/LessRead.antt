-- No more is read, where sets are halved, than what a search looks at.
use Rattle.std.proofs.Common.{◌≡◌, ℕ, ◌+◌, ◌*◌, ◌≤◌, ◌<◌, Bool, true, false, leb, List, [], ◌∷◌, length, Some, None, refl, arith}
use Rattle.std.specs.Prelude.{if◌then◌else◌}
use Rattle.std.proofs.lemmas.Bool.Decides.{nat_tests}
use Rattle.version_set.specs.Members.{members, has, upto_pairs}
use Rattle.archive_tree.specs.Data.{Stamp, PlainAlt, PlainNode, inner_node, leaf_node, PlainNodes, no_nodes, node, node_stamp, PlainArchive}
use Rattle.timestamp_tree.specs.Bytes.{stored}
use Rattle.timestamp_tree.specs.Data.{PlainTs, leaf, node as inner}
use Rattle.timestamp_tree.specs.Search.{visited_bytes}
use Rattle.timestamp_tree.specs.Tree.{tree_of}
use Rattle.timestamp_tree.proofs.Trees.{length-set_bytes}
use Rattle.record_parts.specs.Spelling.{stamp_bytes, value_bytes}
use Rattle.record_format.specs.Files.{root_pieces}
use Rattle.record_format.specs.Nodes.{alt_of, set_in, node_pieces}
use Rattle.record_format.specs.Seen.{alts_seen, dir_seen, node_seen, piece_sets, row_seen, seen, sets_visited}
use Rattle.record_format.specs.Spelling.{rec_bytes}
use Rattle.file_get.specs.Searched.{alts_read, bytes_read, dir_read, inner_read, node_read, row_read, searched, sets_read, stamp_read, tree_read}
use Rattle.file_get.proofs.Bodies.{alt-length}
use Rattle.file_get.proofs.SetSearch.{searched-all, searched-half}
use Rattle.file_get.proofs.StoredNodes.{length-stored}

-- ---- of trees

inner-less : (n : ℕ) → inner_read n ≤ 12 + 8 * n
inner-less n = by (leb n 8) refl
  where
    by : (b : Bool) → leb n 8 ≡ b → (if b then 12 + 8 * n else 28 + 8 * searched n) ≤ 12 + 8 * n
    by true e = omega arith
    by false e =
        let many : 8 < n = grind (arith, nat_tests) in
        let half = searched-half n many in
        omega (arith, many, half)

tree-less : (t : PlainTs) (i : ℕ) → tree_read t i ≤ visited_bytes t i
tree-less (leaf s) i = (let all = searched-all (length s) in omega (arith, all, length-stored s 0))
tree-less (inner s n l r) i = by (has (members s) i) (tree-less l i) (tree-less r i)
  where
    by : (b : Bool) → tree_read l i ≤ visited_bytes l i → tree_read r i ≤ visited_bytes r i
        → (if b then inner_read (length s) + tree_read l i + tree_read r i else inner_read (length s)) ≤ (if b then length (stored s n) + visited_bytes l i + visited_bytes r i else length (stored s n))
    by true left right = (let own = inner-less (length s) in omega (arith, own, length-stored s n, left, right))
    by false left right = (let own = inner-less (length s) in omega (arith, own, length-stored s n))

sets-less : (sets : List (List (ℕ × ℕ))) (i : ℕ) → sets_read sets i ≤ sets_visited sets i
sets-less [] i = omega arith
sets-less (s ∷ ss) i = tree-less (tree_of (s ∷ ss)) i

dir-less : (i : ℕ) (sets : List (List (ℕ × ℕ))) → dir_read i sets ≤ dir_seen i sets
dir-less i sets = (let tree = sets-less sets i in omega (arith, tree))

-- ---- of nodes

stamp-less : (s : Stamp) → stamp_read s ≤ 9 + length (stamp_bytes s)
stamp-less None = omega arith
stamp-less (Some s) = (let all = searched-all (length s) in omega (arith, all, length-set_bytes s))

alts-less : (i : ℕ) (set : List (ℕ × ℕ)) (xs : List PlainAlt) → alts_read i set xs ≤ alts_seen i set xs
alts-less i set [] = omega arith
alts-less i set (x ∷ xs) = by (has (members (set_in x.stamp set)) i) (alts-less i set xs)
  where
    by : (b : Bool) → alts_read i set xs ≤ alts_seen i set xs
        → stamp_read x.stamp + (if b then length (value_bytes x.body) else alts_read i set xs) ≤ 9 + length (stamp_bytes x.stamp) + (if b then length (rec_bytes (alt_of x)) else 0) + alts_seen i set xs
    by true rest = (let stamp = stamp-less x.stamp in omega (arith, stamp, alt-length x))
    by false rest = (let stamp = stamp-less x.stamp in omega (arith, stamp, rest))

both : (b : Bool) (x y m n : ℕ) → x ≤ y → m ≤ n → (if b then x else 0) + m ≤ (if b then y else 0) + n
both true x y m n h g = omega (arith, h, g)
both false x y m n h g = omega (arith, g)

mutual
  node-less : (i : ℕ) (parent : List (ℕ × ℕ)) (k : PlainNode) → node_read i parent k ≤ node_seen i parent k
  node-less i parent (inner_node l s ks) =
      let dir = dir-less i (piece_sets (node_pieces (set_in s parent) ks)) in
      let row = row-less i (set_in s parent) ks in
      omega (arith, dir, row)
  node-less i parent (leaf_node l s xs) = (let alts = alts-less i (set_in s parent) xs in omega (arith, alts))

  row-less : (i : ℕ) (parent : List (ℕ × ℕ)) (ks : PlainNodes) → row_read i parent ks ≤ row_seen i parent ks
  row-less i parent no_nodes = omega arith
  row-less i parent (node k ks) = both (has (members (set_in (node_stamp k) parent)) i) (node_read i parent k) (node_seen i parent k) (row_read i parent ks) (row_seen i parent ks) (node-less i parent k) (row-less i parent ks)

pub less-read : (a : PlainArchive) (i : ℕ) → bytes_read a i ≤ seen a i
less-read a i =
    let dir = dir-less i (piece_sets (root_pieces a)) in
    let row = row-less i (upto_pairs a.n) a.kids in
    omega (arith, dir, row)
