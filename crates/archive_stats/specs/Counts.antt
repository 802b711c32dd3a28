-- What is counted of an archive and of its file.
use Rattle.std.specs.Prelude.{ℕ, ◌+◌, Bool, true, false, not, List, [], ◌∷◌, ◌++◌, length, count_by, sum_by, if◌then◌else◌}
use Rattle.std.specs.Option.{is_some}
use Rattle.key_spec.specs.Data.{PlainRule}
use Rattle.archive_tree.specs.Data.{PlainAlt, PlainNode, inner_node, leaf_node, PlainNodes, no_nodes, node, node_stamp, PlainArchive}
use Rattle.record_format.specs.Data.{PlainRec, inner_rec, leaf_rec, alt_rec, end_rec, leaf_end}
use Rattle.record_format.specs.Files.{file_bytes, file_records}
use Rattle.record_format.specs.Spelling.{dir_bytes}
pub use Rattle.record_format.specs.Files.{weight, largest}

pub record PlainCounts : Type 0 where
  pub versions : ℕ
  pub inner : ℕ
  pub leaves : ℕ
  pub alternatives : ℕ
  pub stamps : ℕ
  pub largest : ℕ
  pub bytes : ℕ

-- ---- nodes

abbrev mutual
  -- the node, and all nodes below it
  pub nodes_from : PlainNode → List PlainNode
  nodes_from (inner_node l s ks) = inner_node l s ks ∷ nodes_among ks
  nodes_from (leaf_node l s xs) = leaf_node l s xs ∷ []

  pub nodes_among : PlainNodes → List PlainNode
  nodes_among no_nodes = []
  nodes_among (node k ks) = nodes_from k ++ nodes_among ks

abbrev pub is_inner : PlainNode → Bool
is_inner (inner_node l s ks) = true
is_inner (leaf_node l s xs) = false

abbrev pub is_leaf : PlainNode → Bool
is_leaf k = not (is_inner k)

-- the alternatives of a leaf, and none of an inner node
abbrev pub alts_of : PlainNode → List PlainAlt
alts_of (inner_node l s ks) = []
alts_of (leaf_node l s xs) = xs

-- the timestamps that the node and its alternatives store
abbrev pub stamps_of : PlainNode → ℕ
stamps_of k = (if is_some (node_stamp k) then 1 else 0) + count_by (λ (x : PlainAlt). is_some x.stamp) (alts_of k)

-- ---- the seven numbers

unfoldable pub counts : List PlainRule → PlainArchive → PlainCounts
counts rules a =
    let nodes = nodes_among a.kids in
    record {
      versions = a.n;
      inner = count_by is_inner nodes;
      leaves = count_by is_leaf nodes;
      alternatives = sum_by (λ k. length (alts_of k)) nodes;
      stamps = sum_by stamps_of nodes;
      largest = largest rules a;
      bytes = length (file_bytes rules a);
    }

-- ---- what need not be read

-- the bytes of the body of an END
abbrev pub end_body : PlainRec → ℕ
end_body (inner_rec l s) = 0
end_body (leaf_rec l s) = 0
end_body (alt_rec s b) = 0
end_body (end_rec d) = length (dir_bytes d)
end_body leaf_end = 0

-- the bytes of the bodies of all END records in the file of an archive
abbrev pub end_bodies : PlainArchive → ℕ
end_bodies a = sum_by end_body (file_records a)
