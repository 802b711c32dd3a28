-- How much there is of nodes, and that one of a row is less than the row.
use Rattle.std.proofs.Common.{◌≡◌, ◌+◌, ◌<◌, ℕ, zero, suc, List, [], ◌∷◌, length, get_or, ap, arith}
use Rattle.archive_tree.specs.Data.{PlainNode, inner_node, leaf_node, PlainNodes, no_nodes, node}
use Rattle.archive_tree.specs.View.{node_view, nodes_view}
use Rattle.archive_tree.specs.declared.node.ANode.{ANode}

abbrev mutual
  pub node_size : PlainNode → ℕ
  node_size (inner_node l s ks) = 1 + nodes_size ks
  node_size (leaf_node l s xs) = 1

  pub nodes_size : PlainNodes → ℕ
  nodes_size no_nodes = 0
  nodes_size (node k ks) = 1 + node_size k + nodes_size ks

pub size-at : (nodes : List ANode) (p : ℕ) (k : ANode) → p < length nodes → k ≡ get_or nodes p k → node_size (node_view k) < nodes_size (nodes_view nodes)
size-at [] p k lt e = absurd (omega (arith, lt))
size-at (x ∷ xs) zero k lt e = (let same : node_size (node_view k) ≡ node_size (node_view x) = ap (λ z. node_size (node_view z)) e in omega (arith, same))
size-at (x ∷ xs) (suc p) k lt e = (let rest = size-at xs p k (omega (arith, lt)) e in omega (arith, rest))
