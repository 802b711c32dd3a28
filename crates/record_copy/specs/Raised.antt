-- Later numbers: each is n more.
use Rattle.std.specs.Prelude.{ℕ, ◌+◌, List, map, Some, None}
use Rattle.archive_tree.specs.Data.{Stamp, PlainAlt, PlainNode, inner_node, leaf_node, PlainNodes, no_nodes, node}

abbrev pub raised : ℕ → List (ℕ × ℕ) → List (ℕ × ℕ)
raised n ps = map (λ p. (p.0 + n, p.1 + n)) ps

abbrev pub raised_stamp : ℕ → Stamp → Stamp
raised_stamp n None = None
raised_stamp n (Some s) = Some (raised n s)

abbrev pub raised_alt : ℕ → PlainAlt → PlainAlt
raised_alt n a = record { stamp = raised_stamp n a.stamp; body = a.body }

abbrev mutual
  pub raised_node : ℕ → PlainNode → PlainNode
  raised_node n (inner_node l s ks) = inner_node l (raised_stamp n s) (raised_nodes n ks)
  raised_node n (leaf_node l s xs) = leaf_node l (raised_stamp n s) (map (raised_alt n) xs)

  pub raised_nodes : ℕ → PlainNodes → PlainNodes
  raised_nodes n no_nodes = no_nodes
  raised_nodes n (node k ks) = node (raised_node n k) (raised_nodes n ks)
