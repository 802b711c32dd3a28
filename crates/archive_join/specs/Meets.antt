-- Nodes of two archives that can stand in one.
use Rattle.std.specs.Prelude.{List, ⊤, IfSome}
use Rattle.keyed_tree.specs.Lists.{Ascends}
use Rattle.keyed_tree.specs.Order.{label_cmp}
use Rattle.archive_tree.specs.Data.{PlainNode, inner_node, leaf_node, PlainNodes, no_nodes, node, node_label, nodes_list}
use Rattle.archive_tree.specs.Stands.{AllDiffer, bodies, labels}
use Rattle.archive_join.specs.Joined.{above}
use Rattle.archive_tree.specs.Seek.{node_with}

-- Both are inner, and their rows can stand in one; or both are leaves, and the bodies of the second differ.
abbrev mutual
  pub Meet : PlainNode → PlainNode → Type 0
  Meet (inner_node l s ks) (inner_node m t js) = Ascends label_cmp (labels ks) × Ascends label_cmp (labels js) × RowsMeet ks (nodes_list js)
  Meet (inner_node l s ks) (leaf_node m t ys) = ⊥
  Meet (leaf_node l s xs) (inner_node m t js) = ⊥
  Meet (leaf_node l s xs) (leaf_node m t ys) = AllDiffer (bodies ys)

  -- those of one label can
  pub RowsMeet : PlainNodes → List PlainNode → Type 0
  RowsMeet no_nodes js = ⊤
  RowsMeet (node k ks) js = IfSome (node_with (node_label k) js) (λ j. Meet k j) × RowsMeet ks (above (node_label k) js)
