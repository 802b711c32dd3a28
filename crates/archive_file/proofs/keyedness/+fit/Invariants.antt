use Rattle.std.proofs.Common.{◌≡◌, IsTrue, drop}
use Rattle.key_spec.specs.ContextView.{context_path, context_rules}
use Rattle.archive_tree.specs.Seek.{are_sorted}
use Rattle.archive_tree.specs.View.{nodes_view}
use Rattle.archive_file.specs.NodeFits.{nodes_fit}
use Rattle.archive_file.proofs.keyedness.+fit.Given as goal

-- what is left is sorted and decides
abbrev pub invariant-nodes_fit-loop-node : goal.invariant-nodes_fit-loop-node
invariant-nodes_fit-loop-node l = record {
  sorted : IsTrue (are_sorted (nodes_view (drop l.node-index l.nodes)));
  fits : nodes_fit (context_rules l.context) (context_path l.context) (nodes_view l.nodes) ≡ nodes_fit (context_rules l.context) (context_path l.context) (nodes_view (drop l.node-index l.nodes));
}
