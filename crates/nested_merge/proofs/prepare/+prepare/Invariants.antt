use Rattle.std.proofs.Common.{◌≡◌, ◌≤◌, ◌++◌, List, map, take, drop, length}
use Rattle.archive_tree.specs.View.{node_view}
use Rattle.archive_tree.specs.declared.node.ANode.{ANode}
use Rattle.nested_merge.specs.Plan.{size, sizes, steps_from}
use Rattle.nested_merge.specs.PlanView.{step_view, change_view}
use Rattle.nested_merge.specs.Ready.{is_ready, are_ready}
use Rattle.nested_merge.proofs.prepare.+prepare.Given as goal

-- what is passed is ready, whatever comes behind it
abbrev pub invariant-prepare_kids-loop-step : goal.invariant-prepare_kids-loop-step
invariant-prepare_kids-loop-step l = record {
  same : map node_view l.nodes ≡ map node_view l.initial.nodes;
  within : l.i ≤ length l.nodes;
  decides : (rest : List ANode) → are_ready (map (is_ready l.n) (take l.i l.nodes ++ rest)) (steps_from (map step_view l.steps)) ≡ are_ready (map (is_ready l.n) rest) (steps_from (map step_view (drop l.step-index l.steps)));
}

abbrev pub decreases-prepare_node : goal.decreases-prepare_node
decreases-prepare_node l = size (change_view l.change.now)

abbrev pub decreases-prepare_kids : goal.decreases-prepare_kids
decreases-prepare_kids l = sizes (steps_from (map step_view l.steps.now))
