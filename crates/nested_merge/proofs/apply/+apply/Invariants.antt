use Rattle.std.proofs.Common.{◌≡◌, ◌+◌, ◌≤◌, ◌++◌, IsTrue, map, length, vec_len, vec_capacity}
use Rattle.std.specs.Vec.Iter.{into_iter_items}
use Rattle.archive_tree.specs.Data.{nodes_list}
use Rattle.archive_tree.specs.View.{node_view, nodes_view}
use Rattle.nested_merge.specs.Plan.{are_roomy, size, sizes, applied_row, steps_from}
use Rattle.nested_merge.specs.PlanView.{step_view, change_view}
use Rattle.nested_merge.specs.Ready.{is_ready, are_ready}
use Rattle.nested_merge.proofs.apply.+apply.Given as goal

-- what is done, and what the steps that are left make of the nodes that are left, are the whole
abbrev pub invariant-applied_kids-loop-step : goal.invariant-applied_kids-loop-step
invariant-applied_kids-loop-step l =
    let left = into_iter_items l.step-iterator in
    record {
      whole : nodes_list (applied_row l.n (nodes_view l.fn.old.items) (steps_from (map step_view l.fn.steps.items)))
          ≡ map node_view l.kids.items ++ nodes_list (applied_row l.n (nodes_view (into_iter_items l.left)) (steps_from (map step_view left)));
      room : vec_len l.kids + length left ≤ vec_capacity l.kids;
      smaller : sizes (steps_from (map step_view left)) ≤ sizes (steps_from (map step_view l.fn.steps.items));
      roomy : IsTrue (are_roomy (steps_from (map step_view left)));
      ready : IsTrue (are_ready (map (is_ready l.n) (into_iter_items l.left)) (steps_from (map step_view left)));
    }

abbrev pub decreases-applied_node : goal.decreases-applied_node
decreases-applied_node l = size (change_view l.change)

abbrev pub decreases-applied_kids : goal.decreases-applied_kids
decreases-applied_kids l = sizes (steps_from (map step_view l.steps.items))
