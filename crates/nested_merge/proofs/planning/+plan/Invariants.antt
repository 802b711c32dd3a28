use Rattle.std.proofs.Common.{◌≡◌, ◌+◌, ◌-◌, ◌≤◌, ◌++◌, IsTrue, map, drop, length}
use Rattle.version_set.specs.View.{pairs_of}
use Rattle.keyed_tree.specs.Data.{kids_from}
use Rattle.keyed_tree.specs.Kids.{ascend, are_ordered}
use Rattle.keyed_tree.specs.View.{keyed_view}
use Rattle.nested_merge.specs.Plan.{steps_list, planned_row}
use Rattle.nested_merge.specs.PlanView.{step_view}
use Rattle.archive_tree.specs.View.{nodes_view}
use Rattle.nested_merge.proofs.planning.+plan.Given as goal

-- what is done, and what is left of both rows, make the whole
abbrev pub invariant-planned_kids-loop-steps : goal.invariant-planned_kids-loop-steps
invariant-planned_kids-loop-steps l =
    let left = map keyed_view (drop l.j l.new) in
    record {
      old_in : l.i ≤ length l.old;
      new_in : l.j ≤ length l.new;
      ascending : IsTrue (ascend (kids_from left));
      ordered : IsTrue (are_ordered (kids_from left));
      decides : steps_list (planned_row l.n (pairs_of l.set) (nodes_view l.old) (map keyed_view l.new))
          ≡ map step_view l.steps.items ++ steps_list (planned_row l.n (pairs_of l.set) (nodes_view (drop l.i l.old)) left);
    }

abbrev pub decreases-planned_kids-loop-steps : goal.decreases-planned_kids-loop-steps
decreases-planned_kids-loop-steps l = (length l.old - l.i) + (length l.new - l.j)
