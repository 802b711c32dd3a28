use Rattle.std.proofs.Common.{◌≡◌, ◌+◌, ◌≤◌, ◌++◌, IsTrue, map, length, vec_len, vec_capacity}
use Rattle.std.specs.Vec.Iter.{into_iter_items}
use Rattle.archive_tree.specs.View.{alt_view}
use Rattle.nested_merge.specs.Plan.{applied_alts}
use Rattle.nested_merge.specs.PlanView.{alt_step_view}
use Rattle.nested_merge.specs.Ready.{are_alts_ready}
use Rattle.nested_merge.proofs.apply.applied_alts.Given as goal

-- what is done, and what the steps that are left make of the alternatives that are left, are the whole
abbrev pub invariant-loop-step : goal.invariant-loop-step
invariant-loop-step l =
    let left = into_iter_items l.step-iterator in
    record {
      whole : applied_alts l.n (map alt_view l.fn.old.items) (map alt_step_view l.fn.steps.items)
          ≡ map alt_view l.alts.items ++ applied_alts l.n (map alt_view (into_iter_items l.left)) (map alt_step_view left);
      ready : IsTrue (are_alts_ready l.n (into_iter_items l.left) (map alt_step_view left));
      room : vec_len l.alts + length left ≤ vec_capacity l.alts;
    }
