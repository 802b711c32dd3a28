use Rattle.std.proofs.Common.{◌≡◌, ◌+◌, length, map, take, vec_len, vec_capacity}
use Rattle.version_set.specs.View.{pairs_of}
use Rattle.keyed_tree.specs.View.{key_view}
use Rattle.nested_merge.specs.Merged.{has_alt}
use Rattle.nested_merge.specs.Plan.{planned_alt}
use Rattle.nested_merge.specs.PlanView.{alt_step_view}
use Rattle.archive_tree.specs.View.{alt_view}
use Rattle.nested_merge.proofs.planning.planned_alts.Given as goal

abbrev pub invariant-loop-alt : goal.invariant-loop-alt
invariant-loop-alt l =
    let before = map alt_view (take l.alt-index l.alts) in
    record {
      done : map alt_step_view l.steps.items ≡ map (planned_alt (pairs_of l.set) (key_view l.body)) before;
      known : l.found ≡ has_alt (key_view l.body) before;
      count : vec_len l.steps ≡ l.alt-index;
      room : vec_capacity l.steps ≡ length l.alts + 1;
    }
