use Rattle.std.proofs.Common.{◌≡◌, ◌≤◌, ◌++◌, List, map, take, drop, length}
use Rattle.archive_tree.specs.View.{alt_view}
use Rattle.archive_tree.specs.declared.node.Alt.{Alt}
use Rattle.nested_merge.specs.PlanView.{alt_step_view}
use Rattle.nested_merge.specs.Ready.{are_alts_ready}
use Rattle.nested_merge.proofs.prepare.prepare_alts.Given as goal

-- what is passed is ready, whatever comes behind it
abbrev pub invariant-loop-step : goal.invariant-loop-step
invariant-loop-step l = record {
  same : map alt_view l.alts ≡ map alt_view l.initial.alts;
  within : l.i ≤ length l.alts;
  decides : (rest : List Alt) → are_alts_ready l.n (take l.i l.alts ++ rest) (map alt_step_view l.steps) ≡ are_alts_ready l.n rest (map alt_step_view (drop l.step-index l.steps));
}
