use Rattle.std.proofs.Common.{◌≡◌, drop, map}
use Rattle.std.specs.Prelude.{is_none}
use Rattle.std.specs.List.{list_all}
use Rattle.record_parts.specs.ShownViews.{shown_label}
use Rattle.node_judge.specs.Awaited.{handed}
use Rattle.node_judge.specs.View.{wait_view}
use Rattle.node_judge.proofs.wait.hands_nothing.Given as goal

-- what is left decides
abbrev pub invariant-loop-wait : goal.invariant-loop-wait
invariant-loop-wait l =
    list_all (λ w. is_none (handed (shown_label l.label) w)) (map wait_view l.waits)
    ≡ list_all (λ w. is_none (handed (shown_label l.label) w)) (map wait_view (drop l.wait-index l.waits))
