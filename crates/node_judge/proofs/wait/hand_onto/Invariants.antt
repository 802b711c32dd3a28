use Rattle.std.proofs.Common.{◌≡◌, ◌++◌, drop, map}
use Rattle.record_parts.specs.ShownViews.{shown_label}
use Rattle.node_judge.specs.Awaited.{all_handed}
use Rattle.node_judge.specs.View.{wait_view}
use Rattle.node_judge.proofs.wait.hand_onto.Given as goal

abbrev pub invariant-loop-wait : goal.invariant-loop-wait
invariant-loop-wait l =
    map wait_view l.all.items ++ all_handed (shown_label l.label) (map wait_view (drop l.wait-index l.waits))
    ≡ map wait_view l.initial.all.items ++ all_handed (shown_label l.label) (map wait_view l.waits)
