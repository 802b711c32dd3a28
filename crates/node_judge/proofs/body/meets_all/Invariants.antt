use Rattle.std.proofs.Common.{◌≡◌, drop, map}
use Rattle.std.specs.List.{list_all}
use Rattle.record_parts.specs.ShownViews.{shown_body}
use Rattle.node_judge.specs.Awaited.{body_meets}
use Rattle.node_judge.specs.View.{wait_view}
use Rattle.node_judge.proofs.body.meets_all.Given as goal

-- what is left decides
abbrev pub invariant-loop-wait : goal.invariant-loop-wait
invariant-loop-wait l =
    list_all (body_meets (shown_body l.body)) (map wait_view l.waits)
    ≡ list_all (body_meets (shown_body l.body)) (map wait_view (drop l.wait-index l.waits))
