use Rattle.std.proofs.Common.{◌++◌, ◌∷◌, [], ◌∙◌, ap, sym, subst₂}
use Rattle.version_set.specs.Members.{members}
use Rattle.archive_tree.specs.View.{stamp_view}
use Rattle.record_parts.specs.ShownViews.{shown_body}
use Rattle.node_judge.specs.HeldView.{held_numbers, held_view}
use Rattle.node_judge.specs.Holding.{Holds}
use Rattle.node_judge.specs.Rows.{PlainLeaf}
use Rattle.node_judge.proofs.HoldingLaws.{one-more, refused}
use Rattle.node_judge.proofs.held.Held.add.Goals as goal

pub returns-then-not-may_follow-clause-refused : goal.returns-then-not-may_follow-clause-refused
returns-then-not-may_follow-clause-refused c xs ys holds e =
    let h = c.args.self.now in
    refused (held_numbers h) xs (held_view h) holds (stamp_view c.args.stamp.now) (shown_body c.args.body.now) ys (sym c.may_follow.ensures ∙ c.if-not-may_follow.true)

pub returns-clause-holds : goal.returns-clause-holds
returns-clause-holds c xs holds may =
    let h = c.args.self.now in
    let s = stamp_view c.args.stamp.now in
    let b = shown_body c.args.body.now in
    subst₂ (λ ns v. Holds ns (xs ++ record { stamp = s; body = b } ∷ []) v) (sym (ap (λ (l : PlainLeaf). members l.set) c.put.ensures.leaf)) (sym c.in_ok-put.ensures.view)
    (one-more (held_numbers h) xs (held_view h) holds s b c.bytes.result.now c.bytes.ensures.is c.bytes.ensures.spelled (sym c.may_follow.ensures ∙ c.if-not-may_follow.false))
