use Rattle.record_parts.specs.ShownViews.{shown_body}
use Rattle.node_judge.proofs.BodyLaws.{same-is}
use Rattle.node_judge.proofs.body.is_same.Goals as goal

pub returns : goal.returns
returns c = same-is c.same_as.result (shown_body c.args.body.now) (shown_body c.args.value.now) c.same_as.ensures
