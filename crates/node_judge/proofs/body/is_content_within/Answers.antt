use Rattle.std.proofs.Common.{sym, ◌∙◌}
use Rattle.record_parts.specs.ShownViews.{shown_body}
use Rattle.node_judge.proofs.BodyLaws.{short-within}
use Rattle.node_judge.proofs.body.is_content_within.Goals as goal

pub returns-then-bytes-left : goal.returns-then-bytes-left
returns-then-bytes-left c = short-within (shown_body c.args.body.now) c.bytes.result.now c.args.left (sym c.is_content.ensures ∙ c.if-not-is_content.false) c.bytes.ensures.spelled c.if-bytes-left.true
