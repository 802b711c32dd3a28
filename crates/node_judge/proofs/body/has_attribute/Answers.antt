use Rattle.std.proofs.Common.{drop}
use Rattle.record_parts.specs.ShownViews.{shown_body}
use Rattle.node_judge.proofs.BodyLaws.{attribute-told}
use Rattle.node_judge.proofs.body.has_attribute.Goals as goal

pub returns-in-Some : goal.returns-in-Some
returns-in-Some c =
    let bytes = c.bytes-bytes.result.now in
    attribute-told (shown_body c.args.body.now) bytes c.requires c.bytes-bytes.ensures.is c.bytes-bytes.ensures.spelled c.in-Some.count (drop c.in-Some.at bytes) c.in-Some.ensures.found c.args.name.now (shown_body c.args.value.now) c.is_attribute.result c.is_attribute.ensures
