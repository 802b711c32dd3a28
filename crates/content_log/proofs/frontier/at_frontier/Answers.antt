use Rattle.std.proofs.Common.{map}
use Rattle.key_spec.specs.View.{spec_view}
use Rattle.keyed_tree.specs.View.{label_view}
use Rattle.content_log.specs.Frontier.{names}
use Rattle.content_log.proofs.Paths.{last-ends, answer-as}
use Rattle.content_log.proofs.frontier.at_frontier.Goals as goal

pub returns-in-Some : goal.returns-in-Some
returns-in-Some c =
    let path = c.args.path.now in
    answer-as c.ends_at.result _ _ (last-ends (spec_view c.args.spec.now) (names (map label_view path)) path c.in-Some.last.now c.in-Some.ensures.value) c.ends_at.ensures
