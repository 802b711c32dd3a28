use Rattle.std.proofs.Common.{◌∙◌}
use Rattle.content_log.proofs.Paths.{last-named}
use Rattle.content_log.proofs.leaf.tag_of.Goals as goal

pub returns-in-Some : goal.returns-in-Some
returns-in-Some c = c.name_of.ensures ∙ last-named c.args.path.now c.in-Some.last.now c.in-Some.ensures.value
