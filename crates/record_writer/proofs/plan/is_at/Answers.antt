use Rattle.std.proofs.Common.{◌∙◌}
use Rattle.record_writer.proofs.PlaceLaws.{set_at-is}
use Rattle.record_writer.proofs.plan.is_at.Goals as goal

pub returns : goal.returns
returns c = λ yes. set_at-is c.args.sets.now c.args.at c.index-sets-at.result c.requires c.index-sets-at.is ∙ c.same.ensures.pairs.0 yes
