use Rattle.std.proofs.Common.{◌∙◌}
use Rattle.key_spec.proofs.SameNames.{slices-same}
use Rattle.key_spec.proofs.order.are_same.Goals as goal

pub returns : goal.returns
returns c = c.eq.ensures ∙ slices-same c.args.ours.now c.args.theirs.now
