use Rattle.std.proofs.Common.{◌∙◌}
use Rattle.key_spec.proofs.SameNames.{slices-order}
use Rattle.key_spec.proofs.order.order_paths.Goals as goal

pub returns : goal.returns
returns c = c.cmp.ensures ∙ slices-order c.args.ours.now c.args.theirs.now
