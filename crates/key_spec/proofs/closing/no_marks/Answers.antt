use Rattle.std.proofs.Common.{arith}
use Rattle.std.proofs.lemmas.Grind.{common_steps}
use Rattle.key_spec.proofs.closing.no_marks.Goals as goal

pub returns : goal.returns
returns c = grind (arith, common_steps)
