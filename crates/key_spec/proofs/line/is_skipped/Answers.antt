use Rattle.std.proofs.Common.{arith}
use Rattle.std.proofs.lemmas.Grind.{common_steps}
use Rattle.key_spec.proofs.line.is_skipped.Goals as goal

pub loop-b-preserved : goal.loop-b-preserved
loop-b-preserved c = grind (arith, common_steps)

pub returns-then-not-is_blank : goal.returns-then-not-is_blank
returns-then-not-is_blank c = grind (arith, common_steps)

pub returns : goal.returns
returns c = grind (arith, common_steps)
