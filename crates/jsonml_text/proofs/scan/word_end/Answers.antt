use Rattle.std.proofs.Common.{arith}
use Rattle.std.proofs.lemmas.Grind.{common_steps}
use Rattle.jsonml_text.proofs.scan.word_end.Goals as goal

pub loop-at-init : goal.loop-at-init
loop-at-init c = grind (arith, common_steps)

pub loop-at-preserved : goal.loop-at-preserved
loop-at-preserved c = grind (arith, common_steps)

pub returns-after-loop-at-clause-ended : goal.returns-after-loop-at-clause-ended
returns-after-loop-at-clause-ended c = grind (arith, common_steps)

pub returns-after-loop-at-clause-later : goal.returns-after-loop-at-clause-later
returns-after-loop-at-clause-later c = grind (arith, common_steps)

pub returns-after-loop-at-clause-within : goal.returns-after-loop-at-clause-within
returns-after-loop-at-clause-within c = grind (arith, common_steps)

pub returns-else-not-is_delimiter-clause-ended : goal.returns-else-not-is_delimiter-clause-ended
returns-else-not-is_delimiter-clause-ended c = grind (arith, common_steps)

pub returns-else-not-is_delimiter-clause-later : goal.returns-else-not-is_delimiter-clause-later
returns-else-not-is_delimiter-clause-later c = grind (arith, common_steps)

pub returns-else-not-is_delimiter-clause-within : goal.returns-else-not-is_delimiter-clause-within
returns-else-not-is_delimiter-clause-within c = grind (arith, common_steps)
