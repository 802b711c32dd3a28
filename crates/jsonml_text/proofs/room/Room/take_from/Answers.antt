use Rattle.std.proofs.Common.{arith}
use Rattle.std.proofs.lemmas.Grind.{common_steps}
use Rattle.jsonml_text.proofs.room.Room.take_from.Goals as goal

pub returns-clause-few : goal.returns-clause-few
returns-clause-few c = grind (arith, common_steps)

pub returns-clause-left : goal.returns-clause-left
returns-clause-left c = grind (arith, common_steps)

pub returns-clause-taken : goal.returns-clause-taken
returns-clause-taken c = grind (arith, common_steps)

pub returns-then-len-waiting-clause-few : goal.returns-then-len-waiting-clause-few
returns-then-len-waiting-clause-few c = grind (arith, common_steps)

pub returns-then-len-waiting-clause-left : goal.returns-then-len-waiting-clause-left
returns-then-len-waiting-clause-left c = grind (arith, common_steps)

pub returns-then-len-waiting-clause-taken : goal.returns-then-len-waiting-clause-taken
returns-then-len-waiting-clause-taken c = grind (arith, common_steps)

pub returns-then-waiting-gt0-clause-few : goal.returns-then-waiting-gt0-clause-few
returns-then-waiting-gt0-clause-few c = grind (arith, common_steps)

pub returns-then-waiting-gt0-clause-left : goal.returns-then-waiting-gt0-clause-left
returns-then-waiting-gt0-clause-left c = grind (arith, common_steps)

pub returns-then-waiting-gt0-clause-taken : goal.returns-then-waiting-gt0-clause-taken
returns-then-waiting-gt0-clause-taken c = grind (arith, common_steps)
