use Rattle.std.proofs.Common.{arith}
use Rattle.std.proofs.lemmas.Grind.{common_steps}
use Rattle.key_rules.proofs.user_path.read_list.Goals as goal

pub returns-in_default-clause-label : goal.returns-in_default-clause-label
returns-in_default-clause-label c = grind (arith, common_steps)

pub returns-in_default-clause-well_formed : goal.returns-in_default-clause-well_formed
returns-in_default-clause-well_formed c = grind (arith, common_steps)

pub returns-then-is_some-clause-well_formed : goal.returns-then-is_some-clause-well_formed
returns-then-is_some-clause-well_formed c = grind (arith, common_steps)

pub returns-clause-well_formed : goal.returns-clause-well_formed
returns-clause-well_formed c = grind (arith, common_steps)
