use Rattle.std.proofs.Common.{arith}
use Rattle.std.proofs.lemmas.Grind.{common_steps}
use Rattle.version_set.proofs.set.VersionSet.push_pair.Goals as goal

pub returns-then-not-may_follow-clause-exact : goal.returns-then-not-may_follow-clause-exact
returns-then-not-may_follow-clause-exact c = grind (arith, common_steps)

pub returns-then-not-may_follow-clause-pairs : goal.returns-then-not-may_follow-clause-pairs
returns-then-not-may_follow-clause-pairs c = grind (arith, common_steps)

pub returns-then-not-may_follow-clause-err : goal.returns-then-not-may_follow-clause-err
returns-then-not-may_follow-clause-err c = grind (arith, common_steps)

pub returns-clause-exact : goal.returns-clause-exact
returns-clause-exact c = grind (arith, common_steps)

pub returns-clause-pairs : goal.returns-clause-pairs
returns-clause-pairs c = grind (arith, common_steps)

pub returns-clause-err : goal.returns-clause-err
returns-clause-err c = grind (arith, common_steps)
