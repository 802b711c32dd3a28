use Rattle.xa_fields.specs.Reading.{both_at, only_at}
use Rattle.std.proofs.Common.{arith}
use Rattle.std.proofs.lemmas.Grind.{common_steps}
use Rattle.record_format.proofs.headers.take_fields.Goals as goal

pub returns-clause-found : goal.returns-clause-found
unfolding both_at only_at
returns-clause-found c = grind (arith, common_steps)

pub returns-then-n-gt-MOST_VERSIONS-clause-found : goal.returns-then-n-gt-MOST_VERSIONS-clause-found
unfolding both_at only_at
returns-then-n-gt-MOST_VERSIONS-clause-found c = grind (arith, common_steps)
