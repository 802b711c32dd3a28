use Rattle.record_format.specs.Fronts.{bytes_at}
use Rattle.std.proofs.Common.{arith}
use Rattle.std.proofs.lemmas.Grind.{common_steps}
use Rattle.record_format.proofs.headers.take_bytes.Goals as goal

pub returns-clause-found : goal.returns-clause-found
unfolding bytes_at
returns-clause-found c = grind (arith, common_steps)

pub returns-then-rest-len-clause-found : goal.returns-then-rest-len-clause-found
unfolding bytes_at
returns-then-rest-len-clause-found c = grind (arith, common_steps)
