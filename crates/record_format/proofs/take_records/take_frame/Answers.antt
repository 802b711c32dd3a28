use Rattle.record_format.specs.Reading.{frame_at}
use Rattle.std.proofs.Common.{arith}
use Rattle.std.proofs.lemmas.Grind.{common_steps}
use Rattle.record_format.proofs.take_records.take_frame.Goals as goal

pub returns-clause-found : goal.returns-clause-found
unfolding frame_at
returns-clause-found c = grind (arith, common_steps)

pub returns-then-rest-length-clause-found : goal.returns-then-rest-length-clause-found
unfolding frame_at
returns-then-rest-length-clause-found c = grind (arith, common_steps)
