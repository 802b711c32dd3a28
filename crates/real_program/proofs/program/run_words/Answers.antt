use Rattle.std.proofs.Common.{subst, sym}
use Rattle.real_program.specs.Serves.{IsStatus}
use Rattle.real_program.proofs.StatusLemmas.{fault-is}
use Rattle.real_program.proofs.program.run_words.Goals as goal

pub returns-in-Err-clause-status : goal.returns-in-Err-clause-status
returns-in-Err-clause-status g c = subst IsStatus (sym c.say.ensures.status) (fault-is _)
