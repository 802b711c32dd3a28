use Rattle.xarch_run.proofs.SayLemmas.{says-put}
use Rattle.xarch_run.proofs.answers.say.Goals as goal

pub returns-clause-line : goal.returns-clause-line
returns-clause-line g c = says-put _ _ _ _ _ _ c.write_fault.ensures.bytes c.write_fault.ensures.cause
