use Rattle.xarch_run.proofs.Running.{Says-none, Says-from}
use Rattle.xarch_run.proofs.step.finish.Goals as goal

pub returns-in-Ok-clause-line : goal.returns-in-Ok-clause-line
returns-in-Ok-clause-line g c = rw c.in-Ok.is (Says-none _ _)

pub returns-in-Err-clause-line : goal.returns-in-Err-clause-line
returns-in-Err-clause-line g c = rw c.in-Err.is (Says-from _ _ _ _ _ _ c.write_fault.ensures.bytes c.write_fault.ensures.cause)
