use Rattle.xarch_run.proofs.Statuses.{end-limited, end-outside, end-usage}
use Rattle.xarch_run.proofs.laws.statuses_tell_faults.Goals as goal

pub returns-clause-usage : goal.returns-clause-usage
returns-clause-usage c = end-usage

pub returns-clause-limit : goal.returns-clause-limit
returns-clause-limit c = end-limited

pub returns-clause-outside : goal.returns-clause-outside
returns-clause-outside c = end-outside
