use Rattle.version_runs.proofs.Archives.{runs_equal, sets_within, spread_archive}
use Rattle.version_runs.proofs.Lists.{spread_version}
use Rattle.version_runs.proofs.StartLemmas.{AreStarts-starts_of}
use Rattle.version_runs.proofs.laws.runs_have_one_version.Goals as goal

pub returns-clause-starts : goal.returns-clause-starts
returns-clause-starts c = AreStarts-starts_of

pub returns-clause-equal : goal.returns-clause-equal
returns-clause-equal c = runs_equal

pub returns-clause-archive : goal.returns-clause-archive
returns-clause-archive c = spread_archive

pub returns-clause-at_number : goal.returns-clause-at_number
returns-clause-at_number c = λ ps n us i st some most. spread_version ps n st us i some most

pub returns-clause-within : goal.returns-clause-within
returns-clause-within c = sets_within
