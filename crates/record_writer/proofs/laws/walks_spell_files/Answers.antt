use Rattle.record_writer.proofs.WalkLaws.{appended-append, after-append, end-sizes, walk-spells}
use Rattle.record_writer.proofs.FitLaws.{fit-both, walk-fits-exactly}
use Rattle.record_writer.proofs.laws.walks_spell_files.Goals as goal

pub returns-clause-file : goal.returns-clause-file
returns-clause-file c = walk-spells

pub returns-clause-appended : goal.returns-clause-appended
returns-clause-appended c = appended-append

pub returns-clause-after : goal.returns-clause-after
returns-clause-after c = after-append

pub returns-clause-fits : goal.returns-clause-fits
returns-clause-fits c = walk-fits-exactly

pub returns-clause-fits_both : goal.returns-clause-fits_both
returns-clause-fits_both c = fit-both

pub returns-clause-lengths : goal.returns-clause-lengths
returns-clause-lengths c = end-sizes
