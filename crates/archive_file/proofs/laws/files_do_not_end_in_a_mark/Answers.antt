use Rattle.archive_file.proofs.TailLaws.{file-unmarked, sound-unmarked}
use Rattle.archive_file.proofs.laws.files_do_not_end_in_a_mark.Goals as goal

pub returns-clause-file : goal.returns-clause-file
returns-clause-file c = file-unmarked

pub returns-clause-sound : goal.returns-clause-sound
returns-clause-sound c = sound-unmarked
