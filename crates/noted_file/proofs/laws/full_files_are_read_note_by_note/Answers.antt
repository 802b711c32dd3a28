use Rattle.version_notes.proofs.Left.{unnoted-come}
use Rattle.noted_file.proofs.Readings.{full-come, read-full, not-full}
use Rattle.noted_file.proofs.laws.full_files_are_read_note_by_note.Goals as goal

pub returns-clause-come : goal.returns-clause-come
returns-clause-come c = full-come

pub returns-clause-full : goal.returns-clause-full
returns-clause-full c = read-full

pub returns-clause-empty : goal.returns-clause-empty
returns-clause-empty c = unnoted-come

pub returns-clause-damaged : goal.returns-clause-damaged
returns-clause-damaged c = not-full
