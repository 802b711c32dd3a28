use Rattle.version_notes.proofs.Spelled.{note_again, note_only, note_plain, notes_same}
use Rattle.version_notes.proofs.laws.notes_are_read_back.Goals as goal

pub returns-clause-again : goal.returns-clause-again
returns-clause-again c = note_again

pub returns-clause-only : goal.returns-clause-only
returns-clause-only c = note_only

pub returns-clause-bytes : goal.returns-clause-bytes
returns-clause-bytes c = note_plain

pub returns-clause-same : goal.returns-clause-same
returns-clause-same c = notes_same
