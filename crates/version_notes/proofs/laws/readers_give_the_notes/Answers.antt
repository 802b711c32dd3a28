use Rattle.version_notes.proofs.Comings.{notes_come, notes_behind, note_next, reader_front}
use Rattle.version_notes.proofs.laws.readers_give_the_notes.Goals as goal

pub returns-clause-comes : goal.returns-clause-comes
returns-clause-comes c = notes_come

pub returns-clause-only : goal.returns-clause-only
returns-clause-only c = notes_behind

pub returns-clause-next : goal.returns-clause-next
returns-clause-next c = note_next

pub returns-clause-front : goal.returns-clause-front
returns-clause-front c = reader_front
