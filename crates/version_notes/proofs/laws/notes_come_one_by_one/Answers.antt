use Rattle.version_notes.proofs.Left.{one_note, no_more, no_note, from-comes, comes-from}
use Rattle.version_notes.proofs.laws.notes_come_one_by_one.Goals as goal

pub returns-clause-comes : goal.returns-clause-comes
returns-clause-comes c = λ r file notes. (comes-from r file notes, from-comes notes r file)

pub returns-clause-note : goal.returns-clause-note
returns-clause-note c = one_note

pub returns-clause-last : goal.returns-clause-last
returns-clause-last c = no_more

pub returns-clause-damage : goal.returns-clause-damage
returns-clause-damage c = no_note
