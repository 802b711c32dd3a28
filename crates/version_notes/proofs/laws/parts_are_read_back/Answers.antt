use Rattle.version_notes.proofs.Comings.{parts_end}
use Rattle.version_notes.proofs.Spelled.{parts_found, parts_only, parts_number}
use Rattle.version_notes.proofs.laws.parts_are_read_back.Goals as goal

pub returns-clause-found : goal.returns-clause-found
returns-clause-found c = parts_found

pub returns-clause-only : goal.returns-clause-only
returns-clause-only c = parts_only

pub returns-clause-end : goal.returns-clause-end
returns-clause-end c = parts_end

pub returns-clause-number : goal.returns-clause-number
returns-clause-number c = parts_number
