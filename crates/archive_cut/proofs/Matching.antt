-- The calls that are made, and those that were to be made.
use Rattle.std.proofs.Common.{◌≡◌, List, ◌++◌, Option, Some, sym, subst}
use Rattle.xa_outside.specs.Folder.{Files}
use Rattle.record_cursor.specs.Items.{PlainItem}
use Rattle.record_cursor.specs.Moves.{Comes}
use Rattle.record_cursor.specs.View.{PlainCursor}
use Rattle.record_writer.specs.Data.{WriterCall}
use Rattle.record_copy.specs.Runs.{IsPart}
use Rattle.record_copy.specs.State.{State}
use Rattle.record_copy.specs.declared.fault.CopyFault.{CopyFault}
use Rattle.record_copy.proofs.Running.{makes-then, makes-fault, makes-part}
use Rattle.archive_cut.specs.Runs.{Matches}

-- one part behind another
pub matches-then : (cs ds made more : List WriterCall) (next : WriterCall) (behind : List PlainItem) (t : State) (e : Option CopyFault) → made ≡ cs → Matches ds more next behind t e → Matches (cs ++ ds) (made ++ more) next behind t e
matches-then cs ds made more next behind t e is h = makes-then (Comes t.files t.cursor behind) cs ds made more next e is h

-- after a fault what was to come behind does not matter
pub matches-fault : (cs ds made : List WriterCall) (next : WriterCall) (mid behind : List PlainItem) (t : State) (f : CopyFault) → Matches cs made next mid t (Some f) → Matches (cs ++ ds) made next behind t (Some f)
matches-fault cs ds made next mid behind t f h = makes-fault (Comes t.files t.cursor mid) (Comes t.files t.cursor behind) cs ds made next f h

-- calls that read nothing
pub matches-part : (cs made : List WriterCall) (next : WriterCall) (behind : List PlainItem) (s t : State) (e : Option CopyFault) → IsPart cs made next e → t.files ≡ s.files → t.cursor ≡ s.cursor → Comes s.files s.cursor behind → Matches cs made next behind t e
matches-part cs made next behind s t e part f c h =
    makes-part (Comes t.files t.cursor behind) cs made next e part (subst (λ (x : Option Files). Comes x t.cursor behind) (sym f) (subst (λ (x : PlainCursor). Comes s.files x behind) (sym c) h))
