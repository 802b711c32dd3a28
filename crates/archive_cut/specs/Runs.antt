-- Which calls of the writer a part of the cut makes.
use Rattle.std.specs.Prelude.{List, Option}
use Rattle.record_cursor.specs.Items.{PlainItem}
use Rattle.record_cursor.specs.Moves.{Comes}
use Rattle.record_writer.specs.Data.{WriterCall}
use Rattle.record_copy.specs.Runs.{Makes}
use Rattle.record_copy.specs.State.{State}
use Rattle.record_copy.specs.declared.fault.CopyFault.{CopyFault}

-- They are the calls that were to be made, and these items come next; or so far they are, and the next of those did not fit. There is no damage.
abbrev pub Matches : List WriterCall → List WriterCall → WriterCall → List PlainItem → State → Option CopyFault → Type 0
Matches cs made next behind t ended = Makes (Comes t.files t.cursor behind) cs made next ended
