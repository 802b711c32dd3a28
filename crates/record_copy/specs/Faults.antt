-- What faults say.
use Rattle.std.specs.Prelude.{Option, Some, None, Result, Ok, Err, ⊤}
use Rattle.record_cursor.specs.declared.fault.CursorFault.{CursorFault}
use Rattle.record_cursor.specs.declared.fault.CursorFault.TheVariants as cursor
use Rattle.record_writer.specs.declared.fault.WriteFault.{WriteFault}
use Rattle.record_writer.specs.declared.fault.WriteFault.TheVariants as writer
use Rattle.record_copy.specs.declared.fault.CopyFault.{CopyFault}
use Rattle.record_copy.specs.declared.fault.CopyFault.TheVariants.{Damage, TooLong, Folder, Memory}

abbrev pub of_cursor : CursorFault → CopyFault
of_cursor cursor.Damage = Damage
of_cursor cursor.Folder = Folder
of_cursor cursor.Memory = Memory

abbrev pub of_writer : WriteFault → CopyFault
of_writer writer.TooLong = TooLong
of_writer writer.Folder = Folder
of_writer writer.Memory = Memory

abbrev pub fault_of : {T : Type 0} → Result T CopyFault → Option CopyFault
fault_of (Ok x) = None
fault_of (Err e) = Some e

-- ---- of how something ended

-- where there is no fault, this holds
abbrev pub Unless : Option CopyFault → Type 0 → Type 0
Unless None P = P
Unless (Some e) P = ⊤

-- where the folder failed, this holds
abbrev pub IfFolder : Option CopyFault → Type 0 → Type 0
IfFolder (Some Folder) P = P
IfFolder other P = ⊤

-- where a call did not fit, this holds
abbrev pub IfLong : Option CopyFault → Type 0 → Type 0
IfLong (Some TooLong) P = P
IfLong other P = ⊤

-- where no call was broken off, this holds
abbrev pub IfWhole : Option CopyFault → Type 0 → Type 0
IfWhole None P = P
IfWhole (Some TooLong) P = P
IfWhole (Some other) P = ⊤
