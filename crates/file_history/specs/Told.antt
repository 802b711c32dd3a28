-- What faults stand for.
use Rattle.std.specs.Prelude.{Result, Err, ⊤}
use Rattle.record_cursor.specs.declared.fault.CursorFault.{CursorFault}
use Rattle.record_cursor.specs.declared.fault.CursorFault.TheVariants as cursor
use Rattle.file_history.specs.declared.fault.HistFault.{HistFault}
use Rattle.file_history.specs.declared.fault.HistFault.TheVariants.{Damage, Folder, Memory}

abbrev pub of_cursor : CursorFault → HistFault
of_cursor cursor.Damage = Damage
of_cursor cursor.Folder = Folder
of_cursor cursor.Memory = Memory

-- where the folder failed, this holds
abbrev pub IfFailed : {T : Type 0} → Result T HistFault → Type 0 → Type 0
IfFailed (Err Folder) P = P
IfFailed other P = ⊤
