-- What faults say.
use Rattle.std.specs.Prelude.{ℕ, Option, Some, None, Result, Ok, Err, ⊤}
use Rattle.xa_outside.specs.Causes.{Rose}
use Rattle.record_cursor.specs.declared.fault.CursorFault.{CursorFault}
use Rattle.record_cursor.specs.declared.fault.CursorFault.TheVariants as cursor
use Rattle.file_history.specs.declared.fault.HistFault.{HistFault}
use Rattle.file_history.specs.declared.fault.HistFault.TheVariants as history
use Rattle.content_log.specs.declared.fault.LogFault.{LogFault}
use Rattle.content_log.specs.declared.fault.LogFault.TheVariants.{Damage, Folder, Out, Memory}

abbrev pub of_cursor : CursorFault → LogFault
of_cursor cursor.Damage = Damage
of_cursor cursor.Folder = Folder
of_cursor cursor.Memory = Memory

abbrev pub of_history : HistFault → LogFault
of_history history.Damage = Damage
of_history history.Folder = Folder
of_history history.Memory = Memory

abbrev pub fault_of : {T : Type 0} → Result T LogFault → Option LogFault
fault_of (Ok x) = None
fault_of (Err e) = Some e

-- a fault of the folder or of the output comes only where that object's count rose
abbrev pub IsCaused : ℕ → ℕ → ℕ → ℕ → Option LogFault → Type 0
IsCaused before now out_before out_now (Some Folder) = Rose before now
IsCaused before now out_before out_now (Some Out) = Rose out_before out_now
IsCaused before now out_before out_now other = ⊤

-- no damage is found
abbrev pub IsSound : Option LogFault → Type 0
IsSound (Some Damage) = ⊥
IsSound other = ⊤
