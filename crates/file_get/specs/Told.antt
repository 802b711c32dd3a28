-- What faults say.
use Rattle.std.specs.Prelude.{◌≡◌, ℕ, ◌≤◌, List, Option, Some, None, Result, Ok, Err, ⊤}
use Rattle.xa_outside.specs.Causes.{Rose}
use Rattle.xa_outside.specs.Folder.{Files, front_of}
use Rattle.record_cursor.specs.declared.fault.CursorFault.{CursorFault}
use Rattle.record_cursor.specs.declared.fault.CursorFault.TheVariants as cursor
use Rattle.content_print.specs.declared.fault.PrintFault.{PrintFault}
use Rattle.content_print.specs.declared.fault.PrintFault.TheVariants as print
use Rattle.file_get.specs.declared.fault.GetFault.{GetFault}
use Rattle.file_get.specs.declared.fault.GetFault.TheVariants.{NoVersion, Damage, Folder, Out, Memory}

abbrev pub of_cursor : CursorFault → GetFault
of_cursor cursor.Damage = Damage
of_cursor cursor.Folder = Folder
of_cursor cursor.Memory = Memory

abbrev pub of_print : PrintFault → GetFault
of_print print.Damage = Damage
of_print print.Out = Out

abbrev pub fault_of : {T : Type 0} → Result T GetFault → Option GetFault
fault_of (Ok x) = None
fault_of (Err e) = Some e

-- of n versions there is one of the number i
abbrev pub is_version : ℕ → ℕ → Type 0
is_version i n = (1 ≤ i) × (i ≤ n)

-- The archive is said to have no such version only where its header counts n and i is none of them; and where that is so, nothing else is
-- said but that the folder failed or there is no memory.
abbrev pub Judges : ℕ → Option ℕ → Option GetFault → Type 0
Judges i None None = ⊥
Judges i None (Some (NoVersion n)) = ⊥
Judges i None (Some other) = ⊤
Judges i (Some n) None = is_version i n
Judges i (Some n) (Some (NoVersion m)) = (m ≡ n) × ¬ is_version i n
Judges i (Some n) (Some Damage) = is_version i n
Judges i (Some n) (Some Out) = is_version i n
Judges i (Some n) (Some other) = ⊤

-- a fault of the folder or of the output comes only where that object's count rose
abbrev pub IsCaused : ℕ → ℕ → ℕ → ℕ → Option GetFault → Type 0
IsCaused before now out_before out_now (Some Folder) = Rose before now
IsCaused before now out_before out_now (Some Out) = Rose out_before out_now
IsCaused before now out_before out_now other = ⊤

-- behind the header no version is found missing
abbrev pub IsBehind : Option GetFault → Type 0
IsBehind (Some (NoVersion n)) = ⊥
IsBehind other = ⊤

-- the file is no archive, and nothing else is said of it but that the folder failed or there is no memory
abbrev pub IsRefused : Option GetFault → Type 0
IsRefused None = ⊥
IsRefused (Some (NoVersion n)) = ⊥
IsRefused (Some Out) = ⊥
IsRefused (Some other) = ⊤

-- a file that is told to have fewer than `size` bytes is no archive
abbrev pub RefusesShort : Option Files → List ℕ → ℕ → Option GetFault → Type 0
RefusesShort told name size ended = (files : Files) → told ≡ Some files → front_of files name size ≡ None → IsRefused ended

-- no damage is found
abbrev pub IsSound : Option GetFault → Type 0
IsSound (Some Damage) = ⊥
IsSound other = ⊤

-- where there is no fault, this holds
abbrev pub Unless : Option GetFault → Type 0 → Type 0
Unless None P = P
Unless (Some e) P = ⊤
