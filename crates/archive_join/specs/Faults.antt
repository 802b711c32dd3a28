-- What faults say.
use Rattle.std.specs.Prelude.{Bool, true, false, Option, Some, None, option_map, Result, Ok, Err, ⊤}
use Rattle.record_copy.specs.declared.fault.CopyFault.{CopyFault}
use Rattle.record_copy.specs.declared.fault.CopyFault.TheVariants as copy
use Rattle.archive_join.specs.declared.fault.JoinFault.{JoinFault}
use Rattle.archive_join.specs.declared.fault.JoinFault.TheVariants.{Damage, TooLong, Folder, Memory}

-- a fault of a call that reads the second archive, or the first
abbrev pub of_side : Bool → CopyFault → JoinFault
of_side second copy.Damage = Damage second
of_side second copy.TooLong = TooLong
of_side second copy.Folder = Folder
of_side second copy.Memory = Memory

-- the same fault, whichever of the archives it is of
abbrev pub of_any : JoinFault → CopyFault
of_any (Damage second) = copy.Damage
of_any TooLong = copy.TooLong
of_any Folder = copy.Folder
of_any Memory = copy.Memory

abbrev pub fault_of : {T : Type 0} → Result T JoinFault → Option JoinFault
fault_of (Ok x) = None
fault_of (Err e) = Some e

abbrev pub plain : Option JoinFault → Option CopyFault
plain ended = option_map of_any ended

-- the first archive is not said to be damaged
abbrev pub SparesFirst : Option JoinFault → Type 0
SparesFirst (Some (Damage false)) = ⊥
SparesFirst other = ⊤

abbrev pub SparesSecond : Option JoinFault → Type 0
SparesSecond (Some (Damage true)) = ⊥
SparesSecond other = ⊤
