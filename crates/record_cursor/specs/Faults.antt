-- What a fault says.
use Rattle.std.specs.Prelude.{⊤}
use Rattle.record_cursor.specs.declared.fault.CursorFault.{CursorFault}
use Rattle.record_cursor.specs.declared.fault.CursorFault.TheVariants.{Damage, Folder}

abbrev pub IfDamage : CursorFault → Type 0 → Type 0
IfDamage Damage P = P
IfDamage other P = ⊤

abbrev pub IfFolder : CursorFault → Type 0 → Type 0
IfFolder Folder P = P
IfFolder other P = ⊤
