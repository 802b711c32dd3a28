-- What a fault says, and what a call that only reads leaves of a folder.
use Rattle.std.specs.Prelude.{◌≡◌, ◌≤◌, ⊤, ℕ, List, Option, Some, None, Result, Ok, Err}
use Rattle.xa_outside.specs.Causes.{Rose}
use Rattle.xa_outside.specs.Folder.{Files}
use Rattle.version_notes.specs.declared.fault.PartsFault.{PartsFault}
use Rattle.version_notes.specs.declared.fault.PartsFault.TheVariants as parts
use Rattle.version_notes.specs.declared.fault.NotesFault.{NotesFault}
use Rattle.version_notes.specs.declared.fault.NotesFault.TheVariants.{Damage, Folder}

abbrev pub IfDamaged : PartsFault → Type 0 → Type 0
IfDamaged parts.Damage P = P
IfDamaged parts.Folder P = ⊤

abbrev pub IfFailed : PartsFault → Type 0 → Type 0
IfFailed parts.Damage P = ⊤
IfFailed parts.Folder P = P

abbrev pub IfDamage : NotesFault → Type 0 → Type 0
IfDamage Damage P = P
IfDamage other P = ⊤

abbrev pub IfFolder : NotesFault → Type 0 → Type 0
IfFolder Folder P = P
IfFolder other P = ⊤

abbrev pub fault_of : {T : Type 0} → Result T NotesFault → Option NotesFault
fault_of (Ok x) = None
fault_of (Err e) = Some e

abbrev pub IsCause : ℕ → ℕ → Option NotesFault → Type 0
IsCause before now None = ⊤
IsCause before now (Some e) = IfFolder e (Rose before now)

-- Files and draft stay, and the folder fails only where its count rose.
pub record OnlyReads {S : Type 0} (files : S → Option Files) (draft : S → Option (List ℕ)) (faults : S → ℕ) (old new : S) (ended : Option NotesFault) : Type 0 where
  pub same_files : files new ≡ files old
  pub same_draft : draft new ≡ draft old
  pub later : faults old ≤ faults new
  pub cause : IsCause (faults old) (faults new) ended
