-- The archive of the versions of two archives, as a file.
use Rattle.std.specs.Prelude.{◌≡◌, ℕ, ◌+◌, List, ◌++◌, Bool, Option, Some, option_map, Result, Err, ⊤}
use Rattle.std.specs.List.{AllByRecursion}
use Rattle.key_spec.specs.Data.{PlainRule}
use Rattle.keyed_tree.specs.Data.{PlainKeyed}
use Rattle.xa_outside.specs.Folder.{Files}
use Rattle.archive_file.specs.Sound.{SoundAs}
use Rattle.record_copy.specs.Short.{IsShortCall}
use Rattle.record_cursor.specs.Moves.{IsHeaderOf, TellsFront}
use Rattle.record_cursor.specs.View.{PlainHeader}
use Rattle.record_format.specs.Files.{header_bytes}
use Rattle.record_writer.specs.Calls.{started, all_appended, after_all, Fits, AllFit}
use Rattle.record_writer.specs.Data.{WriterCall}
use Rattle.archive_join.specs.Short.{IsMadeOf}
use Rattle.archive_join.specs.declared.fault.JoinFault.{JoinFault}
use Rattle.archive_join.specs.declared.fault.JoinFault.TheVariants.{Damage, Folder, TooLong}

-- The file of this name is told, its header is this, and it is the sound archive of these versions.
pub record IsArchive (files : Option Files) (name : List ℕ) (h : PlainHeader) (rules : List PlainRule) (vs : List PlainKeyed) : Type 0 where
  pub bytes : List ℕ
  pub tells : TellsFront files name h.length bytes
  pub header : IsHeaderOf h bytes
  pub sound : SoundAs rules vs bytes

-- An empty draft became some bytes, where it is told: those of the archive of the versions of both, where both are sound.
pub record Appended (h : PlainHeader) (name : List ℕ) (g : PlainHeader) (other : List ℕ) (files : Option Files) (draft now : Option (List ℕ)) : Type 0 where
  pub bytes : List ℕ
  pub drafted : now ≡ option_map (λ _. bytes) draft
  pub sound : (rules : List PlainRule) (vs us : List PlainKeyed) → IsArchive files name h rules vs → IsArchive files other g rules us → SoundAs rules (vs ++ us) bytes

-- Where the file would be too long: the draft, where it is told, is the header and what some calls of the writer append, which all fit, and the next call does not
-- fit behind them. Each label and body that one of them is given fits its field and takes at most so many bytes, and each set is made of one or two that do, of which the
-- second's has n more in each number.
pub record Overfull (b : ℕ) (rules : List PlainRule) (n m : ℕ) (draft : Option (List ℕ)) : Type 0 where
  pub made : List WriterCall
  pub next : WriterCall
  pub short : AllByRecursion (IsShortCall (IsMadeOf b n) b) made
  pub next_short : IsShortCall (IsMadeOf b n) b next
  pub drafted : (bytes : List ℕ) → draft ≡ Some bytes → bytes ≡ header_bytes rules (n + m) ++ all_appended (started rules (n + m)) made
  pub fit : AllFit (started rules (n + m)) made
  pub over : ¬ Fits (after_all (started rules (n + m)) made) next

-- ---- faults

-- a fault that is not this one says nothing
abbrev pub IfTooLong : JoinFault → Type 0 → Type 0
IfTooLong TooLong P = P
IfTooLong other P = ⊤

-- this archive is said to be damaged, the second or the first
abbrev pub IfDamaged : Bool → JoinFault → Type 0 → Type 0
IfDamaged second fault P = fault ≡ Damage second → P

-- where the folder failed, this holds
abbrev pub IfFailed : {T : Type 0} → Result T JoinFault → Type 0 → Type 0
IfFailed (Err Folder) P = P
IfFailed other P = ⊤
