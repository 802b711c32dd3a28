-- The archive of some of the versions, as a file.
use Rattle.std.specs.Prelude.{◌≡◌, ℕ, ◌+◌, ◌-◌, List, ◌++◌, Option, Some, option_map, Result, Err, ⊤}
use Rattle.std.specs.List.{AllByRecursion}
use Rattle.key_spec.specs.Data.{PlainRule}
use Rattle.keyed_tree.specs.Data.{PlainKeyed}
use Rattle.xa_outside.specs.Folder.{Files}
use Rattle.archive_file.specs.Sound.{SoundAs}
use Rattle.record_cursor.specs.Moves.{IsHeaderOf, TellsFront}
use Rattle.record_cursor.specs.View.{PlainHeader}
use Rattle.record_format.specs.Files.{header_bytes}
use Rattle.record_writer.specs.Calls.{started, all_appended, after_all, Fits, AllFit}
use Rattle.record_writer.specs.Data.{WriterCall}
use Rattle.record_copy.specs.Short.{IsShortCall}
use Rattle.archive_cut.specs.Short.{IsLeftOf}
use Rattle.archive_cut.specs.Sliced.{items}
use Rattle.archive_cut.specs.declared.fault.CutFault.{CutFault}
use Rattle.archive_cut.specs.declared.fault.CutFault.TheVariants.{Folder, TooLong}

-- Where the file is the sound archive of some versions, the bytes are that of those from i to j.
abbrev pub IsSlice : PlainHeader → List ℕ → ℕ → ℕ → Option Files → List ℕ → Type 0
IsSlice h name i j files bytes = (front : List ℕ) (rules : List PlainRule) (vs : List PlainKeyed) → TellsFront files name h.length front → IsHeaderOf h front → SoundAs rules vs front → SoundAs rules (items i j vs) bytes

-- An empty draft became some bytes, where it is told: those of the archive of the versions from i to j.
pub record Appended (h : PlainHeader) (name : List ℕ) (i j : ℕ) (files : Option Files) (draft now : Option (List ℕ)) : Type 0 where
  pub bytes : List ℕ
  pub drafted : now ≡ option_map (λ _. bytes) draft
  pub sound : IsSlice h name i j files bytes

-- Where the file would be too long: the draft, where it is told, is the header and what some calls of the writer append, which all fit, and the next call does not
-- fit behind them. Each label and body that one of them is given fits its field and takes at most so many bytes, and each set is what is left of one that does.
pub record Overfull (b : ℕ) (rules : List PlainRule) (i j : ℕ) (draft : Option (List ℕ)) : Type 0 where
  pub made : List WriterCall
  pub next : WriterCall
  pub short : AllByRecursion (IsShortCall (IsLeftOf b i j) b) made
  pub next_short : IsShortCall (IsLeftOf b i j) b next
  pub drafted : (bytes : List ℕ) → draft ≡ Some bytes → bytes ≡ header_bytes rules (j + 1 - i) ++ all_appended (started rules (j + 1 - i)) made
  pub fit : AllFit (started rules (j + 1 - i)) made
  pub over : ¬ Fits (after_all (started rules (j + 1 - i)) made) next

-- ---- faults

-- a fault that is not this one says nothing
abbrev pub IfTooLong : CutFault → Type 0 → Type 0
IfTooLong TooLong P = P
IfTooLong other P = ⊤

-- where the folder failed, this holds
abbrev pub IfFailed : {T : Type 0} → Result T CutFault → Type 0 → Type 0
IfFailed (Err Folder) P = P
IfFailed other P = ⊤
