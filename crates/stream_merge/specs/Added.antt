-- The archive with one more version, as a file.
use Rattle.std.specs.Prelude.{◌≡◌, ℕ, List, [], ◌∷◌, ◌++◌, Option, Some, option_map, Result, Err, ⊤}
use Rattle.std.specs.List.{AllByRecursion}
use Rattle.key_spec.specs.Data.{PlainRule}
use Rattle.keyed_tree.specs.Data.{PlainKeyed}
use Rattle.xa_outside.specs.Folder.{Files, committed, emptied}
use Rattle.archive_file.specs.Sound.{SoundAs}
use Rattle.record_cursor.specs.Moves.{IsHeaderOf, TellsFront}
use Rattle.record_cursor.specs.View.{PlainHeader}
use Rattle.record_format.specs.Files.{header_bytes}
use Rattle.record_writer.specs.Calls.{started, all_appended, after_all, Fits, AllFit}
use Rattle.record_writer.specs.Data.{WriterCall}
use Rattle.stream_merge.specs.Short.{IsShortCall}
use Rattle.stream_merge.specs.declared.fault.AddFault.{AddFault}
use Rattle.stream_merge.specs.declared.fault.AddFault.TheVariants.{Damage, Folder, TooLong, Memory}
use Rattle.stream_merge.specs.declared.fault.MergeFault.{MergeFault}
use Rattle.stream_merge.specs.declared.fault.MergeFault.TheVariants as merge

-- Where the file is the sound archive of some versions, the bytes are that of these and of the new one behind them.
abbrev pub IsGrown : PlainHeader → List ℕ → PlainKeyed → Option Files → List ℕ → Type 0
IsGrown h name new files bytes = (front : List ℕ) (rules : List PlainRule) (vs : List PlainKeyed) → TellsFront files name h.length front → IsHeaderOf h front → SoundAs rules vs front → SoundAs rules (vs ++ new ∷ []) bytes

-- An empty draft became some bytes, where it is told: those of the archive with the new version.
pub record Appended (h : PlainHeader) (name : List ℕ) (new : PlainKeyed) (files : Option Files) (draft now : Option (List ℕ)) : Type 0 where
  pub bytes : List ℕ
  pub drafted : now ≡ option_map (λ _. bytes) draft
  pub sound : IsGrown h name new files bytes

-- Some file came under the name by way of the draft, where both are told, and the draft is empty then: that of the archive with the new version.
pub record Added (h : PlainHeader) (name : List ℕ) (new : PlainKeyed) (files now : Option Files) (draft rest : Option (List ℕ)) : Type 0 where
  pub bytes : List ℕ
  pub stored : now ≡ committed files (option_map (λ _. bytes) draft) name
  pub blank : rest ≡ emptied draft
  pub sound : IsGrown h name new files bytes

-- Where the file would be too long: the draft, where it is told, is the header and what some calls of the writer append, which all fit, and the next call does not
-- fit behind them. Each label and body that one of them is given fits its field and takes at most so many bytes, and so does each set, maybe with the new version, of
-- the number n.
pub record Overfull (b : ℕ) (rules : List PlainRule) (n : ℕ) (draft : Option (List ℕ)) : Type 0 where
  pub made : List WriterCall
  pub next : WriterCall
  pub short : AllByRecursion (IsShortCall b n) made
  pub next_short : IsShortCall b n next
  pub drafted : (bytes : List ℕ) → draft ≡ Some bytes → bytes ≡ header_bytes rules n ++ all_appended (started rules n) made
  pub fit : AllFit (started rules n) made
  pub over : ¬ Fits (after_all (started rules n) made) next

-- ---- faults

abbrev pub of_merge : MergeFault → AddFault
of_merge merge.Damage = Damage
of_merge merge.Folder = Folder
of_merge merge.TooLong = TooLong
of_merge merge.Memory = Memory

-- a fault that is not this one says nothing
abbrev pub IfTooLong : AddFault → Type 0 → Type 0
IfTooLong TooLong P = P
IfTooLong other P = ⊤

-- where the folder failed, this holds
abbrev pub IfFailed : {T : Type 0} → Result T AddFault → Type 0 → Type 0
IfFailed (Err Folder) P = P
IfFailed other P = ⊤
