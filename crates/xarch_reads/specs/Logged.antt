-- What the writing of a log does, and with what fault it ends.
use Rattle.std.specs.Prelude.{◌≡◌, ◌⊎◌, ℕ, ◌+◌, ◌-◌, ◌≤◌, List, Option, Some, Ok}
use Rattle.xa_outside.specs.Folder.{Files}
use Rattle.xa_outside.specs.Numbers.{PullsAtMost}
use Rattle.keyed_tree.specs.Data.{PlainLabel}
use Rattle.archive_tree.specs.Data.{PlainArchive}
use Rattle.archive_tree.specs.Stands.{ArchiveOf}
use Rattle.record_format.specs.Probed.{probed}
use Rattle.record_cursor.specs.View.{PlainHeader}
use Rattle.file_history.specs.Leads.{node_along}
use Rattle.content_log.specs.Written.{leaf_bytes}
use Rattle.content_log.specs.declared.fault.LogFault.{LogFault}
use Rattle.content_log.specs.declared.fault.LogFault.TheVariants.{Damage, Folder, Out, Memory}
use Rattle.noted_file.specs.Contents.{Contents}
use Rattle.xarch_words.specs.Commands.{log}
use Rattle.xarch_words.specs.Refusal.{damaged, PlainFault, refused, folder_fault, out_fault, memory}
use Rattle.xarch_parts.specs.Allowed.{MayEndLate}
use Rattle.xarch_parts.specs.Archives.{ArchiveIs, IsFrontOf}
use Rattle.xarch_parts.specs.Ends.{IsOfCommand}
use Rattle.xarch_meanings.specs.Meanings.{GainsBy, MayBe, MayComeLate}
use Rattle.xarch_meanings.specs.Log.{log_input}
use Rattle.xarch_reads.specs.Written.{WrittenState}

-- the fault of writing a log, as it is told of the archive of this name
abbrev pub IsLoggedAs : List ℕ → LogFault → PlainFault → Type 0
IsLoggedAs name Damage fault = (fault ≡ refused (damaged name)) ⊎ (fault ≡ memory)
IsLoggedAs name Folder fault = fault ≡ folder_fault
IsLoggedAs name Out fault = fault ≡ out_fault
IsLoggedAs name Memory fault = fault ≡ memory

-- The log of these labels was written, or it is told why not: whatever the file is; where it is told, has this header, and a path spells the labels under
-- its rules, which end at the frontier; and where it is a sound archive.
pub record Logs (name : List ℕ) (h : PlainHeader) (labels : List PlainLabel) (s t : WrittenState) (ended : Option PlainFault) : Type 0 where
  pub same_files : t.files ≡ s.files
  pub same_draft : t.draft ≡ s.draft
  pub pulls : PullsAtMost (h.length - h.first + h.length) s.numbers t.numbers
  pub later : s.faults ≤ t.faults
  pub out_later : s.out_faults ≤ t.out_faults
  pub cause : IsOfCommand s.faults t.faults s.out_faults t.out_faults ended
  pub gained : (path : List ℕ) → GainsBy (Some (log name path)) ended s.taken t.taken
  pub may : (files : Files) (path : List ℕ) → s.files ≡ Some files → IsFrontOf files name h → log_input files name path ≡ Ok ((h.rules, h.versions), labels)
      → MayEndLate (MayComeLate files (Some (log name path))) (MayBe files (log name path)) ended t.files s.taken t.taken
  pub little : (files : Files) (c : Contents) (a : PlainArchive) → s.files ≡ Some files → IsFrontOf files name h → ArchiveIs files name c → ArchiveOf c.versions a
      → PullsAtMost (8 + probed a labels + leaf_bytes (node_along a labels)) s.numbers t.numbers
