-- What is read of an archive, and what is written of it.
use Rattle.std.specs.Prelude.{ℕ, List, map, string_bytes, Result, Ok}
use Rattle.xa_outside.specs.Folder.{Files}
use Rattle.key_spec.specs.Data.{PlainRule}
use Rattle.key_spec.specs.View.{spec_view}
use Rattle.keyed_tree.specs.Data.{PlainKeyed}
use Rattle.archive_tree.specs.ArchiveView.{archive_view}
use Rattle.archive_tree.specs.Data.{PlainArchive}
use Rattle.archive_tree.specs.Stands.{ArchiveOf}
use Rattle.archive_file.specs.Sound.{SoundAs}
use Rattle.archive_text.specs.Export.{export_text}
use Rattle.xarch_words.specs.Refusal.{Refusal}
use Rattle.xarch_parts.specs.Outcome.{Outcome}
use Rattle.xarch_texts.specs.declared.export.Kept.{Kept}

-- The bytes are the sound archive of some versions under these rules, and this is the archive of these.
pub record IsReadOf (bytes : List ℕ) (rules : List PlainRule) (a : PlainArchive) : Type 0 where
  pub versions : List PlainKeyed
  pub of : ArchiveOf versions a
  pub sound : SoundAs rules versions bytes

-- its text is written, and files stay
abbrev pub exported : Files → Kept → Result Outcome Refusal
exported files k = Ok (record { files = files; output = export_text (spec_view k.spec) (archive_view k.archive) (map string_bytes k.notes.items) })
