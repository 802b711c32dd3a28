-- What `export` does: it writes an archive as text.
use Rattle.std.specs.Prelude.{◌≡◌, ℕ, List, Result, Ok}
use Rattle.xa_outside.specs.Folder.{Files}
use Rattle.noted_file.specs.Contents.{Contents}
use Rattle.archive_text.specs.Export.{ExportOf}
use Rattle.xarch_words.specs.Refusal.{Refusal}
use Rattle.xarch_parts.specs.Outcome.{Outcome}
use Rattle.xarch_meanings.specs.Stats.{stats_input}
use Rattle.xarch_meanings.specs.Meaning.{Meaning, on_archive, only_reads}
use Rattle.xarch_meanings.specs.Over.{DamagedOrSound}

-- the text of the archive that holds this is written
pub record ExportsFrom (files : Files) (c : Contents) (r : Result Outcome Refusal) : Type 0 where
  pub text : List ℕ
  pub of : ExportOf c text
  pub is : r ≡ Ok (record { files = files; output = text })

-- ---- all that is said of it

abbrev pub export_meaning : List ℕ → Meaning
export_meaning archive = on_archive only_reads archive (λ files. stats_input files archive) (λ files. DamagedOrSound files archive) ExportsFrom
