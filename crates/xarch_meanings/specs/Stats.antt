-- What `stats` does: it writes how much an archive holds.
use Rattle.std.specs.Prelude.{◌≡◌, ℕ, ◌+◌, List, length, Result, Ok}
use Rattle.xa_outside.specs.Folder.{Files}
use Rattle.key_spec.specs.Data.{PlainRule}
use Rattle.archive_tree.specs.Data.{PlainArchive}
use Rattle.archive_tree.specs.Stands.{ArchiveOf}
use Rattle.archive_stats.specs.Counts.{PlainCounts, counts}
use Rattle.version_notes.specs.Notes.{notes_part}
use Rattle.noted_file.specs.Contents.{Contents}
use Rattle.xarch_words.specs.Refusal.{Refusal}
use Rattle.xarch_parts.specs.Outcome.{Outcome}
use Rattle.version_notes.specs.declared.parts.Parts.{Parts}
use Rattle.xarch_parts.specs.Counts.{counts_text}
use Rattle.xarch_parts.specs.Inputs.{read_in}
use Rattle.xarch_parts.specs.Readings.{parts_of}
use Rattle.xarch_meanings.specs.Meaning.{Meaning, printing}

-- the same counts of a file of so many bytes
abbrev pub of_size : ℕ → PlainCounts → PlainCounts
of_size size c = record { versions = c.versions; inner = c.inner; leaves = c.leaves; alternatives = c.alternatives; stamps = c.stamps; largest = c.largest; bytes = size }

-- The counts of an archive with these notes, which count among its bytes. The longest record is one of the archive.
abbrev pub noted_counts : List PlainRule → PlainArchive → List (List ℕ) → PlainCounts
noted_counts rules a notes = of_size ((counts rules a).bytes + length (notes_part notes)) (counts rules a)

-- the counts of the archive that holds this are written
pub record CountsFrom (files : Files) (c : Contents) (r : Result Outcome Refusal) : Type 0 where
  pub archive : PlainArchive
  pub of : ArchiveOf c.versions archive
  pub is : r ≡ Ok (record { files = files; output = counts_text (noted_counts c.rules archive c.notes) })

-- ---- all that is said of it

-- The parts of the archive, or the first refusal: the archive is there, and has parts.
abbrev pub stats_input : Files → List ℕ → Result Parts Refusal
stats_input files name = read_in files name (parts_of name)

abbrev pub stats_meaning : List ℕ → Meaning
stats_meaning archive = printing archive (λ files. stats_input files archive) CountsFrom
