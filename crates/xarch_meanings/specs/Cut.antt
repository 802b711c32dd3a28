-- What `cut` does: it makes an archive of some versions of another.
use Rattle.std.specs.Prelude.{ℕ, ◌+◌, ◌-◌, ◌==◌, nat_lt, List, length, take, drop, Result, Ok, Err, if◌then◌else◌, ◌≡◌, ◌≤◌, Some}
use Rattle.xa_outside.specs.Folder.{Files}
use Rattle.archive_cut.specs.Sliced.{items}
use Rattle.noted_file.specs.Contents.{Contents}
use Rattle.xarch_words.specs.Refusal.{Refusal, no_version}
use Rattle.xarch_parts.specs.Archives.{ArchiveIs, GoesOn, Stores, free_in}
use Rattle.xarch_parts.specs.Outcome.{Outcome, and_then}
use Rattle.key_spec.specs.Data.{PlainRule}
use Rattle.archive_cut.specs.Cut.{Overfull}
use Rattle.xarch_parts.specs.Inputs.{file_length, read_in, size_in}
use Rattle.xarch_parts.specs.Readings.{front_in}
use Rattle.xarch_meanings.specs.Meaning.{Meaning, in_turn, new_archive, on_archive}
use Rattle.xarch_meanings.specs.Over.{HasArchive, HasArchiveWith, HasFile, MayMake}

-- of n versions there are those from i to j
abbrev pub are_versions : ℕ → ℕ → ℕ → Result Unit Refusal
are_versions i j n = if i == 0 then Err (no_version 0 n) else (if nat_lt n j then Err (no_version j n) else Ok tt)

-- the notes of the versions from i to j
abbrev pub noted_items : ℕ → ℕ → List (List ℕ) → List (List ℕ)
noted_items i j notes = take (j + 1 - i) (drop (i - 1) notes)

-- the new archive's name is free, and of n versions there are these
abbrev pub cut_checked : Files → List ℕ → ℕ → ℕ → ℕ → Result Unit Refusal
cut_checked files new i j n = and_then (free_in files new) (λ _. are_versions i j n)

-- what is left where only the versions from i to j stay, with their notes
abbrev pub slice : ℕ → ℕ → Contents → Contents
slice i j c = record { rules = c.rules; versions = items i j c.versions; notes = noted_items i j c.notes }

-- what comes where the archive holds this
abbrev pub CutsFrom : Files → List ℕ → ℕ → ℕ → Contents → Result Outcome Refusal → Type 0
CutsFrom files new i j c r = GoesOn (cut_checked files new i j (length c.versions)) (λ _. Stores files new (slice i j c)) r

-- ---- what is decided before the records of an archive are looked at

-- The rules and the number of versions of the archive, or the first refusal: the archive is there, the new name is free, a header stands in front of the
-- archive, and it counts the versions.
abbrev pub cut_input : Files → List ℕ → List ℕ → ℕ → ℕ → Result (List PlainRule × ℕ) Refusal
cut_input files name new i j =
    and_then (file_length files name) (λ _.
    and_then (free_in files new) (λ _.
    and_then (read_in files name (front_in name)) (λ h.
    and_then (are_versions i j h.1) (λ _.
    Ok h))))

-- ---- all that is said of it

-- It is what is left of what the archive of this name holds.
pub record IsCutFrom (files : Files) (archive : List ℕ) (i j : ℕ) (h : Contents) : Type 0 where
  pub whole : Contents
  pub from : ArchiveIs files archive whole
  pub is : h ≡ slice i j whole

-- It should succeed where the new name is free, the archive has the versions, and these have a file. Where what it reads first is not refused, a limit
-- refuses it only where one more call of the writer does not fit behind the draft and behind calls that fit. Each label and body that a call was given takes
-- at most as many bytes as the archive and 12, and each set is what is left of one that does. A new archive holds some versions of what another holds, with
-- their notes.
abbrev pub cut_meaning : List ℕ → List ℕ → ℕ → ℕ → Meaning
cut_meaning archive new i j = record (on_archive (in_turn (new_archive new)) archive (λ files. cut_input files archive new i j) (λ files. MayMake files archive new) (λ files. CutsFrom files new i j)) {
  Should = λ files. HasArchiveWith files archive (λ c. (cut_checked files new i j (length c.versions) ≡ Ok tt) × HasFile (slice i j c));
  Fills = λ told draft limited. (files : Files) (rules : List PlainRule) (n b : ℕ) → told ≡ Some files → cut_input files archive new i j ≡ Ok (rules, n)
      → limited → size_in told archive + 12 ≤ b → Overfull b rules i j draft;
  Begins = λ files. IsCutFrom files archive i j;
  Over = λ files. HasArchive files archive;
}
