-- What `check` does: it tells whether a file is a sound archive with its notes, and how many versions that has.
use Rattle.std.specs.Prelude.{◌≡◌, ◌⊎◌, ◌+◌, ℕ, List, length, codes, Result, Ok, Err}
use Rattle.xa_outside.specs.Folder.{Files}
use Rattle.keyed_tree.specs.Data.{PlainKeyed}
use Rattle.noted_file.specs.Full.{Full}
use Rattle.xarch_words.specs.Refusal.{Refusal, damaged}
use Rattle.xarch_parts.specs.Archives.{GoesOn}
use Rattle.xarch_parts.specs.Inputs.{file_of, size_in}
use Rattle.xarch_parts.specs.Outcome.{Outcome}
use Rattle.xarch_parts.specs.Counts.{count_line}
use Rattle.xarch_meanings.specs.Meaning.{Meaning, only_reads, plain}
use Rattle.xarch_meanings.specs.Over.{HasArchive}

-- the line of a sound archive of so many versions
abbrev pub check_text : ℕ → List ℕ
check_text n = count_line (codes "ok ") n

-- that of the archive of these versions is written
abbrev pub checked : Files → List PlainKeyed → Result Outcome Refusal
checked files vs = Ok (record { files = files; output = check_text (length vs) })

-- the bytes are a sound archive with its notes, whose versions are counted
pub record IsFoundSound (files : Files) (bytes : List ℕ) (r : Result Outcome Refusal) : Type 0 where
  pub full : Full bytes
  pub is : r ≡ checked files full.contents.versions

-- they are none, and the archive of this name is refused
pub record IsFoundDamaged (name bytes : List ℕ) (r : Result Outcome Refusal) : Type 0 where
  pub unsound : ¬ Full bytes
  pub is : r ≡ Err (damaged name)

-- the one or the other
abbrev pub IsFound : Files → List ℕ → List ℕ → Result Outcome Refusal → Type 0
IsFound files name bytes r = IsFoundSound files bytes r ⊎ IsFoundDamaged name bytes r

-- It is defined over any files. A file that is there is judged by all of its bytes.
abbrev pub CheckIs : Files → List ℕ → Result Outcome Refusal → Type 0
CheckIs files archive r = GoesOn (file_of files archive) (IsFound files archive) r

-- ---- all that is said of it

abbrev pub check_meaning : List ℕ → Meaning
check_meaning archive = record (plain only_reads (λ files. CheckIs files archive)) { Should = λ files. HasArchive files archive; most = λ told. size_in told archive + 16 }
