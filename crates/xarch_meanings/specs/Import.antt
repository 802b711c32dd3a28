-- What `import` does: it makes the archive of a text.
use Rattle.std.specs.Prelude.{◌≡◌, ◌⊎◌, ℕ, List, Result, Err, Some, Ok}
use Rattle.xa_outside.specs.Folder.{Files}
use Rattle.archive_text.specs.Export.{ExportOf}
use Rattle.noted_file.specs.Contents.{Contents}
use Rattle.noted_file.specs.Full.{FullAs}
use Rattle.xarch_words.specs.Refusal as refusal
use Rattle.xarch_words.specs.Refusal.{Refusal, bad_text}
use Rattle.xarch_words.specs.declared.limits.TheConstants.{TEXT}
use Rattle.xarch_parts.specs.Archives.{GoesOn, Stored, free_in}
use Rattle.xarch_parts.specs.Inputs.{file_of, length_in}
use Rattle.xarch_parts.specs.Outcome.{Outcome, and_then}
use Rattle.std.specs.FinMap as finite
use Rattle.xarch_meanings.specs.Meaning.{Meaning, new_archive, plain, stores}

-- the bytes of the text, which is there and not too long, where the new archive's name is free
abbrev pub import_text : Files → List ℕ → List ℕ → Result (List ℕ) Refusal
import_text files text new =
    and_then (length_in files text refusal.text TEXT) (λ _.
    and_then (free_in files new) (λ _.
    file_of files text))

-- The bytes are the text of an archive with notes, whose file comes under the name.
pub record ImportsAs (files : Files) (new bytes : List ℕ) (r : Result Outcome Refusal) : Type 0 where
  pub contents : Contents
  pub spelled : ExportOf contents bytes
  pub stored : Stored files new contents r

-- the bytes are the text of no archive with notes that has a file
pub record IsNoText (bytes : List ℕ) (r : Result Outcome Refusal) : Type 0 where
  pub none : (c : Contents) (file : List ℕ) → FullAs c file → ¬ ExportOf c bytes
  pub is : r ≡ Err bad_text

abbrev pub ImportsFrom : Files → List ℕ → List ℕ → Result Outcome Refusal → Type 0
ImportsFrom files new bytes r = ImportsAs files new bytes r ⊎ IsNoText bytes r

abbrev pub ImportIs : Files → List ℕ → List ℕ → Result Outcome Refusal → Type 0
ImportIs files text new r = GoesOn (import_text files text new) (ImportsFrom files new) r

-- ---- all that is said of it

-- The text is there and short enough, the new name is free, and the bytes are the text of an archive with notes that has a file.
pub record CanImport (files : Files) (text new : List ℕ) : Type 0 where
  pub bytes : List ℕ
  pub contents : Contents
  pub file : List ℕ
  pub there : import_text files text new ≡ Ok bytes
  pub full : FullAs contents file
  pub spelled : ExportOf contents bytes

-- The file of this name is the text of an archive with notes that holds this and has a file.
pub record IsTextOf (files : Files) (text : List ℕ) (h : Contents) : Type 0 where
  pub bytes : List ℕ
  pub there : finite.get files text ≡ Some bytes
  pub spelled : ExportOf h bytes
  pub file : List ℕ
  pub full : FullAs h file

-- A new archive holds what its text is that of.
abbrev pub import_meaning : List ℕ → List ℕ → Meaning
import_meaning text new = record (plain (stores (new_archive new)) (λ files. ImportIs files text new)) {
  Should = λ files. CanImport files text new;
  most = λ told. TEXT;
  Begins = λ files. IsTextOf files text;
}
