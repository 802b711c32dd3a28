-- What `demo` does: it makes an archive of generated documents.
use Rattle.std.specs.Prelude.{◌≡◌, ◌⊎◌, ℕ, List, map, Result, Ok, ◌<◌, Some}
use Rattle.std.specs.List.{range_with_len}
use Rattle.std.specs.FinMap as finite
use Rattle.xa_outside.specs.Folder.{Files}
use Rattle.keyed_tree.specs.Data.{PlainKeyed}
use Rattle.key_annotate.specs.Annotated.{keyed_tree}
use Rattle.archive_tree.specs.Data.{PlainArchive}
use Rattle.archive_tree.specs.Stands.{ArchiveOf}
use Rattle.archive_file.specs.KeyedBy.{AreKeyedBy}
use Rattle.archive_file.specs.Sound.{SoundAs}
use Rattle.archive_stats.specs.Counts.{PlainCounts, counts}
use Rattle.xarch_gen.specs.Company.{company_rules}
use Rattle.xarch_gen.specs.Sample.{sample_of}
use Rattle.noted_file.specs.Contents.{unnoted}
use Rattle.xarch_words.specs.Refusal.{demo, Refusal, limit, refused}
use Rattle.xarch_words.specs.declared.limits.TheConstants.{DEMO}
use Rattle.xarch_parts.specs.Archives.{GoesOn, TooLong, free_in}
use Rattle.xarch_parts.specs.Inputs.{at_most}
use Rattle.xarch_parts.specs.Outcome.{Outcome, and_then}
use Rattle.xarch_parts.specs.Counts.{counts_text}
use Rattle.xarch_meanings.specs.Meaning.{Meaning, new_archive, plain, stores}
use Rattle.xarch_meanings.specs.Over.{HasFile}

-- the keyed tree of a document of the generator
abbrev pub sample_tree : ℕ → ℕ → PlainKeyed
sample_tree seed k = keyed_tree company_rules (sample_of seed k)

-- those of the documents from 1 on, so many
abbrev pub samples : ℕ → ℕ → List PlainKeyed
samples seed count = map (sample_tree seed) (range_with_len 1 count)

-- the archive of these documents
pub record IsSampleArchive (seed count : ℕ) (a : PlainArchive) : Type 0 where
  pub archive : ArchiveOf (samples seed count) a
  pub keyed : AreKeyedBy company_rules (samples seed count)

-- the bytes of its file, which is sound, and its counts
pub record IsSampleFile (seed count : ℕ) (bytes : List ℕ) (c : PlainCounts) : Type 0 where
  pub archive : PlainArchive
  pub of : ArchiveOf (samples seed count) archive
  pub sound : SoundAs company_rules (samples seed count) bytes
  pub tells : c ≡ counts company_rules archive

-- there are not too many documents, and the archive's name is free
abbrev pub demo_input : Files → ℕ → List ℕ → Result Unit Refusal
demo_input files count name = and_then (at_most demo DEMO count) (λ _. free_in files name)

-- the bytes come under the name, and the counts are written
abbrev pub told_and_stored : Files → List ℕ → List ℕ → PlainCounts → Outcome
told_and_stored files name bytes tally = record { files = finite.insert files name bytes; output = counts_text tally }

-- the file comes under the name, and its counts are written
pub record Makes (files : Files) (name : List ℕ) (seed count : ℕ) (r : Result Outcome Refusal) : Type 0 where
  pub bytes : List ℕ
  pub tally : PlainCounts
  pub made : IsSampleFile seed count bytes tally
  pub is : r ≡ Ok (record { files = finite.insert files name bytes; output = counts_text tally })

-- that file, where there is one
abbrev pub MakesOrNone : Files → List ℕ → ℕ → ℕ → Result Outcome Refusal → Type 0
MakesOrNone files name seed count r = Makes files name seed count r ⊎ TooLong (unnoted company_rules (samples seed count)) r

abbrev pub DemoIs : Files → ℕ → ℕ → List ℕ → Result Outcome Refusal → Type 0
DemoIs files seed count name r = GoesOn (demo_input files count name) (λ _. MakesOrNone files name seed count) r

-- ---- all that is said of it

-- It should succeed where there are not too many documents, the archive's name is free, and the documents have a file. Its words alone refuse too many. It
-- prints its counts, so it is not silent. A new archive holds the company rules and the generated documents, whose notes are empty.
abbrev pub demo_meaning : ℕ → ℕ → List ℕ → Meaning
demo_meaning seed count name = record (plain (stores (new_archive name)) (λ files. DemoIs files seed count name)) {
  Silent = ⊥;
  Should = λ files. (demo_input files count name ≡ Ok tt) × HasFile (unnoted company_rules (samples seed count));
  ByWords = λ ended. DEMO < count → ended ≡ Some (refused (limit demo DEMO));
  Begins = λ files h. h ≡ unnoted company_rules (samples seed count);
}
