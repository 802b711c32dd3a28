-- How the parts of `stats` lead to its end.
use Rattle.std.proofs.Common.{◌≡◌, inl, inr, ℕ, ◌+◌, List, length, take, Some, Result, Ok, Err, refl, sym, ap, ◌∙◌, subst, arith}
use Rattle.std.proofs.lemmas.List.{length-append}
use Rattle.xa_outside.specs.Folder.{Files, front_of}
use Rattle.key_spec.specs.Data.{PlainRule}
use Rattle.keyed_tree.specs.Data.{PlainKeyed}
use Rattle.archive_tree.specs.Data.{PlainArchive}
use Rattle.archive_tree.specs.Stands.{ArchiveOf}
use Rattle.archive_file.specs.Sound.{SoundAs}
use Rattle.archive_stats.specs.Counts.{PlainCounts, counts}
use Rattle.version_notes.specs.Notes.{notes_part}
use Rattle.version_notes.specs.Parts.{parts_behind, parts_in}
use Rattle.version_notes.specs.declared.parts.Parts.{Parts}
use Rattle.noted_file.specs.Contents.{Contents}
use Rattle.noted_file.specs.Full.{FullAs}
use Rattle.xarch_words.specs.Commands.{stats}
use Rattle.xarch_words.specs.Refusal.{Refusal, damaged}
use Rattle.xarch_parts.specs.Archives.{ArchiveIs, CoreIs, GoesOn, PartsAre}
use Rattle.xarch_parts.specs.CoreLaws.{core-front, core-sound, no-parts, of-parts, parts-read}
use Rattle.xarch_parts.specs.InputLaws.{length-is}
use Rattle.xarch_parts.specs.Inputs.{file_length}
use Rattle.xarch_parts.specs.Outcome.{Outcome}
use Rattle.xarch_meanings.specs.Over.{MayWrite}
use Rattle.xarch_meanings.specs.Meanings.{MayBe}
use Rattle.xarch_meanings.specs.Stats.{of_size, stats_input}
use Rattle.xarch_parts.specs.Counts.{counts_text}

-- From what is known of all archives with notes: where their parts stand.
module _ (has_parts : (c : Contents) (bytes : List ℕ) (full : FullAs c bytes) → parts_in bytes ≡ Some (parts_behind full.core c.notes))
    (files : Files) (name : List ℕ) where
  -- the archive is not there, or has no parts
  pub may_refuse_early : (q : Refusal) → stats_input files name ≡ Err q → MayBe files (stats name) (Err q)
  may_refuse_early q e = record {
    whatever = subst (λ x. GoesOn x (λ _. MayWrite files name) (Err q)) (sym e) refl;
    sound = λ c a. absurd (no-parts has_parts files name c a q e);
  }

  module _ (parts : Parts) (p : PartsAre files name parts) where
    input : stats_input files name ≡ Ok parts
    input = parts-read files name p.bytes parts p.there p.are

    core : CoreIs files name parts.core (take parts.core p.bytes)
    core = of-parts files name parts p

    -- the bytes of the archive and its notes are those of the file
    whole : (c : Contents) (a : ArchiveIs files name c) (n : ℕ) → file_length files name ≡ Ok n → n ≡ (counts c.rules a.full.is.file.archive).bytes + length (notes_part c.notes)
    unfolding counts
    whole c a n long =
        let all = length-is files name a.bytes n a.there long in
        let split = ap length a.full.spelled ∙ length-append a.full.core (notes_part c.notes) in
        let spelled : length a.full.core ≡ (counts c.rules a.full.is.file.archive).bytes = ap length a.full.is.file.spelled in
        omega (arith, all, split, spelled)

    -- the counts are written
    pub may_count : (n : ℕ) (c : PlainCounts) → file_length files name ≡ Ok n
        → ((bytes : List ℕ) (rules : List PlainRule) (vs : List PlainKeyed) (a : PlainArchive) → front_of files name parts.core ≡ Some bytes → SoundAs rules vs bytes → ArchiveOf vs a → c ≡ counts rules a)
        → MayBe files (stats name) (Ok (record { files = files; output = counts_text (of_size n c) }))
    may_count n c long h =
        let r : Result Outcome Refusal = Ok (record { files = files; output = counts_text (of_size n c) }) in
        record {
          whatever = subst (λ x. GoesOn x (λ _. MayWrite files name) r) (sym input) (inr (record { output = counts_text (of_size n c); is = refl }));
          sound = λ held a.
              let file = a.full.is.file in
              let here = core-sound has_parts files name held a parts.core (take parts.core p.bytes) core in
              let same : c ≡ counts held.rules file.archive = h (take parts.core p.bytes) held.rules held.versions file.archive (core-front files name parts.core (take parts.core p.bytes) core) here file.is in
              record {
                archive = file.archive;
                of = file.is;
                is = ap (λ (k : PlainCounts). Ok (record { files = files; output = counts_text (of_size n k) })) same
                    ∙ ap (λ k. Ok (record { files = files; output = counts_text (of_size k (counts held.rules file.archive)) })) (whole held a n long);
              };
        }

    -- the archive is damaged
    pub may_refuse : ((bytes : List ℕ) (rules : List PlainRule) (vs : List PlainKeyed) → front_of files name parts.core ≡ Some bytes → ¬ SoundAs rules vs bytes) → MayBe files (stats name) (Err (damaged name))
    may_refuse h = record {
      whatever = subst (λ x. GoesOn x (λ _. MayWrite files name) (Err (damaged name))) (sym input) (inl refl);
      sound = λ c a. absurd (h (take parts.core p.bytes) c.rules c.versions (core-front files name parts.core (take parts.core p.bytes) core) (core-sound has_parts files name c a parts.core (take parts.core p.bytes) core));
    }

-- the refusal that is named
pub refuses_only : (files : Files) (name : List ℕ) (q : Refusal) → q ≡ damaged name → MayBe files (stats name) (Err (damaged name)) → MayBe files (stats name) (Err q)
refuses_only files name q e may = subst (λ (r : Refusal). MayBe files (stats name) (Err r)) (sym e) may
