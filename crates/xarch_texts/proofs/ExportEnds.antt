-- How the parts of `export` lead to its end.
use Rattle.std.proofs.Common.{◌≡◌, inl, inr, ℕ, List, length, take, Option, Some, None, Result, Ok, Err, refl, sym, ap, ◌∙◌, subst}
use Rattle.xa_outside.specs.Folder.{Files, bytes_or_none}
use Rattle.key_spec.specs.Data.{PlainRule}
use Rattle.keyed_tree.specs.Data.{PlainKeyed}
use Rattle.archive_tree.specs.Data.{PlainArchive}
use Rattle.archive_tree.specs.Stands.{ArchiveOf}
use Rattle.archive_file.specs.Sound.{Sound, SoundAs}
use Rattle.archive_text.specs.Export.{export_text}
use Rattle.version_notes.specs.Parts.{parts_behind, parts_in}
use Rattle.version_notes.specs.Reader.{at_first, file_of}
use Rattle.version_notes.specs.Reading.{notes_from}
use Rattle.version_notes.specs.declared.parts.Parts.{Parts}
use Rattle.noted_file.specs.Contents.{Contents}
use Rattle.noted_file.specs.Full.{Full, FullAs}
use Rattle.xarch_words.specs.Commands.{export}
use Rattle.xarch_words.specs.Refusal.{Refusal, damaged}
use Rattle.xarch_parts.specs.Archives.{ArchiveIs, GoesOn, PartsAre}
use Rattle.xarch_parts.specs.CoreLaws.{core-sound, no-parts, of-parts, parts-read, same-file}
use Rattle.xarch_parts.specs.Outcome.{Outcome}
use Rattle.xarch_meanings.specs.Export.{ExportsFrom}
use Rattle.xarch_meanings.specs.Over.{DamagedOrSound}
use Rattle.xarch_meanings.specs.Meanings.{MayBe}
use Rattle.xarch_meanings.specs.Stats.{stats_input}
use Rattle.xarch_texts.specs.Kept.{IsReadOf}

-- From what is known of all archives with notes: where their parts stand, and that their notes come one after another.
module _ (has_parts : (c : Contents) (bytes : List ℕ) (full : FullAs c bytes) → parts_in bytes ≡ Some (parts_behind full.core c.notes))
    (files : Files) (name : List ℕ) where
  -- the archive is not there, or has no parts
  pub may_refuse_early : (q : Refusal) → stats_input files name ≡ Err q → MayBe files (export name) (Err q)
  may_refuse_early q e = record {
    whatever = subst (λ x. GoesOn x (λ _. DamagedOrSound files name) (Err q)) (sym e) refl;
    sound = λ c a. absurd (no-parts has_parts files name c a q e);
  }

  module _ (parts : Parts) (p : PartsAre files name parts) where
    -- what it ends in, behind its parts
    ends : (r : Result Outcome Refusal) → DamagedOrSound files name r → ((c : Contents) → ArchiveIs files name c → ExportsFrom files c r) → MayBe files (export name) r
    ends r may exact = record {
      whatever = subst (λ x. GoesOn x (λ _. DamagedOrSound files name) r) (sym (parts-read files name p.bytes parts p.there p.are)) may;
      sound = exact;
    }

    -- it is damaged
    damage : (q : Refusal) → q ≡ damaged name → ((c : Contents) → ¬ ArchiveIs files name c) → MayBe files (export name) (Err q)
    damage q is none = ends (Err q) (inl (ap (λ (r : Refusal). Err r) is)) (λ c a. absurd (none c a))

    whole : file_of files name ≡ p.bytes
    whole = ap bytes_or_none p.there

    -- an archive is sound before its notes
    sound_core : (c : Contents) → ArchiveIs files name c → SoundAs c.rules c.versions (take parts.core (file_of files name))
    sound_core c a = subst (λ (b : List ℕ). SoundAs c.rules c.versions (take parts.core b)) (sym whole) (core-sound has_parts files name c a parts.core (take parts.core p.bytes) (of-parts files name parts p))

    pub may_refuse_core : (q : Refusal) → q ≡ damaged name → ¬ Sound (take parts.core (file_of files name)) → MayBe files (export name) (Err q)
    may_refuse_core q is unsound = damage q is (λ c a. unsound (record { rules = c.rules; versions = c.versions; is = sound_core c a }))

    module _ (rules : List PlainRule) (a : PlainArchive) (n : ℕ) (count : n ≡ a.n) (read : IsReadOf (take parts.core (file_of files name)) rules a) where
      core : SoundAs rules read.versions (take parts.core p.bytes)
      core = subst (λ (b : List ℕ). SoundAs rules read.versions (take parts.core b)) whole read.sound

      -- as many notes are due as there are versions
      due : n ≡ length read.versions
      due = count ∙ sym read.of.count

      notes_here : (found : Option (List (List ℕ))) → notes_from (at_first name parts n) (file_of files name) ≡ found → notes_from (at_first name parts (length read.versions)) p.bytes ≡ found
      notes_here found e = (λ i. notes_from (at_first name parts (sym due i)) (sym whole i)) ∙ e

      pub may_refuse_notes : ((rules : List PlainRule) (vs : List PlainKeyed) (bytes name : List ℕ) (parts : Parts) → parts_in bytes ≡ Some parts → SoundAs rules vs (take parts.core bytes) → notes_from (at_first name parts (length vs)) bytes ≡ None → ¬ Full bytes)
          → (q : Refusal) → q ≡ damaged name → notes_from (at_first name parts n) (file_of files name) ≡ None → MayBe files (export name) (Err q)
      may_refuse_notes none q is e =
          damage q is (λ c a.
          let same = same-file files name a.bytes p.bytes a.there p.there in
          none rules read.versions p.bytes name parts p.are core (notes_here None e) (record { contents = c; is = subst (λ (b : List ℕ). FullAs c b) same a.full }))

      module _ (full : (c : Contents) (bytes name : List ℕ) (parts : Parts) → parts_in bytes ≡ Some parts → SoundAs c.rules c.versions (take parts.core bytes)
          → notes_from (at_first name parts (length c.versions)) bytes ≡ Some c.notes → FullAs c bytes)
          (one : (c d : Contents) (bytes : List ℕ) → FullAs c bytes → FullAs d bytes → c ≡ d)
          (notes : List (List ℕ)) (e : notes_from (at_first name parts n) (file_of files name) ≡ Some notes) where
        abbrev contents : Contents
        contents = record { rules = rules; versions = read.versions; notes = notes }

        -- it is sound
        opened : ArchiveIs files name contents
        opened = record { bytes = p.bytes; there = p.there; full = full contents p.bytes name parts p.are core (notes_here (Some notes) e) }

        -- its text is written
        pub may_export : MayBe files (export name) (Ok (record { files = files; output = export_text rules a notes }))
        unfolding opened
        may_export =
            let text = export_text rules a notes in
            ends (Ok (record { files = files; output = text })) (inr (record { contents = contents; archive = opened; rest = tt }))
            (λ c is.
            let bytes = same-file files name is.bytes p.bytes is.there p.there in
            let same = one contents c p.bytes opened.full (subst (λ (b : List ℕ). FullAs c b) bytes is.full) in
            record { text = text; of = record { archive = a; is = subst (λ (x : Contents). ArchiveOf x.versions a) same read.of; spelled = λ i. export_text (same i).rules a (same i).notes }; is = refl })
