-- How the parts of `check` lead to its end.
use Rattle.std.proofs.Common.{◌≡◌, inl, inr, ℕ, List, length, take, Option, Some, None, IsSome, Result, Ok, Err, refl, sym, ap, ◌∙◌, subst}
use Rattle.std.proofs.Math.Seq.{take-append_seam}
use Rattle.xa_outside.specs.Folder.{Files, bytes_or_none}
use Rattle.key_spec.specs.Data.{PlainRule}
use Rattle.keyed_tree.specs.Data.{PlainKeyed}
use Rattle.archive_file.specs.Sound.{Sound, SoundAs}
use Rattle.version_notes.specs.Parts.{parts_behind, parts_in}
use Rattle.version_notes.specs.Reader.{at_first, file_of}
use Rattle.version_notes.specs.Reading.{notes_from}
use Rattle.version_notes.specs.declared.parts.Parts.{Parts}
use Rattle.noted_file.specs.Contents.{Contents}
use Rattle.noted_file.specs.Full.{Full, FullAs}
use Rattle.xarch_words.specs.Commands.{check}
use Rattle.xarch_words.specs.Refusal.{Refusal, no_file, damaged}
use Rattle.xarch_parts.specs.Archives.{GoesOn, PartsAre}
use Rattle.xarch_parts.specs.Inputs.{read_in}
use Rattle.xarch_parts.specs.Inputs as inputs
use Rattle.xarch_parts.specs.Outcome.{Outcome, and_then, or_refuse}
use Rattle.xarch_parts.specs.Readings.{parts_of}
use Rattle.xarch_meanings.specs.Check.{IsFound, check_text}
use Rattle.xarch_meanings.specs.Meanings.{MayBe}

not_parted : (o : Option Parts) (name : List ℕ) (q : Refusal) → or_refuse o (damaged name) ≡ Err q → (o ≡ None) × (q ≡ damaged name)
not_parted None name q e = let same : damaged name ≡ q = cc in (refl, sym same)
not_parted (Some p) name q e = absurd cc

some_is : {A : Type 0} (o : Option A) → IsSome o → (a : A) × (o ≡ Some a)
some_is (Some a) h = (a, refl)
some_is None h = absurd cc

-- From what is known of all archives with notes.
module _ (has_parts : (c : Contents) (bytes : List ℕ) (full : FullAs c bytes) → parts_in bytes ≡ Some (parts_behind full.core c.notes))
    (none : (bytes : List ℕ) → parts_in bytes ≡ None → ¬ Full bytes)
    (files : Files) (name : List ℕ) where
  early : (x : Result (List ℕ) Refusal) (q : Refusal) → and_then x (parts_of name) ≡ Err q → GoesOn x (IsFound files name) (Err q)
  early (Err r) q e = let same : r ≡ q = cc in ap (λ (z : Refusal). Err z) (sym same)
  early (Ok bytes) q e = let n = not_parted (parts_in bytes) name q e in inr (record { unsound = none bytes n.0; is = ap (λ (z : Refusal). Err z) n.1 })

  -- the archive is not there, or has no parts
  pub may_refuse_early : (q : Refusal) → read_in files name (parts_of name) ≡ Err q → MayBe files (check name) (Err q)
  may_refuse_early q e = early (inputs.file_of files name) q e

  module _ (parts : Parts) (p : PartsAre files name parts) where
    judged : (r : Result Outcome Refusal) → IsFound files name p.bytes r → GoesOn (inputs.file_of files name) (IsFound files name) r
    judged r is = subst (λ o. GoesOn (or_refuse o (no_file name)) (IsFound files name) r) (sym p.there) is

    -- a file with notes has a sound archive before them
    pub core_sound : (f : Full p.bytes) → SoundAs f.contents.rules f.contents.versions (take parts.core p.bytes)
    core_sound f =
        let both : Some (parts_behind f.is.core f.contents.notes) ≡ Some parts = sym (has_parts f.contents p.bytes f.is) ∙ p.are in
        let same : parts_behind f.is.core f.contents.notes ≡ parts = cc in
        subst (λ (z : List ℕ). SoundAs f.contents.rules f.contents.versions z) (sym (cut f (ap (λ (x : Parts). x.core) same))) f.is.is
      where
        cut : (f : Full p.bytes) → length f.is.core ≡ parts.core → take parts.core p.bytes ≡ f.is.core
        cut f long = ap (λ n. take n p.bytes) (sym long) ∙ ap (take (length f.is.core)) f.is.spelled ∙ take-append_seam f.is.core _

    -- it has no sound archive before its notes
    pub may_refuse_core : (q : Refusal) → q ≡ damaged name → ¬ Sound (take parts.core p.bytes) → MayBe files (check name) (Err q)
    may_refuse_core q named h = judged (Err q) (inr (record { unsound = λ f. h (record { rules = f.contents.rules; versions = f.contents.versions; is = core_sound f }); is = ap (λ (z : Refusal). Err z) named }))

    whole : file_of files name ≡ p.bytes
    whole = ap bytes_or_none p.there

    module _ (s : Sound (take parts.core p.bytes)) (n : ℕ) (count : length s.versions ≡ n) where
      -- its notes are as many as its versions
      pub may_tell : ((c : Contents) (bytes name : List ℕ) (parts : Parts) → parts_in bytes ≡ Some parts → SoundAs c.rules c.versions (take parts.core bytes) → notes_from (at_first name parts (length c.versions)) bytes ≡ Some c.notes → FullAs c bytes)
          → IsSome (notes_from (at_first name parts n) (file_of files name)) → MayBe files (check name) (Ok (record { files = files; output = check_text n }))
      may_tell full some =
          let here : IsSome (notes_from (at_first name parts (length s.versions)) p.bytes) = subst (λ k. IsSome (notes_from (at_first name parts k) p.bytes)) (sym count) (subst (λ b. IsSome (notes_from (at_first name parts n) b)) whole some) in
          let notes = some_is (notes_from (at_first name parts (length s.versions)) p.bytes) here in
          let c : Contents = record { rules = s.rules; versions = s.versions; notes = notes.0 } in
          judged (Ok (record { files = files; output = check_text n }))
          (inl (record {
            full = record { contents = c; is = full c p.bytes name parts p.are s.is notes.1 };
            is = ap (λ (k : ℕ). Ok (record { files = files; output = check_text k })) (sym count);
          }))

      -- or they are not
      pub may_refuse_notes : ((rules : List PlainRule) (vs : List PlainKeyed) (bytes name : List ℕ) (parts : Parts) → parts_in bytes ≡ Some parts → SoundAs rules vs (take parts.core bytes) → notes_from (at_first name parts (length vs)) bytes ≡ None → ¬ Full bytes)
          → (q : Refusal) → q ≡ damaged name → notes_from (at_first name parts n) (file_of files name) ≡ None → MayBe files (check name) (Err q)
      may_refuse_notes damage q named e =
          let here : notes_from (at_first name parts (length s.versions)) p.bytes ≡ None = subst (λ k. notes_from (at_first name parts k) p.bytes ≡ None) (sym count) (subst (λ b. notes_from (at_first name parts n) b ≡ None) whole e) in
          judged (Err q) (inr (record { unsound = damage s.rules s.versions p.bytes name parts p.are s.is here; is = ap (λ (z : Refusal). Err z) named }))
