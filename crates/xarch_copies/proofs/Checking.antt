-- What is decided before the records of archives are looked at, and what is known of a sound archive by what stands in front of it.
use Rattle.std.proofs.Common.{◌≡◌, ℕ, List, length, Option, Some, None, option_map, Result, Ok, Err, refl, sym, ap, ◌∙◌}
use Rattle.std.specs.FinMap as map
use Rattle.xa_outside.specs.Folder.{Files, bytes_or_none}
use Rattle.key_spec.specs.Canonical.{canonical}
use Rattle.key_spec.specs.Closed.{closed}
use Rattle.key_spec.specs.Data.{PlainRule}
use Rattle.keyed_tree.specs.Data.{PlainKeyed}
use Rattle.archive_file.specs.Sound.{SoundAs}
use Rattle.record_cursor.specs.Moves.{TellsFront, IsHeaderOf}
use Rattle.record_cursor.specs.View.{header_view}
use Rattle.record_format.specs.Files.{FileOf}
use Rattle.record_format.specs.Fronts.{header}
use Rattle.version_notes.specs.Parts.{parts_behind, parts_in}
use Rattle.version_notes.specs.Reader.{at_first, file_of}
use Rattle.version_notes.specs.Reading.{notes_from}
use Rattle.version_notes.specs.declared.parts.Parts.{Parts}
use Rattle.noted_file.specs.Contents.{Contents}
use Rattle.noted_file.specs.Full.{FullAs}
use Rattle.xarch_words.specs.Refusal.{Refusal, no_file, refused}
use Rattle.xarch_parts.specs.Archives.{ArchiveIs, IsFrontOf, PartsAre}
use Rattle.xarch_parts.specs.CoreLaws.{core-sound, same-file}
use Rattle.xarch_parts.specs.Inputs.{file_length}
use Rattle.xarch_parts.specs.Outcome.{and_then, or_refuse}
use Rattle.xarch_parts.specs.declared.front.Front.{Front}
use Rattle.xarch_meanings.specs.FrontLaws.{front-told, header-is}

-- ---- what is decided first

pub checked-once : {A : Type 0} (x y : Result Unit Refusal) (z : Result A Refusal) → and_then x (λ _. and_then y (λ _. z)) ≡ and_then (and_then x (λ _. y)) (λ _. z)
checked-once (Ok u) y z = refl
checked-once (Err q) y z = refl

pub checked-refused : {A : Type 0} (x : Result Unit Refusal) (a : A) (q : Refusal) → and_then x (λ _. Ok a) ≡ Err q → x ≡ Err q
checked-refused (Ok u) a q e = absurd cc
checked-refused (Err r) a q e = (let same : r ≡ q = cc in ap (λ s. Err s) same)

pub checked-given : {A : Type 0} (x : Result Unit Refusal) (a b : A) → and_then x (λ _. Ok a) ≡ Ok b → x ≡ Ok tt
checked-given (Ok u) a b e = refl
checked-given (Err r) a b e = absurd cc

-- and so is what was found
one-found : {A : Type 0} (x y : A) → Some x ≡ Some y → x ≡ y
one-found x y e = cc

pub drafted : (draft : Option (List ℕ)) (bytes told : List ℕ) → option_map (λ (d : List ℕ). bytes) draft ≡ Some told → told ≡ bytes
drafted None bytes told e = absurd cc
drafted (Some d) bytes told e = cc

-- a file that is there has its length
pub length-there : (files : Files) (name bytes : List ℕ) → map.get files name ≡ Some bytes → file_length files name ≡ Ok (length bytes)
length-there files name bytes there = ap (λ o. and_then (or_refuse o (no_file name)) (λ b. Ok (length b))) there

-- ---- a sound archive

-- The archive of these versions and notes is what the header and the parts in front of it say.
pub record IsSeen (told : Option Files) (files : Files) (name : List ℕ) (front : Front) (c : Contents) (core : List ℕ) : Type 0 where
  pub at : TellsFront told name (header_view front.header).length core
  pub heads : IsHeaderOf (header_view front.header) core
  pub sound : SoundAs c.rules c.versions core
  pub same_rules : (header_view front.header).rules ≡ c.rules
  pub versions : (header_view front.header).versions ≡ length c.versions
  pub read : notes_from (at_first name front.parts (header_view front.header).versions) (file_of files name) ≡ Some c.notes

-- From what is known of all archive files with notes: where their parts stand, the header in front, and how their notes are read.
module _ (has_parts : (c : Contents) (bytes : List ℕ) (full : FullAs c bytes) → parts_in bytes ≡ Some (parts_behind full.core c.notes))
    (fronted : (rules : List PlainRule) (vs : List PlainKeyed) (bytes : List ℕ) → closed (canonical rules) ≡ Ok rules → FileOf rules vs bytes → header bytes ≡ Some (rules, length vs))
    (come : (c : Contents) (bytes name : List ℕ) (parts : Parts) → FullAs c bytes → parts_in bytes ≡ Some parts → notes_from (at_first name parts (length c.versions)) bytes ≡ Some c.notes)
    (files : Files) (name : List ℕ) (told : Option Files) (tells : told ≡ Some files) (front : Front) (are : PartsAre files name front.parts) (stands : IsFrontOf files name (header_view front.header))
    (c : Contents) (a : ArchiveIs files name c) where
  sound-front : SoundAs c.rules c.versions stands.core
  sound-front = core-sound has_parts files name c a (header_view front.header).length stands.core stands.of

  front-is : ◌≡◌ {A = List PlainRule × ℕ} (c.rules, length c.versions) ((header_view front.header).rules, (header_view front.header).versions)
  front-is =
      let h = header_view front.header in
      let one : ◌≡◌ {A = Option (List PlainRule × ℕ)} (Some (c.rules, length c.versions)) (Some (h.rules, h.versions)) = sym (fronted c.rules c.versions stands.core sound-front.specification sound-front.file) ∙ ap (option_map (λ (x : (List PlainRule × ℕ) × List ℕ). x.0)) stands.is in
      one-found (c.rules, length c.versions) (h.rules, h.versions) one

  versions-are : (header_view front.header).versions ≡ length c.versions
  versions-are = sym (ap (λ (x : List PlainRule × ℕ). x.1) front-is)

  -- the notes of the archive are those that are read
  notes-read : notes_from (at_first name front.parts (header_view front.header).versions) (file_of files name) ≡ Some c.notes
  notes-read =
      let same : are.bytes ≡ a.bytes = same-file files name are.bytes a.bytes are.there a.there in
      let parted : parts_in a.bytes ≡ Some front.parts = ap parts_in (sym same) ∙ are.are in
      (λ k. notes_from (at_first name front.parts (versions-are k)) (bytes_or_none (a.there k))) ∙ come c a.bytes name front.parts a.full parted

  pub seen : IsSeen told files name front c stands.core
  seen = record {
    at = front-told files told name (header_view front.header) tells stands;
    heads = header-is files told name (header_view front.header) tells stands;
    sound = sound-front;
    same_rules = sym (ap (λ (x : List PlainRule × ℕ). x.0) front-is);
    versions = versions-are;
    read = notes-read;
  }
