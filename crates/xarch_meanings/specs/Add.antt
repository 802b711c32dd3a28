-- What `add` does: it adds a document to an archive as its next version, with a note.
use Rattle.std.specs.Prelude.{ℕ, List, length, nat_lt, Result, Ok, Err, if◌then◌else◌, ◌≡◌, ◌⊎◌, ◌+◌, ◌-◌, ◌^◌, ◌≤◌, ◌<◌, max, [], ◌∷◌, ◌++◌, Some}
use Rattle.xa_outside.specs.Folder.{Files}
use Rattle.key_spec.specs.Data.{PlainRule}
use Rattle.keyed_tree.specs.Data.{PlainKeyed}
use Rattle.noted_file.specs.Contents.{Contents, with_version}
use Rattle.xarch_words.specs.Refusal as refusal
use Rattle.xarch_words.specs.Refusal.{document, versions, Refusal, limit, folder_fault, refused}
use Rattle.xarch_words.specs.declared.limits.TheConstants.{DOCUMENT}
use Rattle.xarch_parts.specs.Archives.{GoesOn, Opens, Stores, short_note}
use Rattle.xarch_parts.specs.Inputs.{length_in, read_in, file_length, file_of, size_in}
use Rattle.xarch_parts.specs.Outcome.{Outcome, and_then}
use Rattle.xarch_parts.specs.Readings.{document_of, keyed_of, front_in}
use Rattle.record_parts.specs.declared.limits.TheConstants.{MOST_VERSIONS}
use Rattle.xa_outside.specs.Numbers.{Numbers}
use Rattle.archive_tree.specs.Data.{PlainArchive}
use Rattle.record_format.specs.Files.{FileOf, largest}
use Rattle.stream_merge.specs.Added.{Overfull}
use Rattle.stream_merge.specs.Short.{IsShortTree}
use Rattle.version_notes.specs.declared.limits.TheConstants.{LONGEST_NOTE}
use Rattle.xarch_meanings.specs.Meaning.{Meaning, in_turn, next_archive, plain}
use Rattle.xarch_meanings.specs.Over.{HasArchiveWith, IfSound, MayMake, MayOver}

-- an archive of n versions may have one more
abbrev pub room_behind : ℕ → Result Unit Refusal
room_behind n = if nat_lt n MOST_VERSIONS then Ok tt else Err (limit versions MOST_VERSIONS)

-- the keyed tree of the document that some bytes spell, where it satisfies the keys
abbrev pub tree_of : List PlainRule → List ℕ → Result PlainKeyed Refusal
tree_of rules bytes = and_then (document_of bytes) (keyed_of rules)

-- The keyed tree of the document under an archive's rules, for an archive of n versions. The document's length is judged
-- first, then its bytes, its keys, and the number of versions.
abbrev pub added : Files → List ℕ → List PlainRule → ℕ → Result PlainKeyed Refusal
added files doc rules n =
    and_then (length_in files doc document DOCUMENT) (λ _.
    and_then (read_in files doc document_of) (λ t.
    and_then (keyed_of rules t) (λ k.
    and_then (room_behind n) (λ _.
    Ok k))))

-- what comes of the document and its note where the archive holds this
abbrev pub AddsTo : Files → List ℕ → List ℕ → List ℕ → Contents → Result Outcome Refusal → Type 0
AddsTo files archive doc note c r = GoesOn (added files doc c.rules (length c.versions)) (λ k. Stores files archive (with_version c k note)) r

-- The length of the note is judged before all else.
abbrev pub AddIs : Files → List ℕ → List ℕ → List ℕ → Result Outcome Refusal → Type 0
AddIs files archive doc note r = GoesOn (short_note note) (λ _. Opens files archive (AddsTo files archive doc note)) r

-- ---- what is decided before the records of an archive are looked at

-- behind a header the bytes of the document
abbrev pub text_behind : Files → List ℕ → List PlainRule × ℕ → Result ((List PlainRule × ℕ) × List ℕ) Refusal
text_behind files doc h =
    and_then (file_of files doc) (λ bytes.
    Ok (h, bytes))

-- The rules and the number of versions of the archive and the bytes of the document, or the first refusal: the archive is there, the document
-- is there and not too long, a header stands in front of the archive.
abbrev pub text_read : Files → List ℕ → List ℕ → Result ((List PlainRule × ℕ) × List ℕ) Refusal
text_read files name doc =
    and_then (file_length files name) (λ _.
    and_then (length_in files doc document DOCUMENT) (λ _.
    and_then (read_in files name (front_in name)) (text_behind files doc)))

-- And in place of the bytes the keyed tree of the document, which is one and satisfies the keys.
abbrev pub with_tree : (List PlainRule × ℕ) × List ℕ → Result ((List PlainRule × ℕ) × PlainKeyed) Refusal
with_tree p =
    and_then (tree_of p.0.0 p.1) (λ k.
    Ok (p.0, k))

abbrev pub add_read : Files → List ℕ → List ℕ → Result ((List PlainRule × ℕ) × PlainKeyed) Refusal
add_read files name doc = and_then (text_read files name doc) with_tree

-- And there is room for a version more.
abbrev pub add_input : Files → List ℕ → List ℕ → Result ((List PlainRule × ℕ) × PlainKeyed) Refusal
add_input files name doc =
    and_then (add_read files name doc) (λ p.
    and_then (room_behind p.0.1) (λ _.
    Ok p))

-- the new archive replaces the old one
abbrev pub MayAdd : Files → List ℕ → Result Outcome Refusal → Type 0
MayAdd files name r = MayMake files name name r

-- ---- when a document is handed in

-- The document in this file is handed in with this note to an archive that holds this, and this is its keyed tree: within the
-- limits it satisfies the keys, the note is short enough, and the versions with the document have a file.
pub record IsHandedIn (files : Files) (doc note : List ℕ) (h : Contents) (k : PlainKeyed) : Type 0 where
  pub short : short_note note ≡ Ok tt
  pub satisfies : added files doc h.rules (length h.versions) ≡ Ok k
  pub bytes : List ℕ
  pub file : FileOf h.rules (h.versions ++ k ∷ []) bytes

-- the document is handed in, and its tree comes behind the versions, its note behind the notes
pub record ComesIn (files : Files) (doc note : List ℕ) (h i : Contents) : Type 0 where
  pub tree : PlainKeyed
  pub handed : IsHandedIn files doc note h tree
  pub is : i ≡ with_version h tree note

-- the document is not handed in, and the versions are as they were
pub record StaysOut (files : Files) (doc note : List ℕ) (h i : Contents) : Type 0 where
  pub none : (k : PlainKeyed) → ¬ IsHandedIn files doc note h k
  pub is : i ≡ h

-- what an archive holds before a document comes to it and behind that
abbrev pub AddsDoc : Files → List ℕ → List ℕ → Contents → Contents → Type 0
AddsDoc files doc note h i = ComesIn files doc note h i ⊎ StaysOut files doc note h i

-- ---- how it goes over a sound archive

abbrev pub or_zero : Result ℕ Refusal → ℕ
or_zero (Ok n) = n
or_zero (Err e) = 0

-- how many bytes are read of a document: none of one that is absent, or longer than a document may be
abbrev pub document_size : Files → List ℕ → ℕ
document_size files doc = or_zero (length_in files doc document DOCUMENT)

-- Nothing was read before the draft was begun last, and since then no more bytes than the document and the archive have, and 16 in which it is looked
-- where the notes begin. At any moment what was read is ahead of what was written by no more than the document, these 16, and the longest record, the
-- body of an END not counted, or the longest that a note may be.
pub record OnePass (files : Files) (archive doc : List ℕ) (rules : List PlainRule) (a : PlainArchive) (before after : Numbers) : Type 0 where
  pub begun_first : after.pulled ≤ before.pulled + after.since
  pub once : after.since ≤ document_size files doc + (size_in (Some files) archive + 16)
  pub close : after.gap ≤ document_size files doc + (16 + max (largest rules a) 1028)

-- ---- all that is said of it

-- It should succeed where the archive is sound and the document is handed in. Its words alone refuse a note that is too long, but the draft is begun before
-- that, which may fail. It goes over a sound archive once, as long as the folder did not fail and the count of what was read since has not run out.
--
-- Whatever the archive is: with a note that is short enough, where what it reads first is not refused, a limit refuses it only where one more call of the
-- writer does not fit behind the draft and behind calls that fit. Each label and body that a call was given fits its field and takes at most so many bytes,
-- as many as the archive and 12, each label and each body of the document's keyed tree, if those fit their fields; the sets that it was given take at most
-- so many, maybe with the new version. The draft holds no note then.
abbrev pub add_meaning : List ℕ → List ℕ → List ℕ → Meaning
add_meaning archive doc note = record (plain (in_turn (next_archive archive)) (λ files. AddIs files archive doc note)) {
  May = λ files. GoesOn (short_note note) (λ _. MayOver files archive (GoesOn (add_input files archive doc) (λ _. MayAdd files archive)) (AddsTo files archive doc note));
  Should = λ files. HasArchiveWith files archive (λ c. (k : PlainKeyed) × IsHandedIn files doc note c k);
  ByWords = λ ended. LONGEST_NOTE < length note → (ended ≡ Some (refused (limit refusal.note LONGEST_NOTE))) ⊎ (ended ≡ Some folder_fault);
  most = λ told. size_in told archive + (16 + DOCUMENT);
  Once = λ told before after failed. IfSound told archive (λ files c a. after.since < 2 ^ 64 - 1 → ¬ failed → OnePass files archive doc c.rules a before after);
  Fills = λ told draft limited. (files : Files) (rules : List PlainRule) (n : ℕ) (tree : PlainKeyed) (b : ℕ) → told ≡ Some files → short_note note ≡ Ok tt
      → add_input files archive doc ≡ Ok ((rules, n), tree) → limited → size_in told archive + 12 ≤ b → IsShortTree b tree → Overfull b rules (n + 1) draft;
  Changes = λ files. AddsDoc files doc note;
}
