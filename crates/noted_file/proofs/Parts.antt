-- The core of a file with notes, and its parts.
use Rattle.std.proofs.Common.{◌≡◌, ℕ, zero, suc, true, false, List, [], ◌++◌, length, take, Option, Some, None, refl, sym, ap, subst, ◌∙◌, arith}
use Rattle.std.specs.Prelude.{replicate}
use Rattle.std.specs.List.{AllByRecursion}
use Rattle.std.specs.Str.{bytes_eq}
use Rattle.std.proofs.lemmas.Bool.{false_from_ne_true}
use Rattle.std.proofs.lemmas.List.{append-nil, length-replicate, take_at}
use Rattle.std.proofs.lemmas.Slice.Eq.{bytes_eq-Decides}
use Rattle.std.proofs.lemmas.Str.{IsUtf8-nil}
use Rattle.key_spec.specs.Data.{PlainRule}
use Rattle.keyed_tree.specs.Data.{PlainKeyed}
use Rattle.record_format.specs.Files.{FileOf}
use Rattle.record_format.proofs.HeaderLaws.{one_file}
use Rattle.archive_file.specs.Sound.{SoundAs}
use Rattle.archive_file.proofs.TailLaws.{file-unmarked}
use Rattle.xa_fields.proofs.Fields.{some_is}
use Rattle.version_notes.specs.Notes.{IsNote, AreNotes, are_empty, mark, notes_part}
use Rattle.version_notes.specs.Parts.{last, is_marked, parts_in, parts_behind}
use Rattle.version_notes.specs.Reader.{AreBehind}
use Rattle.version_notes.specs.declared.parts.Parts.{Parts}
use Rattle.version_notes.proofs.Spelled.{parts_found}
use Rattle.noted_file.specs.Contents.{Contents}
use Rattle.noted_file.specs.Full.{Noted, FullOf, FullAs, Full}

-- ---- files without notes

part_empty : (notes : List (List ℕ)) → are_empty notes ≡ true → notes_part notes ≡ []
part_empty notes e = rw e refl

empty-note : IsNote []
empty-note = (record { short = omega arith; utf8 = IsUtf8-nil }, refl)

empties : (n : ℕ) → (are_empty (replicate n []) ≡ true) × AllByRecursion IsNote (replicate n [])
empties zero = (refl, tt)
empties (suc n) = (let more = empties n in (more.0, (empty-note, more.1)))

-- a core by itself has empty notes
pub core-noted : (IsCore : List ℕ → Type 0) (n : ℕ) (bytes : List ℕ) → IsCore bytes → Noted IsCore n (replicate n []) bytes
core-noted IsCore n bytes h = record {
  core = bytes;
  is = h;
  as_many = length-replicate n [];
  each = (empties n).1;
  spelled = sym (append-nil bytes) ∙ ap (λ (z : List ℕ). bytes ++ z) (sym (part_empty (replicate n []) (empties n).0));
}

pub noted-core : (IsCore : List ℕ → Type 0) (n : ℕ) (notes : List (List ℕ)) (bytes : List ℕ) → are_empty notes ≡ true → Noted IsCore n notes bytes → IsCore bytes
noted-core IsCore n notes bytes e f =
    let same : f.core ≡ bytes = sym (f.spelled ∙ ap (λ (z : List ℕ). f.core ++ z) (part_empty notes e) ∙ append-nil f.core) in
    subst IsCore same f.is

-- versions and notes have one file
pub file-one : (c : Contents) (a b : List ℕ) → FullOf c a → FullOf c b → a ≡ b
file-one c a b f g = f.spelled ∙ ap (λ (core : List ℕ). core ++ notes_part c.notes) (one_file c.rules c.versions f.core g.core f.is g.is) ∙ sym g.spelled

-- ---- parts

unmarked : (rules : List PlainRule) (vs : List PlainKeyed) (core : List ℕ) → FileOf rules vs core → is_marked core ≡ false
unmarked rules vs core f = false_from_ne_true (bytes_eq mark (last 8 core)) (λ e. file-unmarked rules vs core f (sym ((bytes_eq-Decides mark (last 8 core)).0 e)))

pub as_file : (c : Contents) (bytes : List ℕ) → FullAs c bytes → FullOf c bytes
as_file c bytes f = record { core = f.core; is = f.is.file; as_many = f.as_many; each = f.each; spelled = f.spelled }

are-notes : (c : Contents) (bytes : List ℕ) → FullOf c bytes → AreNotes c.notes
are-notes c bytes f = (let few = f.is.has.count in let count = f.is.is.count in let many = f.as_many in record { each = f.each; few = omega (arith, few, count, many) })

file-parts : (c : Contents) (bytes : List ℕ) (f : FullOf c bytes) → parts_in bytes ≡ Some (parts_behind f.core c.notes)
file-parts c bytes f = ap parts_in f.spelled ∙ parts_found f.core c.notes (unmarked c.rules c.versions f.core f.is) (are-notes c bytes f)

pub full-parts : (c : Contents) (bytes : List ℕ) (f : FullAs c bytes) → parts_in bytes ≡ Some (parts_behind f.core c.notes)
unfolding as_file
full-parts c bytes f = file-parts c bytes (as_file c bytes f)

pub full-notes : (c : Contents) (bytes : List ℕ) → FullAs c bytes → AreNotes c.notes
full-notes c bytes f = are-notes c bytes (as_file c bytes f)

pub full-part : (c : Contents) (bytes : List ℕ) (parts : Parts) (f : FullAs c bytes) → parts_in bytes ≡ Some parts → parts ≡ parts_behind f.core c.notes
full-part c bytes parts f e = some_is parts (parts_behind f.core c.notes) (sym e ∙ full-parts c bytes f)

-- the front of so many bytes is the core
full-front : (c : Contents) (bytes : List ℕ) (parts : Parts) (f : FullAs c bytes) → parts_in bytes ≡ Some parts → take parts.core bytes ≡ f.core
full-front c bytes parts f e = ap (λ (p : Parts). take p.core bytes) (full-part c bytes parts f e) ∙ ap (take (length f.core)) f.spelled ∙ take_at f.core (notes_part c.notes) (length f.core) refl

pub full-core : (c : Contents) (bytes : List ℕ) (parts : Parts) → FullAs c bytes → parts_in bytes ≡ Some parts → SoundAs c.rules c.versions (take parts.core bytes)
full-core c bytes parts f e = subst (SoundAs c.rules c.versions) (sym (full-front c bytes parts f e)) f.is

-- what stands behind it
pub full-behind : (c : Contents) (bytes : List ℕ) (parts : Parts) → FullAs c bytes → parts_in bytes ≡ Some parts → AreBehind parts (length c.versions) bytes c.notes
full-behind c bytes parts f e = record { count = f.as_many; each = f.each; bytes = f.spelled ∙ ap (λ (core : List ℕ). core ++ notes_part c.notes) (sym (full-front c bytes parts f e)) }

-- a sound core, and the notes behind it
pub behind-full : (c : Contents) (bytes : List ℕ) (parts : Parts) → SoundAs c.rules c.versions (take parts.core bytes) → AreBehind parts (length c.versions) bytes c.notes → FullAs c bytes
behind-full c bytes parts s b = record { core = take parts.core bytes; is = s; as_many = b.count; each = b.each; spelled = b.bytes }

pub none_some : {A : Type 0} (o : Option A) (x : A) → o ≡ None → o ≡ Some x → ⊥
none_some (Some y) x e f = absurd cc
none_some None x e f = absurd cc

pub unparted : (bytes : List ℕ) → parts_in bytes ≡ None → Full bytes → ⊥
unparted bytes e f = none_some (parts_in bytes) (parts_behind f.is.core f.contents.notes) e (full-parts f.contents bytes f.is)
