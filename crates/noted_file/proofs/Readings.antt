-- Which files are read as a core and notes.
use Rattle.std.proofs.Common.{◌≡◌, ℕ, List, [], ◌++◌, length, take, Some, None, sym, ap, subst, ◌∙◌}
use Rattle.key_spec.specs.Data.{PlainRule}
use Rattle.keyed_tree.specs.Data.{PlainKeyed}
use Rattle.archive_file.specs.Sound.{SoundAs}
use Rattle.archive_file.proofs.OneReading.{sound-one}
use Rattle.xa_fields.proofs.Fields.{some_is}
use Rattle.version_notes.specs.Notes.{notes_part}
use Rattle.version_notes.specs.Parts.{parts_in, parts_behind}
use Rattle.version_notes.specs.Reader.{at_first, Comes}
use Rattle.version_notes.specs.declared.parts.Parts.{Parts}
use Rattle.version_notes.proofs.Comings.{notes_come, notes_behind}
use Rattle.noted_file.specs.Contents.{Contents}
use Rattle.noted_file.specs.Full.{FullAs, Full}
use Rattle.version_notes.specs.Reading.{notes_from}
use Rattle.version_notes.proofs.Left.{from-comes, comes-from}
use Rattle.noted_file.proofs.Parts.{full-notes, full-parts, full-part, full-core, behind-full, none_some}

full-comes : (c : Contents) (bytes name : List ℕ) (parts : Parts) → FullAs c bytes → parts_in bytes ≡ Some parts → Comes (at_first name parts (length c.versions)) bytes c.notes
full-comes c bytes name parts f e =
    subst (λ (file : List ℕ). Comes (at_first name parts (length c.versions)) file c.notes) (sym f.spelled)
    (subst (λ (p : Parts). Comes (at_first name p (length c.versions)) (f.core ++ notes_part c.notes) c.notes) (sym (full-part c bytes parts f e))
    (subst (λ (n : ℕ). Comes (at_first name (parts_behind f.core c.notes) n) (f.core ++ notes_part c.notes) c.notes) f.as_many (notes_come name f.core c.notes (full-notes c bytes f))))

pub full-come : (c : Contents) (bytes name : List ℕ) (parts : Parts) → FullAs c bytes → parts_in bytes ≡ Some parts → notes_from (at_first name parts (length c.versions)) bytes ≡ Some c.notes
full-come c bytes name parts f e = from-comes c.notes (at_first name parts (length c.versions)) bytes (full-comes c bytes name parts f e)

pub read-full : (c : Contents) (bytes name : List ℕ) (parts : Parts) → parts_in bytes ≡ Some parts
    → SoundAs c.rules c.versions (take parts.core bytes) → notes_from (at_first name parts (length c.versions)) bytes ≡ Some c.notes → FullAs c bytes
read-full c bytes name parts e s come = behind-full c bytes parts s (notes_behind name bytes parts (length c.versions) c.notes e (comes-from (at_first name parts (length c.versions)) bytes c.notes come))

-- what holds the same rules, versions and notes is the same
pub same-contents : (c d : Contents) → c.rules ≡ d.rules → c.versions ≡ d.versions → c.notes ≡ d.notes → c ≡ d
same-contents c d p q r = λ i. record { rules = p i; versions = q i; notes = r i }

pub full-one : (c d : Contents) (bytes : List ℕ) → FullAs c bytes → FullAs d bytes → c ≡ d
full-one c d bytes f g =
    let parts = parts_behind g.core d.notes in
    let there = full-parts d bytes g in
    let one = sound-one c.rules c.versions d.rules d.versions (take parts.core bytes) (full-core c bytes parts f there) (full-core d bytes parts g there) in
    let ours = full-come c bytes [] parts f there in
    let theirs = full-come d bytes [] parts g there in
    same-contents c d one.0 one.1 (some_is c.notes d.notes (sym ours ∙ ap (λ (ws : List PlainKeyed). notes_from (at_first [] parts (length ws)) bytes) one.1 ∙ theirs))

pub not-full : (rules : List PlainRule) (vs : List PlainKeyed) (bytes name : List ℕ) (parts : Parts) → parts_in bytes ≡ Some parts → SoundAs rules vs (take parts.core bytes) → notes_from (at_first name parts (length vs)) bytes ≡ None → Full bytes → ⊥
not-full rules vs bytes name parts e s none f =
    let one = sound-one rules vs f.contents.rules f.contents.versions (take parts.core bytes) s (full-core f.contents bytes parts f.is e) in
    let come = full-come f.contents bytes name parts f.is e in
    none_some (notes_from (at_first name parts (length vs)) bytes) f.contents.notes none (ap (λ (ws : List PlainKeyed). notes_from (at_first name parts (length ws)) bytes) one.1 ∙ come)
