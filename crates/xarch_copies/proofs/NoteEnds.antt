-- With what the notes of some versions end.
use Rattle.std.proofs.Common.{◌≡◌, inl, inr, ℕ, List, Option, Some, None, sym, refl, subst}
use Rattle.xa_outside.specs.Folder.{Files}
use Rattle.xa_outside.specs.Numbers.{Numbers, IsMeter}
use Rattle.version_notes.specs.Faults.{IfDamage}
use Rattle.version_notes.specs.Reader.{at_first, file_of}
use Rattle.version_notes.specs.Reading.{notes_from}
use Rattle.version_notes.specs.declared.fault.NotesFault.{NotesFault}
use Rattle.version_notes.specs.declared.fault.NotesFault.TheVariants.{Damage, Folder, Memory}
use Rattle.version_notes.specs.declared.parts.Parts.{Parts}
use Rattle.xarch_words.specs.Refusal.{damaged, PlainFault, refused, folder_fault, memory}
use Rattle.xarch_parts.specs.Noted.{IsOfNotes, notes_bytes}
use Rattle.xarch_copies.specs.Cutting.{NotesEnd, Unnoted}
use Rattle.xarch_copies.specs.Extending.{Extends}
use Rattle.xarch_copies.specs.Slicing.{Stops}
use Rattle.xarch_copies.proofs.Making.{fails-memory}
use Rattle.xarch_parts.proofs.NoteLaws.{all-read, notes-cause}

module _ (files : Option Files) (name : List ℕ) (parts : Parts) (versions : ℕ) where
  end-by : (v w : PlainFault) → v ≡ w → NotesEnd files name parts versions w → NotesEnd files name parts versions v
  end-by v w is h = subst (λ (z : PlainFault). NotesEnd files name parts versions z) (sym is) h

  notes-end : (e : NotesFault) (v : PlainFault) → IsOfNotes name e v → ((told : Files) → files ≡ Some told → IfDamage e (notes_from (at_first name parts versions) (file_of told name) ≡ None)) → NotesEnd files name parts versions v
  notes-end Damage v (inl is) none = end-by v (refused (damaged name)) is (refl, none)
  notes-end Damage v (inr is) none = end-by v memory is tt
  notes-end Folder v is none = end-by v folder_fault is tt
  notes-end Memory v is none = end-by v memory is tt

module _ {S : Type 0} {files : S → Option Files} {draft : S → Option (List ℕ)} {numbers : S → Numbers} {faults : S → ℕ} where
  -- it was stopped
  pub unnoted : (old now : S) (name : List ℕ) (parts : Parts) (versions : ℕ) (e : NotesFault) (v : PlainFault) → IsOfNotes name e v → Stops files draft numbers faults old now (at_first name parts versions) e → Unnoted files draft numbers faults name parts versions old now v
  unnoted old now name parts versions e v is p = record {
    extends = subst (λ (n : ℕ). Extends files draft numbers faults n old now) (all-read name parts versions) p.extends;
    cause = notes-cause name e v (faults old) (faults now) is p.cause;
    ends = notes-end (files old) name parts versions e v is p.told;
  }

  pub unnoted-memory : (s : S) (name : List ℕ) (parts : Parts) (versions : ℕ) → IsMeter (numbers s) → Unnoted files draft numbers faults name parts versions s s memory
  unnoted-memory s name parts versions meter = fails-memory (notes_bytes parts.notes) (NotesEnd (files s) name parts versions) s meter tt
