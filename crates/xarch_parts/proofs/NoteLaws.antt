-- What notes that were read are, and what a fault of theirs says.
use Rattle.std.proofs.Common.{◌≡◌, inl, inr, ℕ, List, Option, Some, None, option_map, refl, sym, subst, arith}
use Rattle.xa_outside.specs.Causes.{Rose}
use Rattle.version_notes.specs.Faults.{IfFolder}
use Rattle.version_notes.specs.Reader.{at_first, first_place}
use Rattle.version_notes.specs.Reading.{all_from, all_read}
use Rattle.version_notes.specs.declared.fault.NotesFault.{NotesFault}
use Rattle.version_notes.specs.declared.fault.NotesFault.TheVariants.{Damage, Folder, Memory}
use Rattle.version_notes.specs.declared.parts.Parts.{Parts}
use Rattle.xarch_words.specs.Refusal.{PlainFault, memory}
use Rattle.xarch_parts.specs.Ends.{IsInside, IsOfFolder}
use Rattle.xarch_parts.specs.Noted.{IsOfNotes, notes_bytes}

pub inside-memory : IsInside (Some memory)
unfolding IsInside
inside-memory = tt

pub read-from : (core : ℕ) (o : Option ℕ) → all_from (option_map (λ n. first_place core n) o) ≡ notes_bytes o
read-from core None = refl
read-from core (Some n) = omega arith

pub all-read : (name : List ℕ) (parts : Parts) (versions : ℕ) → all_read (at_first name parts versions) ≡ notes_bytes parts.notes
all-read name parts versions = read-from parts.core parts.notes

pub notes-cause : (name : List ℕ) (e : NotesFault) (v : PlainFault) (a b : ℕ) → IsOfNotes name e v → IfFolder e (Rose a b) → IsOfFolder a b (Some v)
unfolding IsInside IsOfFolder
notes-cause name Damage v a b (inl is) h = subst (λ (z : PlainFault). IsOfFolder a b (Some z)) (sym is) tt
notes-cause name Damage v a b (inr is) h = subst (λ (z : PlainFault). IsOfFolder a b (Some z)) (sym is) tt
notes-cause name Folder v a b is h = subst (λ (z : PlainFault). IsOfFolder a b (Some z)) (sym is) h
notes-cause name Memory v a b is h = subst (λ (z : PlainFault). IsOfFolder a b (Some z)) (sym is) tt
