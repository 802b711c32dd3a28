-- How the notes of an archive are read.
use Rattle.std.proofs.Common.{◌≡◌, inl, inr, ℕ, ◌≤◌, List, Option, Some, None, option_map, refl, sym, ◌∙◌, subst, arith}
use Rattle.xa_outside.specs.Causes.{Rose}
use Rattle.xa_outside.specs.NumberLaws.{PullsAtMost-more}
use Rattle.xa_outside.specs.Numbers.{Numbers, PullsAtMost}
use Rattle.version_notes.specs.Faults.{IfFolder}
use Rattle.version_notes.specs.Reader.{PlainReader, at_first, first_place}
use Rattle.version_notes.specs.Reading.{all_from, all_read}
use Rattle.version_notes.specs.declared.fault.NotesFault.{NotesFault}
use Rattle.version_notes.specs.declared.fault.NotesFault.TheVariants.{Damage, Folder, Memory}
use Rattle.version_notes.specs.declared.parts.Parts.{Parts}
use Rattle.xarch_words.specs.Refusal.{Refusal, damaged, PlainFault, refused, folder_fault, memory}
use Rattle.xarch_parts.specs.Ends.{IsInside, IsOfFolder}
use Rattle.xarch_parts.specs.Noted.{IsOfNotes, notes_bytes}

most_from : (core : ℕ) (notes : Option ℕ) → all_from (option_map (λ n. first_place core n) notes) ≤ notes_bytes notes
most_from core None = omega arith
most_from core (Some n) = omega arith

-- a reader that begins before the notes pulls no more than they have
pub notes_pulled : (name : List ℕ) (parts : Parts) (n : ℕ) (r : PlainReader) (a b : Numbers) → r ≡ at_first name parts n → PullsAtMost (all_read r) a b → PullsAtMost (notes_bytes parts.notes) a b
notes_pulled name parts n r a b is pulls = PullsAtMost-more _ (notes_bytes parts.notes) a b (most_from parts.core parts.notes) (subst (λ (x : PlainReader). PullsAtMost (all_read x) a b) is pulls)

-- What is told where no note is read: a fault of the folder has its cause, and a refusal names the archive, and comes of damage alone.
pub record ComesOf (name : List ℕ) (e : NotesFault) (v : PlainFault) : Type 0 where
  pub caused : (a b : ℕ) → IfFolder e (Rose a b) → IsOfFolder a b (Some v)
  pub refused_as : (q : Refusal) → v ≡ refused q → (q ≡ damaged name) × (e ≡ Damage)

module _ (name : List ℕ) where
  of_damage : (v : PlainFault) (q : Refusal) → v ≡ refused (damaged name) → v ≡ refused q → q ≡ damaged name
  of_damage v q is e = let both : refused (damaged name) ≡ refused q = sym is ∙ e in let same : damaged name ≡ q = cc in sym same

  of_other : {X : Type 0} (v w : PlainFault) (q : Refusal) → ((r : Refusal) → ¬ (w ≡ refused r)) → v ≡ w → v ≡ refused q → X
  of_other v w q none is e = absurd (none q (sym is ∙ e))

  pub comes_of : (e : NotesFault) (v : PlainFault) → IsOfNotes name e v → ComesOf name e v
  unfolding IsInside IsOfFolder
  comes_of Damage v (inl is) = record { caused = λ a b h. subst (λ (z : PlainFault). IsOfFolder a b (Some z)) (sym is) tt; refused_as = λ q e. (of_damage v q is e, refl) }
  comes_of Damage v (inr is) = record { caused = λ a b h. subst (λ (z : PlainFault). IsOfFolder a b (Some z)) (sym is) tt; refused_as = λ q e. of_other v memory q (λ r w. cc) is e }
  comes_of Folder v is = record { caused = λ a b h. subst (λ (z : PlainFault). IsOfFolder a b (Some z)) (sym is) h; refused_as = λ q e. of_other v folder_fault q (λ r w. cc) is e }
  comes_of Memory v is = record { caused = λ a b h. subst (λ (z : PlainFault). IsOfFolder a b (Some z)) (sym is) tt; refused_as = λ q e. of_other v memory q (λ r w. cc) is e }
