-- The notes that a reader still gives.
use Rattle.std.proofs.Common.{◌≡◌, ℕ, zero, suc, ◌-◌, ◌<◌, Bool, true, false, cond, List, [], ◌∷◌, Option, Some, None, refl, sym, ap, subst, ◌∙◌, arith}
use Rattle.std.specs.Prelude.{replicate, option_map}
use Rattle.xa_fields.specs.Reading.{◌>>=◌}
use Rattle.xa_fields.proofs.Fields.{bind_some, some_is}
use Rattle.version_notes.specs.Notes.{note_at}
use Rattle.version_notes.specs.Reader.{PlainReader, first_place, at_first, next_from, next_of, behind, is_done, left_of, Comes}
use Rattle.version_notes.specs.declared.parts.Parts.{Parts}
use Rattle.version_notes.specs.declared.place.Place.{Place}
use Rattle.version_notes.specs.Reading.{notes_left, notes_from}

-- ---- one note, and those behind it

then_note : (n : ℕ) (r : PlainReader) (file note : List ℕ) → next_of r file ≡ Some (Some note) → notes_left (suc n) r file ≡ option_map (λ others. note ∷ others) (notes_left n (behind r note) file)
then_note n r file note e = ap (λ (o : Option (Option (List ℕ))). o >>= λ next. next >>= λ x. option_map (λ others. x ∷ others) (notes_left n (behind r x) file)) e

then_last : (r : PlainReader) (file : List ℕ) → next_of r file ≡ Some None → notes_left zero r file ≡ Some []
then_last r file e = ap (option_map (λ (x : Option (List ℕ)). [])) e

done_is : (b : Bool) (o : Option (List ℕ)) → ◌≡◌ {A = Option (Option (List ℕ))} (cond b (Some None) None) (Some o) → o ≡ None
done_is true None e = refl
done_is true (Some x) e = absurd cc
done_is false o e = absurd cc

-- behind the last note none comes
last_none : (due : ℕ) (place : Option Place) (file : List ℕ) (o : Option (List ℕ)) → due ≡ 0 → next_from due place file ≡ Some o → o ≡ None
last_none zero None file o z e = sym (some_is None o e)
last_none zero (Some p) file o z e = done_is (is_done p) o e
last_none (suc n) place file o z e = absurd (omega (arith, z))

found_never : (o : Option (List ℕ × List ℕ)) → ◌≡◌ {A = Option (Option (List ℕ))} (option_map (λ (found : List ℕ × List ℕ). Some found.0) o) (Some None) → ⊥
found_never None e = absurd cc
found_never (Some x) e = absurd cc

none_last : (due : ℕ) (place : Option Place) (file : List ℕ) → next_from due place file ≡ Some None → due ≡ 0
none_last zero place file e = refl
none_last (suc n) None file e = absurd cc
none_last (suc n) (Some p) file e = absurd (found_never (note_at (left_of p file)) e)

-- a note comes where one is due
note_due : (due : ℕ) (place : Option Place) (file note : List ℕ) → next_from due place file ≡ Some (Some note) → due ≡ suc (due - 1)
note_due zero place file note e = (let none = last_none zero place file (Some note) refl e in absurd cc)
note_due (suc n) place file note e = omega arith

pub one_note : (r : PlainReader) (file note : List ℕ) → next_of r file ≡ Some (Some note) → notes_from r file ≡ option_map (λ others. note ∷ others) (notes_from (behind r note) file)
one_note r file note e = ap (λ (n : ℕ). notes_left n r file) (note_due r.due r.place file note e) ∙ then_note (r.due - 1) r file note e

pub no_more : (r : PlainReader) (file : List ℕ) → next_of r file ≡ Some None → notes_from r file ≡ Some []
no_more r file e = ap (λ (n : ℕ). notes_left n r file) (none_last r.due r.place file e) ∙ then_last r file e

none_left : (n : ℕ) (r : PlainReader) (file : List ℕ) → next_of r file ≡ None → notes_left n r file ≡ None
none_left zero r file e = ap (option_map (λ (x : Option (List ℕ)). [])) e
none_left (suc n) r file e = ap (λ (o : Option (Option (List ℕ))). o >>= λ next. next >>= λ x. option_map (λ others. x ∷ others) (notes_left n (behind r x) file)) e

pub no_note : (r : PlainReader) (file : List ℕ) → next_of r file ≡ None → notes_from r file ≡ None
no_note r file e = none_left r.due r file e

-- ---- they come one after another

pub from-comes : (notes : List (List ℕ)) (r : PlainReader) (file : List ℕ) → Comes r file notes → notes_from r file ≡ Some notes
from-comes [] r file e = no_more r file e
from-comes (x ∷ xs) r file e = one_note r file x e.0 ∙ ap (option_map (λ (others : List (List ℕ)). x ∷ others)) (from-comes xs (behind r x) file e.1)

-- the value that was mapped to one
mapped : {A B : Type 0} (f : A → B) (o : Option A) (y : B) → option_map f o ≡ Some y → (x : A) × (o ≡ Some x) × (f x ≡ y)
mapped f None y e = absurd cc
mapped f (Some x) y e = (x, refl, some_is (f x) y e)

comes-left : (n : ℕ) (r : PlainReader) (file : List ℕ) (notes : List (List ℕ)) → r.due ≡ n → notes_left n r file ≡ Some notes → Comes r file notes
comes-left zero r file notes same e =
    let a = mapped (λ (x : Option (List ℕ)). []) (next_of r file) notes e in
    let none = last_none r.due r.place file a.0 same a.1 in
    subst (Comes r file) a.2 (a.1 ∙ ap (λ (o : Option (List ℕ)). Some o) none)
comes-left (suc n) r file notes same e =
    let then : Option (List ℕ) → Option (List (List ℕ)) = λ next. next >>= λ note. option_map (λ others. note ∷ others) (notes_left n (behind r note) file) in
    let a = bind_some (next_of r file) then notes e in
    let b = bind_some a.0 (λ note. option_map (λ others. note ∷ others) (notes_left n (behind r note) file)) notes a.2 in
    let c = mapped (λ (others : List (List ℕ)). b.0 ∷ others) (notes_left n (behind r b.0) file) notes b.2 in
    subst (Comes r file) c.2 (a.1 ∙ ap (λ (o : Option (List ℕ)). Some o) b.1, comes-left n (behind r b.0) file c.0 (omega (arith, same)) c.1)

pub comes-from : (r : PlainReader) (file : List ℕ) (notes : List (List ℕ)) → notes_from r file ≡ Some notes → Comes r file notes
comes-from r file notes e = comes-left r.due r file notes refl e

-- ---- a file without notes

empty_last : (due : ℕ) (file : List ℕ) → due ≡ 0 → next_from due None file ≡ Some None
empty_last zero file e = refl
empty_last (suc n) file e = absurd (omega (arith, e))

empty_next : (due : ℕ) (file : List ℕ) → 0 < due → next_from due None file ≡ Some (Some [])
empty_next zero file lt = absurd (omega (arith, lt))
empty_next (suc n) file lt = refl

empties_come : (n due : ℕ) (name file : List ℕ) → due ≡ n → notes_left n (record { name = name; due = due; place = None }) file ≡ Some (replicate n [])
empties_come zero due name file e = then_last (record { name = name; due = due; place = None }) file (empty_last due file e)
empties_come (suc n) due name file e =
    then_note n (record { name = name; due = due; place = None }) file [] (empty_next due file (omega (arith, e))) ∙ ap (option_map (λ (others : List (List ℕ)). [] ∷ others)) (empties_come n (due - 1) name file (omega (arith, e)))

pub unnoted-come : (n : ℕ) (bytes name : List ℕ) (parts : Parts) → parts.notes ≡ None → notes_from (at_first name parts n) bytes ≡ Some (replicate n [])
unnoted-come n bytes name parts e = ap (λ (place : Option Place). notes_left n (record { name = name; due = n; place = place }) bytes) (ap (option_map (λ k. first_place parts.core k)) e) ∙ empties_come n n name bytes refl
