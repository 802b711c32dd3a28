-- Notes that come one after another.
use Rattle.std.proofs.Common.{◌≡◌, ℕ, zero, suc, ◌+◌, ◌-◌, ◌≤◌, ◌==◌, ◌&&◌, ◌||◌, not, Bool, true, false, cond, leb, List, [], ◌∷◌, ◌++◌, length, take, drop, Option, Some, None, refl, sym, ap, subst, ◌∙◌, append_assoc, arith, inl, inr}
use Rattle.std.specs.Prelude.{option_map, IfSome}
use Rattle.std.specs.Int.{w64}
use Rattle.std.specs.Str.{bytes_eq}
use Rattle.std.specs.List.{AllByRecursion}
use Rattle.std.proofs.lemmas.Bool.{cases_Bool, and_parts, and_from, eqb-true, eq-eqb, leb-true, not-true}
use Rattle.std.proofs.lemmas.List.{append-nil, nil_from_length, length-append, length-drop, length-take, drop-drop, drop-take, drop_at, take_at, take-take, take-append-drop, take_all}
use Rattle.std.proofs.lemmas.Slice.Eq.{bytes_eq-Decides}
use Rattle.std.proofs.lemmas.Str.{IsUtf8-nil}
use Rattle.xa_fields.specs.Spelling.{text_bytes}
use Rattle.xa_fields.specs.Reading.{◌>>=◌, number_at}
use Rattle.xa_fields.specs.FieldLaws.{bind_some, number_sizes, passed_some, some_is}
use Rattle.version_notes.specs.Notes.{IsNote, AreNotes, are_empty, texts, ending, notes_part, note_at}
use Rattle.version_notes.specs.Parts.{last, all_but, is_marked, notes_size, no_notes, with_notes, parts_in, parts_behind}
use Rattle.version_notes.specs.Reader.{PlainReader, at_first, left_of, is_done, next_from, next_of, place_behind, Comes, AreBehind}
use Rattle.version_notes.specs.declared.parts.Parts.{Parts}
use Rattle.version_notes.specs.declared.place.Place.{Place}
use Rattle.version_notes.proofs.Spelled.{note_again, note_only, part_used}
use Rattle.version_notes.proofs.Written.{used_more}

-- ---- what is left behind a note

left_behind : (p : Place) (file note rest : List ℕ) → left_of p file ≡ text_bytes note ++ rest → left_of (place_behind p note) file ≡ rest
left_behind p file note rest is =
    sym (drop-drop (4 + length note) p.at (take p.end file)) ∙ ap (drop (4 + length note)) is ∙ drop_at (text_bytes note) rest (4 + length note) (omega arith)

-- ---- what stands there comes

abbrev reader_at : List ℕ → ℕ → Option Place → PlainReader
reader_at name due place = record { name = name; due = due; place = place }

is_used : (u : Bool) → (u || not true) ≡ true → u ≡ true
is_used true h = refl
is_used false h = absurd cc

come_from : (name file : List ℕ) (notes : List (List ℕ)) (due : ℕ) (p : Place) → due ≡ length notes → AllByRecursion IsNote notes → left_of p file ≡ texts notes → p.at + length (texts notes) ≡ p.end → (p.used || not (are_empty notes)) ≡ true → Comes (reader_at name due (Some p)) file notes
come_from name file [] due p count each left end used =
    let done : is_done p ≡ true = and_from _ _ (eq-eqb p.at p.end (omega (arith, end))) (is_used p.used used) in
    ap (λ (d : ℕ). next_from d (Some p) file) count ∙ rw done refl
come_from name file (x ∷ xs) due p count each left end used =
    let found : note_at (left_of p file) ≡ Some (x, texts xs) = ap note_at left ∙ note_again x (texts xs) each.0 in (
      ap (λ (d : ℕ). next_from d (Some p) file) count ∙ rw found refl,
      come_from name file xs (due - 1) (place_behind p x) (omega (arith, count)) each.1 (left_behind p file x (texts xs) left) (omega (arith, end, length-append (text_bytes x) (texts xs))) (used_more p.used (length x == 0) (are_empty xs) ∙ used),
    )

come_empty : (name file : List ℕ) (notes : List (List ℕ)) (due : ℕ) → due ≡ length notes → are_empty notes ≡ true → Comes (reader_at name due None) file notes
come_empty name file [] due count none = ap (λ (d : ℕ). next_from d None file) count
come_empty name file (x ∷ xs) due count none =
    let both = and_parts _ _ none in
    (ap (λ (d : ℕ). next_from d None file) count ∙ ap (λ (y : List ℕ). Some (Some y)) (sym (nil_from_length x (eqb-true (length x) 0 both.0))), come_empty name file xs (due - 1) (omega (arith, count)) both.1)

come_used : (name core : List ℕ) (notes : List (List ℕ)) → AreNotes notes → are_empty notes ≡ false → Comes (at_first name (record { core = length core; notes = Some (length (texts notes)) }) (length notes)) (core ++ (texts notes ++ ending (length (texts notes)))) notes
come_used name core notes h some =
    let n = length (texts notes) in
    let file = core ++ (texts notes ++ ending n) in
    let left = drop-take (length core) n file ∙ ap (take n) (drop_at core (texts notes ++ ending n) (length core) refl) ∙ take_at (texts notes) (ending n) n refl in
    come_from name file notes (length notes) (record { at = length core; end = length core + n; used = false }) refl h.each left refl (rw some refl)

abbrev Coming : List ℕ → List ℕ → List (List ℕ) → Type 0
Coming name core notes = Comes (at_first name (parts_behind core notes) (length notes)) (core ++ notes_part notes) notes

pub notes_come : (name core : List ℕ) (notes : List (List ℕ)) → AreNotes notes → Coming name core notes
notes_come name core notes h =
    elim (cases_Bool (are_empty notes)) [
      | inl none ↦ subst (λ (b : Bool). Comes (at_first name (record { core = length core; notes = cond b None (Some (length (texts notes))) }) (length notes)) (core ++ notes_part notes) notes) (sym none) (come_empty name (core ++ notes_part notes) notes (length notes) refl none)
      | inr some ↦ subst (λ (b : Bool). Comes (at_first name (record { core = length core; notes = cond b None (Some (length (texts notes))) }) (length notes)) (core ++ cond b [] (texts notes ++ ending (length (texts notes)))) notes) (sym some) (come_used name core notes h some)
    ]

-- ---- what comes stands there

record StandFrom (p : Place) (due : ℕ) (file : List ℕ) (notes : List (List ℕ)) : Type 0 where
  count : length notes ≡ due
  each : AllByRecursion IsNote notes
  left : left_of p file ≡ texts notes
  used : (p.used || not (are_empty notes)) ≡ true

ended_by : (b : Bool) (o : Option (List ℕ)) → ◌≡◌ {A = Option (Option (List ℕ))} (cond b (Some None) None) (Some o) → (b ≡ true) × (o ≡ None)
ended_by true None e = (refl, refl)
ended_by true (Some x) e = absurd cc
ended_by false o e = absurd cc

noted_by : (r : Option (List ℕ × List ℕ)) (o : Option (List ℕ)) → option_map (λ (found : List ℕ × List ℕ). Some found.0) r ≡ Some o → (x : List ℕ × List ℕ) × (r ≡ Some x) × (o ≡ Some x.0)
noted_by None o e = absurd cc
noted_by (Some x) o e = (x, refl, sym (some_is (Some x.0) o e))

never_some : (x : List ℕ) → ◌≡◌ {A = Option (List ℕ)} None (Some x) → ⊥
never_some x e = cc

-- the note that comes next is spelled where the reader stands
next_stands : (due : ℕ) (p : Place) (file note : List ℕ) → next_from due (Some p) file ≡ Some (Some note) → IsNote note × (left_of p file ≡ text_bytes note ++ left_of (place_behind p note) file)
next_stands zero p file note e = absurd (never_some note (sym (ended_by (is_done p) (Some note) e).1))
next_stands (suc due) p file note e =
    let n = noted_by (note_at (left_of p file)) (Some note) e in
    let found : note_at (left_of p file) ≡ Some (note, n.0.1) = n.1 ∙ ap (λ (y : List ℕ). Some (y, n.0.1)) (sym (some_is note n.0.0 n.2)) in
    let first = note_only (left_of p file) note n.0.1 found in
    (first.0, first.1 ∙ ap (λ (l : List ℕ). text_bytes note ++ l) (sym (left_behind p file note n.0.1 first.1)))

pub note_next : (r : PlainReader) (p : Place) (file note : List ℕ) → r.place ≡ Some p → next_of r file ≡ Some (Some note) → IsNote note × (left_of p file ≡ text_bytes note ++ left_of (place_behind p note) file)
note_next r p file note is e = next_stands r.due p file note (ap (λ (place : Option Place). next_from r.due place file) (sym is) ∙ e)

used_so : (u : Bool) → u ≡ true → (u || not true) ≡ true
used_so true e = refl
used_so false e = absurd cc

stand_from : (name file : List ℕ) (notes : List (List ℕ)) (due : ℕ) (p : Place) → Comes (reader_at name due (Some p)) file notes → StandFrom p due file notes
stand_from name file [] zero p e =
    let done = and_parts _ _ (ended_by (is_done p) None e).0 in
    let same : p.at ≡ p.end = eqb-true p.at p.end done.0 in
    record {
      count = refl;
      each = tt;
      left = nil_from_length (left_of p file) (omega (arith, same, length-drop p.at (take p.end file), length-take p.end file));
      used = used_so p.used done.1;
    }
stand_from name file [] (suc due) p e = (let n = noted_by (note_at (left_of p file)) None e in absurd (never_some n.0.0 n.2))
stand_from name file (x ∷ xs) zero p e = absurd (never_some x (sym (ended_by (is_done p) (Some x) e.0).1))
stand_from name file (x ∷ xs) (suc due) p e =
    let first = next_stands (suc due) p file x e.0 in
    let rest = stand_from name file xs (suc due - 1) (place_behind p x) e.1 in
    record {
      count = omega (arith, rest.count);
      each = (first.0, rest.each);
      left = first.1 ∙ ap (λ (l : List ℕ). text_bytes x ++ l) rest.left;
      used = sym (used_more p.used (length x == 0) (are_empty xs)) ∙ rest.used;
    }

record AreEmpty (due : ℕ) (notes : List (List ℕ)) : Type 0 where
  count : length notes ≡ due
  each : AllByRecursion IsNote notes
  none : are_empty notes ≡ true

empty_note : IsNote []
empty_note = (record { short = omega arith; utf8 = IsUtf8-nil }, refl)

stand_empty : (name file : List ℕ) (notes : List (List ℕ)) (due : ℕ) → Comes (reader_at name due None) file notes → AreEmpty due notes
stand_empty name file [] zero e = record { count = refl; each = tt; none = refl }
stand_empty name file [] (suc due) e = absurd (never_some [] (sym (some_is (Some []) None e)))
stand_empty name file (x ∷ xs) zero e = absurd (never_some x (some_is None (Some x) e.0))
stand_empty name file (x ∷ xs) (suc due) e =
    let same : [] ≡ x = some_is [] x (some_is (Some []) (Some x) e.0) in
    let rest = stand_empty name file xs (suc due - 1) e.1 in
    record {
      count = omega (arith, rest.count);
      each = (subst IsNote same empty_note, rest.each);
      none = and_from _ _ (ap (λ (y : List ℕ). length y == 0) (sym same)) rest.none;
    }

-- ---- the parts

-- a mark, and the number before it
record Marked (bytes : List ℕ) (n : ℕ) : Type 0 where
  long : n + 16 ≤ length bytes
  end : last 16 bytes ≡ ending n

marked_by : (bytes : List ℕ) (n : ℕ) → notes_size bytes ≡ Some n → Marked bytes n
marked_by bytes n e =
    let x = bind_some (number_at w64 (last 8 (all_but 8 bytes))) (λ (m : ℕ × List ℕ). cond (leb m.0 (length bytes - 16) && bytes_eq (ending m.0) (last 16 bytes)) (Some m.0) None) n e in
    let p = passed_some (leb x.0.0 (length bytes - 16) && bytes_eq (ending x.0.0) (last 16 bytes)) x.0.0 n x.2 in
    let tests = and_parts (leb x.0.0 (length bytes - 16)) (bytes_eq (ending x.0.0) (last 16 bytes)) p.0 in
    let le = leb-true x.0.0 (length bytes - 16) tests.0 in
    let before = last 8 (all_but 8 bytes) in
    let sizes = number_sizes w64 before x.0 x.1 in
    let size = length-drop (length (all_but 8 bytes) - 8) (all_but 8 bytes) in
    let shorter = length-take (length bytes - 8) bytes in
    record {
      long = omega (arith, le, p.1, sizes.0, size, shorter);
      end = sym ((bytes_eq-Decides (ending x.0.0) (last 16 bytes)).0 tests.1) ∙ ap ending p.1;
    }

never_size : (n : ℕ) → ◌≡◌ {A = Option ℕ} None (Some n) → ⊥
never_size n e = cc

-- the number of the notes' bytes stands before the mark, and these stand before it
pub parts_end : (bytes : List ℕ) (parts : Parts) (n : ℕ) → parts_in bytes ≡ Some parts → parts.notes ≡ Some n → (last 16 bytes ≡ ending n) × (parts.core + n + 16 ≡ length bytes)
parts_end bytes parts n e is =
    elim (cases_Bool (is_marked bytes)) [
      | inl marked ↦
          let found : (notes_size bytes >>= λ (n : ℕ). Some (with_notes (length bytes) n)) ≡ Some parts = sym (rw marked refl) ∙ e in
          let size = bind_some (notes_size bytes) (λ (n : ℕ). Some (with_notes (length bytes) n)) parts found in
          let same = some_is (with_notes (length bytes) size.0) parts size.2 in
          let one : size.0 ≡ n = some_is size.0 n (ap (λ (ps : Parts). ps.notes) same ∙ is) in
          let stands = marked_by bytes size.0 size.1 in
          (stands.end ∙ ap ending one, omega (arith, stands.long, one, ap (λ (ps : Parts). ps.core) same))
      | inr plain ↦
          let found : Some (no_notes (length bytes)) ≡ Some parts = sym (rw plain refl) ∙ e in
          let same = some_is (no_notes (length bytes)) parts found in
          absurd (never_size n (ap (λ (ps : Parts). ps.notes) same ∙ is))
    ]

-- the notes between a core and the mark
behind_marked : (bytes : List ℕ) (n : ℕ) (name : List ℕ) (versions : ℕ) (notes : List (List ℕ)) → Marked bytes n → Comes (at_first name (with_notes (length bytes) n) versions) bytes notes → AreBehind (with_notes (length bytes) n) versions bytes notes
behind_marked bytes n name versions notes m come =
    let core = length bytes - 16 - n in
    let long = m.long in
    let s = stand_from name bytes notes versions (record { at = core; end = core + n; used = false }) come in
    let size : n ≡ length (texts notes) = omega (arith, long, ap length s.left, length-drop core (take (core + n) bytes), length-take (core + n) bytes) in
    let some : are_empty notes ≡ false = not-true (are_empty notes) s.used in
    let upto : core + n ≡ length bytes - 16 = omega (arith, long) in
    let front : take (length bytes - 16) bytes ≡ take core bytes ++ texts notes =
    ap (λ (k : ℕ). take k bytes) (sym upto) ∙ sym (take-append-drop core (take (core + n) bytes)) ∙ (λ i. take-take core (core + n) bytes (omega arith) i ++ s.left i) in
    record {
      count = s.count;
      each = s.each;
      bytes =
          sym (take-append-drop (length bytes - 16) bytes) ∙ (λ i. front i ++ m.end i) ∙ append_assoc (take core bytes) (texts notes) (ending n)
          ∙ ap (λ (k : ℕ). take core bytes ++ (texts notes ++ ending k)) size ∙ ap (λ (l : List ℕ). take core bytes ++ l) (sym (part_used notes some));
    }

behind_none : (bytes name : List ℕ) (versions : ℕ) (notes : List (List ℕ)) → Comes (at_first name (no_notes (length bytes)) versions) bytes notes → AreBehind (no_notes (length bytes)) versions bytes notes
behind_none bytes name versions notes come =
    let s = stand_empty name bytes notes versions come in
    let none = s.none in
    record { count = s.count; each = s.each; bytes = sym (rw none (append-nil (take (length bytes) bytes) ∙ take_all (length bytes) bytes (omega arith))) }

pub notes_behind : (name bytes : List ℕ) (parts : Parts) (versions : ℕ) (notes : List (List ℕ)) → parts_in bytes ≡ Some parts → Comes (at_first name parts versions) bytes notes → AreBehind parts versions bytes notes
notes_behind name bytes parts versions notes e come =
    elim (cases_Bool (is_marked bytes)) [
      | inl marked ↦
          let found : (notes_size bytes >>= λ (n : ℕ). Some (with_notes (length bytes) n)) ≡ Some parts = sym (rw marked refl) ∙ e in
          let n = bind_some (notes_size bytes) (λ (n : ℕ). Some (with_notes (length bytes) n)) parts found in
          let same = some_is (with_notes (length bytes) n.0) parts n.2 in
          subst (λ (ps : Parts). AreBehind ps versions bytes notes) same (behind_marked bytes n.0 name versions notes (marked_by bytes n.0 n.1) (subst (λ (ps : Parts). Comes (at_first name ps versions) bytes notes) (sym same) come))
      | inr plain ↦
          let found : Some (no_notes (length bytes)) ≡ Some parts = sym (rw plain refl) ∙ e in
          let same = some_is (no_notes (length bytes)) parts found in
          subst (λ (ps : Parts). AreBehind ps versions bytes notes) same (behind_none bytes name versions notes (subst (λ (ps : Parts). Comes (at_first name ps versions) bytes notes) (sym same) come))
    ]

-- ---- no byte behind the notes

next_front : (due : ℕ) (place : Option Place) (total : ℕ) (file : List ℕ) → IfSome place (λ p. p.end ≤ total) → next_from due place (take total file) ≡ next_from due place file
next_front zero None total file le = refl
next_front (suc n) None total file le = refl
next_front zero (Some p) total file le = refl
next_front (suc n) (Some p) total file le = ap (λ (l : List ℕ). option_map (λ (found : List ℕ × List ℕ). Some found.0) (note_at (drop p.at l))) (take-take p.end total file le)

pub reader_front : (r : PlainReader) (total : ℕ) (file : List ℕ) → IfSome r.place (λ p. p.end ≤ total) → next_of r (take total file) ≡ next_of r file
reader_front r total file le = next_front r.due r.place total file le
