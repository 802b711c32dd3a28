-- How the notes of a text are read line by line.
use Rattle.std.proofs.Common.{◌≡◌, ◌≢◌, ℕ, suc, ◌+◌, ◌-◌, ◌≤◌, List, [], ◌∷◌, ◌++◌, length, map, replicate, codes, inl, inr, refl, sym, ap, ap₂, ◌∙◌, subst, arith, append_assoc, append-nil, length-append, String, Global, string_bytes}
use Rattle.std.proofs.lemmas.List.{map-append}
use Rattle.std.proofs.lemmas.Bool.Decides.{eqb_tells}
use Rattle.std.proofs.lemmas.List.{length-replicate}
use Rattle.jsonml_lines.specs.Lines.{PlainLine}
use Rattle.archive_text.specs.Export.{text_cell, number_cell, note_line, note_lines}
use Rattle.archive_text.specs.Reading.{AreLines, padded}
use Rattle.archive_text.proofs.Found.{Tells, read}
use Rattle.archive_text.proofs.OneNode.{head}
use Rattle.archive_text.proofs.OneText.{empty, without, with_note}

abbrev pub blanks : ℕ → List (List ℕ)
blanks n = replicate n []

-- what is left of the notes
pub record NotesLeft (notes : List (List ℕ)) (l : PlainLine) (rest : List PlainLine) (done : List (List ℕ)) (now : List ℕ) : Type 0 where
  pub left : List (List ℕ)
  pub split : notes ≡ done ++ left
  pub lies : AreLines (note_lines (length done + 1) left ++ l ∷ rest) now

pub notes_start : (notes : List (List ℕ)) (l : PlainLine) (rest : List PlainLine) (now : List ℕ) → AreLines (note_lines 1 notes ++ l ∷ rest) now → NotesLeft notes l rest [] now
notes_start notes l rest now h = record { left = notes; split = refl; lies = h }

-- ---- none is left

none_at : (j : ℕ) (left : List (List ℕ)) (l : PlainLine) (rest : List PlainLine) (line : PlainLine) (more : List PlainLine) → note_lines j left ++ l ∷ rest ≡ line ∷ more → line.word ≢ codes "note"
    → (left ≡ blanks (length left)) × (note_lines j left ≡ [])
none_at j [] l rest line more is other = (refl, refl)
none_at j (n ∷ ns) l rest line more is other =
    elim (eqb_tells (length n) 0) [
      | inl p ↦ (
          let same = without j n ns p.0 in
          let later = none_at (j + 1) ns l rest line more (ap (λ ls. ls ++ l ∷ rest) (sym same) ∙ is) other in
          (ap₂ (λ a b. a ∷ b) (empty n p.1) later.0, same ∙ later.1))
      | inr p ↦ (
          let first = head (note_line j n) line (note_lines (j + 1) ns ++ l ∷ rest) more (ap (λ ls. ls ++ l ∷ rest) (sym (with_note j n ns p.0)) ∙ is) in
          absurd (other (ap (λ (x : PlainLine). x.word) (sym first.0))))
    ]

pub notes_done : (notes : List (List ℕ)) (l : PlainLine) (rest : List PlainLine) (done : List (List ℕ)) (now : List ℕ) (line : PlainLine) (after : List ℕ) → NotesLeft notes l rest done now → Tells now line after → line.word ≢ codes "note" → (n : ℕ) → length notes ≡ n
    → (padded done n ≡ notes) × AreLines (l ∷ rest) now
notes_done notes l rest done now line after h tells other n count =
    let r = read (note_lines (length done + 1) h.left) l rest now line after h.lies tells in
    let none = none_at (length done + 1) h.left l rest line r.others r.is other in
    let many : n - length done ≡ length h.left = omega (arith, count, ap length h.split, length-append done h.left) in
    (ap (λ k. done ++ blanks k) many ∙ ap (λ ns. done ++ ns) (sym none.0) ∙ sym h.split, subst (λ (ls : List PlainLine). AreLines (ls ++ l ∷ rest) now) none.1 h.lies)

-- ---- the next

-- the line is that of a note, in front of which empty ones stand
pub record NoteAt (j : ℕ) (left : List (List ℕ)) (l : PlainLine) (rest : List PlainLine) (line : PlainLine) (more : List PlainLine) : Type 0 where
  pub skip : ℕ
  pub note : List ℕ
  pub later : List (List ℕ)
  pub split : left ≡ blanks skip ++ note ∷ later
  pub is : line ≡ note_line (j + skip) note
  pub behind : more ≡ note_lines (j + skip + 1) later ++ l ∷ rest

passed : (j : ℕ) (n : List ℕ) (ns : List (List ℕ)) (l : PlainLine) (rest : List PlainLine) (line : PlainLine) (more : List PlainLine) → n ≡ [] → NoteAt (j + 1) ns l rest line more → NoteAt j (n ∷ ns) l rest line more
passed j n ns l rest line more e h =
    let up : j + 1 + h.skip ≡ j + (h.skip + 1) = omega arith in
    let one : suc h.skip ≡ h.skip + 1 = omega arith in
    record {
      skip = h.skip + 1;
      note = h.note;
      later = h.later;
      split = ap₂ (λ a b. a ∷ b) e h.split ∙ ap (λ k. blanks k ++ h.note ∷ h.later) one;
      is = h.is ∙ ap (λ k. note_line k h.note) up;
      behind = h.behind ∙ ap (λ k. note_lines (k + 1) h.later ++ l ∷ rest) up;
    }

note_at : (j : ℕ) (left : List (List ℕ)) (l : PlainLine) (rest : List PlainLine) (line : PlainLine) (more : List PlainLine) → l.word ≢ codes "note" → note_lines j left ++ l ∷ rest ≡ line ∷ more → line.word ≡ codes "note" → NoteAt j left l rest line more
note_at j [] l rest line more other is own = absurd (other (ap (λ (x : PlainLine). x.word) (head l line rest more is).0 ∙ own))
note_at j (n ∷ ns) l rest line more other is own =
    elim (eqb_tells (length n) 0) [
      | inl p ↦ passed j n ns l rest line more (empty n p.1) (note_at (j + 1) ns l rest line more other (ap (λ ls. ls ++ l ∷ rest) (sym (without j n ns p.0)) ∙ is) own)
      | inr p ↦ (
          let first = head (note_line j n) line (note_lines (j + 1) ns ++ l ∷ rest) more (ap (λ ls. ls ++ l ∷ rest) (sym (with_note j n ns p.0)) ∙ is) in
          let zero : j + 0 ≡ j = omega arith in
          record {
            skip = 0;
            note = n;
            later = ns;
            split = refl;
            is = sym first.0 ∙ ap (λ k. note_line k n) (sym zero);
            behind = sym first.1 ∙ ap (λ k. note_lines (k + 1) ns ++ l ∷ rest) (sym zero);
          })
    ]

pub record NoteNext (notes : List (List ℕ)) (l : PlainLine) (rest : List PlainLine) (done : List (List ℕ)) (line : PlainLine) (after : List ℕ) : Type 0 where
  pub i : ℕ
  pub note : List ℕ
  pub cells : line.cells ≡ number_cell i ∷ text_cell note ∷ []
  pub from : 1 ≤ i
  pub to : i ≤ length notes
  pub on : NotesLeft notes l rest (padded done (i - 1) ++ note ∷ []) after

pub notes_next : (notes : List (List ℕ)) (l : PlainLine) (rest : List PlainLine) (done : List (List ℕ)) (now : List ℕ) (line : PlainLine) (after : List ℕ) → NotesLeft notes l rest done now → l.word ≢ codes "note" → Tells now line after
    → line.word ≡ codes "note" → NoteNext notes l rest done line after
notes_next notes l rest done now line after h other tells own =
    let r = read (note_lines (length done + 1) h.left) l rest now line after h.lies tells in
    let none : List ℕ = [] in
    let n = note_at (length done + 1) h.left l rest line r.others other r.is own in
    let i = length done + 1 + n.skip in
    let here : i - 1 - length done ≡ n.skip = omega arith in
    let pad : padded done (i - 1) ≡ done ++ blanks n.skip = ap (λ k. done ++ blanks k) here in
    let long : length (padded done (i - 1) ++ n.note ∷ []) ≡ i = omega (arith, ap length pad, length-append (padded done (i - 1)) (n.note ∷ []), length-append done (blanks n.skip), length-replicate n.skip none) in
    let whole : notes ≡ (padded done (i - 1) ++ n.note ∷ []) ++ n.later =
    h.split ∙ ap (λ ns. done ++ ns) n.split ∙ sym (append_assoc done (blanks n.skip) (n.note ∷ n.later)) ∙ ap (λ ns. ns ++ n.note ∷ n.later) (sym pad) ∙ sym (append_assoc (padded done (i - 1)) (n.note ∷ []) n.later) in
    record {
      i = i;
      note = n.note;
      cells = ap (λ (x : PlainLine). x.cells) n.is;
      from = omega arith;
      to = omega (arith, ap length whole, length-append (padded done (i - 1) ++ n.note ∷ []) n.later);
      on = record {
        left = n.later;
        split = whole;
        lies = subst (λ (k : ℕ). AreLines (note_lines (k + 1) n.later ++ l ∷ rest) after) (sym long) (subst (λ (ls : List PlainLine). AreLines ls after) n.behind r.lines);
      };
    }

pub notes_on : (notes : List (List ℕ)) (l : PlainLine) (rest : List PlainLine) (done : List (List ℕ)) (line : PlainLine) (after : List ℕ) (n : NoteNext notes l rest done line after) (new : List (List ℕ)) → new ≡ padded done (n.i - 1) ++ n.note ∷ [] → NotesLeft notes l rest new after
notes_on notes l rest done line after n new e = subst (λ (ns : List (List ℕ)). NotesLeft notes l rest ns after) (sym e) n.on

-- ---- empty notes one by one

pub pushed : (xs ys : List (String Global)) (s : String Global) (t : List ℕ) → ys ≡ xs ++ s ∷ [] → string_bytes s ≡ t → map string_bytes ys ≡ map string_bytes xs ++ t ∷ []
pushed xs ys s t e f = ap (map string_bytes) e ∙ map-append string_bytes xs (s ∷ []) ∙ ap (λ u. map string_bytes xs ++ u ∷ []) f

pub one_blank : (old now new : List (List ℕ)) (k m : ℕ) → k ≡ suc m → now ++ blanks k ≡ old → new ≡ now ++ [] ∷ [] → new ++ blanks m ≡ old
one_blank old now new k m less e f = ap (λ ns. ns ++ blanks m) f ∙ append_assoc now ([] ∷ []) (blanks m) ∙ ap (λ j. now ++ blanks j) (sym less) ∙ e

pub no_blank : (old now : List (List ℕ)) (k : ℕ) → k ≡ 0 → now ++ blanks k ≡ old → now ≡ old
no_blank old now k none e = sym (append-nil now) ∙ ap (λ j. now ++ blanks j) (sym none) ∙ e

pub note_put : (old mid new : List (List ℕ)) (k j : ℕ) (text note : List ℕ) → mid ≡ padded old k → k ≡ j → new ≡ mid ++ text ∷ [] → text ≡ note → new ≡ padded old j ++ note ∷ []
note_put old mid new k j text note e f g h = g ∙ ap₂ (λ ns t. ns ++ t ∷ []) (e ∙ ap (padded old) f) h
