-- Notes and what they are spelled as.
use Rattle.std.proofs.Common.{◌≡◌, ℕ, suc, ◌+◌, ◌-◌, ◌*◌, ◌^◌, ◌<◌, ◌≤◌, true, false, cond, List, [], ◌∷◌, ◌++◌, length, take, drop, Option, Some, None, refl, sym, ap, subst, ◌∙◌, append_assoc, arith, inl, inr}
use Rattle.std.specs.Int.{w64}
use Rattle.std.specs.List.{AllByRecursion}
use Rattle.std.specs.Str.{bytes_eq}
use Rattle.std.proofs.lemmas.Bool.{cases_Bool, and_parts, eqb-true, leb-true}
use Rattle.std.proofs.lemmas.List.{append-nil, nil_from_length, length-append, length-drop, drop_at, take_at}
use Rattle.std.proofs.lemmas.Slice.Eq.{bytes_eq-Decides}
use Rattle.xa_fields.specs.Spelling.{text_bytes, u64_bytes, IsText}
use Rattle.xa_fields.specs.Reading.{◌>>=◌, number_at, text_at, only_at, many_at}
use Rattle.xa_fields.specs.Laws.{Reads, IsBytes}
use Rattle.xa_fields.proofs.Fields.{IsBytes-drop, some_is, text_reads, u64_reads}
use Rattle.xa_fields.proofs.Combinators.{only_reads, many_again}
use Rattle.version_notes.specs.Notes.{is_note, IsNote, AreNotes, are_empty, texts, mark, ending, notes_part, note_at}
use Rattle.version_notes.specs.Parts.{last, all_but, is_marked, with_notes, parts_in, parts_behind}
use Rattle.version_notes.specs.declared.parts.Parts.{Parts}
use Rattle.version_notes.proofs.Endings.{ending_spelled, last_eight, eight_before, parts_some}
use Rattle.version_notes.proofs.Fronts.{note_stands, note_spelled}
use Rattle.version_notes.specs.declared.limits.TheConstants.{LONGEST_NOTE}

pub note_only : (bytes note rest : List ℕ) → note_at bytes ≡ Some (note, rest) → IsNote note × (bytes ≡ text_bytes note ++ rest)
note_only bytes note rest e = ((note_stands bytes (note, rest) e).note, note_spelled bytes (note, rest) e)

pub note_again : (note rest : List ℕ) → IsNote note → note_at (text_bytes note ++ rest) ≡ Some (note, rest)
note_again note rest h =
    let found = (only_reads is_note text_at text_bytes IsText text_reads).again note rest h in
    let spelled : bytes_eq (text_bytes note ++ rest) (text_bytes note ++ rest) ≡ true = (bytes_eq-Decides (text_bytes note ++ rest) (text_bytes note ++ rest)).1 refl in
    rw (found, spelled) refl

note_reads : Reads note_at text_bytes IsNote
note_reads = record {
  takes = λ bytes x fits e. (
      let parts = note_spelled bytes x e in
      let behind : x.1 ≡ drop (length (text_bytes x.0)) bytes = sym (ap (drop (length (text_bytes x.0))) parts ∙ drop_at (text_bytes x.0) x.1 (length (text_bytes x.0)) refl) in
      record { takes = record { parts = parts; rest_fits = subst IsBytes (sym behind) (IsBytes-drop (length (text_bytes x.0)) bytes fits) }; fits = (note_stands bytes x e).note });
  again = note_again;
}

-- what is read in bytes is spelled so
spelled_all : (bytes : List ℕ) (o : Option (List ℕ × List ℕ)) → ((x : List ℕ × List ℕ) → o ≡ Some x → text_bytes x.0 ++ x.1 ≡ bytes) → (o >>= λ found. cond (bytes_eq (text_bytes found.0 ++ found.1) bytes) (Some found) None) ≡ o
spelled_all bytes None h = refl
spelled_all bytes (Some x) h =
    let spelled : bytes_eq (text_bytes x.0 ++ x.1) bytes ≡ true = (bytes_eq-Decides (text_bytes x.0 ++ x.1) bytes).1 (h x refl) in
    rw spelled refl

pub note_plain : (bytes : List ℕ) → IsBytes bytes → note_at bytes ≡ only_at is_note text_at bytes
note_plain bytes fits =
    let reads = only_reads is_note text_at text_bytes IsText text_reads in
    spelled_all bytes (only_at is_note text_at bytes) (λ x e. sym (reads.takes bytes x fits e).takes.parts)

-- ---- the same bytes

-- as many empty notes are the same
empty_same : (ours others : List (List ℕ)) → are_empty ours ≡ true → are_empty others ≡ true → length ours ≡ length others → ours ≡ others
empty_same [] [] p q e = refl
empty_same [] (y ∷ ys) p q e = absurd (omega arith)
empty_same (x ∷ xs) [] p q e = absurd (omega arith)
empty_same (x ∷ xs) (y ∷ ys) p q e =
    let ours = and_parts _ _ p in
    let others = and_parts _ _ q in
    let first : x ≡ y = nil_from_length x (eqb-true (length x) 0 ours.0) ∙ sym (nil_from_length y (eqb-true (length y) 0 others.0)) in
    let rest = empty_same xs ys ours.1 others.1 (omega (arith, e)) in
    (λ i. first i ∷ rest i)

texts_same : (ours others : List (List ℕ)) (a b : List ℕ) → AllByRecursion IsNote ours → AllByRecursion IsNote others → length ours ≡ length others → texts ours ++ a ≡ texts others ++ b → ours ≡ others
texts_same ours others a b p q e same =
    let first = many_again note_at text_bytes IsNote note_reads ours a p in
    let second = many_again note_at text_bytes IsNote note_reads others b q in
    ap (λ (x : List (List ℕ) × List ℕ). x.0) (some_is (ours, a) (others, b) (sym first ∙ (λ i. many_at note_at (e i) (same i)) ∙ second))

part_empty : (notes : List (List ℕ)) → are_empty notes ≡ true → notes_part notes ≡ []
part_empty notes e = rw e refl

pub part_used : (notes : List (List ℕ)) → are_empty notes ≡ false → notes_part notes ≡ texts notes ++ ending (length (texts notes))
part_used notes e = rw e refl

-- no bytes are not what ends in eight others
never_none : (front behind : List ℕ) (n : ℕ) → length behind ≡ suc n → [] ≡ front ++ behind → ⊥
never_none front behind n some e = omega (arith, ap length e, length-append front behind, some)

pub notes_same : (ours others : List (List ℕ)) → AllByRecursion IsNote ours → AllByRecursion IsNote others → length ours ≡ length others → notes_part ours ≡ notes_part others → ours ≡ others
notes_same ours others p q e same =
    elim (cases_Bool (are_empty ours)) [
      | inl none ↦ elim (cases_Bool (are_empty others)) [
        | inl empty ↦ empty_same ours others none empty e
        | inr used ↦ absurd (never_none (texts others) (ending (length (texts others))) 15 refl (sym (part_empty ours none) ∙ same ∙ part_used others used))
      ]
      | inr some ↦ elim (cases_Bool (are_empty others)) [
        | inl empty ↦ absurd (never_none (texts ours) (ending (length (texts ours))) 15 refl (sym (part_empty others empty) ∙ sym same ∙ part_used ours some))
        | inr used ↦ texts_same ours others (ending (length (texts ours))) (ending (length (texts others))) p q e (sym (part_used ours some) ∙ same ∙ part_used others used)
      ]
    ]

-- ---- parts that are found again

texts_short : (notes : List (List ℕ)) → AllByRecursion IsNote notes → length (texts notes) ≤ 1028 * length notes
texts_short [] h = omega arith
texts_short (x ∷ xs) h =
    let first : length x ≤ LONGEST_NOTE = leb-true _ _ ((and_parts _ _ (h.0).1).0) in
    let rest = texts_short xs h.1 in
    let all : length (texts (x ∷ xs)) ≡ length (text_bytes x) + length (texts xs) = length-append (text_bytes x) (texts xs) in
    omega (arith, first, rest, all)

-- what ends in a number and the mark
ended : (front : List ℕ) (n : ℕ) → last 16 (front ++ ending n) ≡ ending n
ended front n =
    let len : length (front ++ ending n) - 16 ≡ length front = omega (arith, length-append front (ending n)) in
    ap (λ (k : ℕ). drop k (front ++ ending n)) len ∙ drop_at front (ending n) (length front) refl

found_used : (core : List ℕ) (notes : List (List ℕ)) → AreNotes notes → parts_in (core ++ (texts notes ++ ending (length (texts notes)))) ≡ Some (record { core = length core; notes = Some (length (texts notes)) })
found_used core notes h =
    let n = length (texts notes) in
    let short : n < 2 ^ 64 = omega (arith, texts_short notes h.each, h.few) in
    let regroup : (core ++ texts notes) ++ ending n ≡ core ++ (texts notes ++ ending n) = append_assoc core (texts notes) (ending n) in
    let all = core ++ (texts notes ++ ending n) in
    let is : ending n ≡ last 16 all = sym (ap (last 16) (sym regroup) ∙ ended (core ++ texts notes) n) in
    let total : length all ≡ length core + (n + 16) = length-append core (texts notes ++ ending n) ∙ ap (λ (k : ℕ). length core + k) (length-append (texts notes) (ending n)) in
    let number : number_at w64 (u64_bytes n) ≡ Some (n, []) = u64_reads.again n [] short in
    parts_some all (ending n) is n [] refl number refl (omega (arith, total)) ∙ ap (λ (k : ℕ). Some (record { core = k; notes = Some n })) (omega (arith, total))

-- a number before the mark, for which there is room
pub parts_number : (bytes rest : List ℕ) (n : ℕ) → IsBytes bytes → is_marked bytes ≡ true → number_at w64 (last 8 (all_but 8 bytes)) ≡ Some (n, rest) → n + 16 ≤ length bytes → parts_in bytes ≡ Some (with_notes (length bytes) n)
parts_number bytes rest n fits marked number le =
    let end = last 16 bytes in
    let few : length end ≤ 16 = omega (arith, length-drop (length bytes - 16) bytes) in
    let mark_is : bytes_eq mark (drop (length end - 8) end) ≡ true = ap (bytes_eq mark) (last_eight bytes end refl) ∙ marked in
    let number_is : number_at w64 (take (length end - 8) end) ≡ Some (n, rest) = ap (number_at w64) (sym (eight_before bytes end refl)) ∙ number in
    parts_some bytes end refl n rest mark_is number_is (ending_spelled end rest n (IsBytes-drop (length bytes - 16) bytes fits) few mark_is number_is) (omega (arith, le))

abbrev found : List ℕ → List (List ℕ) → Type 0
found core notes = parts_in (core ++ notes_part notes) ≡ Some (record { core = length core; notes = cond (are_empty notes) None (Some (length (texts notes))) })

pub parts_found : (core : List ℕ) (notes : List (List ℕ)) → is_marked core ≡ false → AreNotes notes → found core notes
parts_found core notes unmarked h =
    elim (cases_Bool (are_empty notes)) [
      | inl none ↦ rw none (ap parts_in (append-nil core) ∙ rw unmarked refl)
      | inr some ↦ rw some (found_used core notes h)
    ]

-- bytes in two parts, of which the first have the same length
same_parts : (a b x y : List ℕ) → length a ≡ length b → a ++ x ≡ b ++ y → (a ≡ b) × (x ≡ y)
same_parts a b x y size e = (
  sym (take_at a x (length a) refl) ∙ ap (take (length a)) e ∙ take_at b y (length a) (sym size),
  sym (drop_at a x (length a) refl) ∙ ap (drop (length a)) e ∙ drop_at b y (length a) (sym size),
)

-- the same bytes are the same core and the same notes
pub parts_only : (core other : List ℕ) (ours others : List (List ℕ)) → is_marked core ≡ false → is_marked other ≡ false → AreNotes ours → AreNotes others → core ++ notes_part ours ≡ other ++ notes_part others
    → (core ≡ other) × (notes_part ours ≡ notes_part others)
parts_only core other ours others plain unmarked p q e =
    let same = some_is (parts_behind core ours) (parts_behind other others) (sym (parts_found core ours plain p) ∙ ap parts_in e ∙ parts_found other others unmarked q) in
    same_parts core other (notes_part ours) (notes_part others) (ap (λ (ps : Parts). ps.core) same) e
