-- The note at the front of some bytes.
use Rattle.std.proofs.Common.{◌≡◌, ℕ, ◌+◌, ◌-◌, ◌<◌, ◌≤◌, ◌||◌, not, true, false, cond, ltb, List, ◌++◌, length, take, drop, Some, None, Result, Ok, Err, refl, sym, ap, subst, ◌∙◌, append_assoc, arith, inl, inr, ◌⊎◌}
use Rattle.std.specs.Prelude.{String, string_bytes, IfOk}
use Rattle.std.specs.Global.{Global}
use Rattle.std.specs.Int.{w32, from_be_bytes}
use Rattle.std.specs.Str.{is_utf8, bytes_eq}
use Rattle.std.proofs.lemmas.Bool.{le-ltb, ltb-false, leb-true, and_parts, or_parts, not-false}
use Rattle.std.proofs.lemmas.Str.{is_utf8-from_IsUtf8, IsUtf8-from_is_utf8}
use Rattle.std.proofs.lemmas.Slice.Eq.{bytes_eq-Decides}
use Rattle.std.proofs.lemmas.List.{drop-drop, length-drop, length-take, take-append-drop, take-take}
use Rattle.xa_fields.specs.Reading.{number_at, text_at, only_at}
use Rattle.xa_fields.specs.Spelling.{text_bytes, u32_bytes}
use Rattle.xa_fields.specs.FieldLaws.{bind_some, guard_some, none_unless, number-there, number_sizes, passed_some, some_is}
use Rattle.xa_outside.specs.Numbers.{Numbers, PullsAtMost, after_pull}
use Rattle.xa_outside.specs.NumberLaws.{PullsAtMost-of, PullsAtMost-more, PullsAtMost-trans}
use Rattle.version_notes.specs.Notes.{is_note, IsNote, note_at}
use Rattle.version_notes.specs.Faults.{IfDamage}
use Rattle.version_notes.specs.Reader.{TellsNote, TellsFront, left_of}
use Rattle.version_notes.specs.declared.place.Place.{Place}
use Rattle.version_notes.specs.declared.fault.NotesFault.{NotesFault}
use Rattle.version_notes.specs.declared.fault.NotesFault.TheVariants.{Damage, Folder, Memory}
use Rattle.version_notes.specs.declared.limits.TheConstants.{LONGEST_NOTE}

-- the number in the first four bytes
pub size_is : (piece front rest : List ℕ) (n : ℕ) → 4 ≤ length piece → front ≡ take 4 piece → Some (n, rest) ≡ number_at w32 front → number_at w32 piece ≡ Some (n, drop 4 piece)
size_is piece front rest n le e h =
    let size : length (take 4 piece) ≡ 4 = omega (arith, length-take 4 piece) in
    let short = number-there w32 (take 4 piece) (omega arith) in
    let same : n ≡ from_be_bytes w32 (take 4 (take 4 piece)) = ap (λ (y : ℕ × List ℕ). y.0) (some_is (n, rest) (from_be_bytes w32 (take 4 (take 4 piece)), drop 4 (take 4 piece)) (h ∙ ap (number_at w32) e ∙ short)) in
    number-there w32 piece le ∙ ap (λ (k : ℕ). Some (k, drop 4 piece)) (sym (same ∙ ap (from_be_bytes w32) (take-take 4 4 piece (omega arith))))

-- ---- notes

-- how a note stands at the front of some bytes
pub record Standing (piece : List ℕ) (x : List ℕ × List ℕ) : Type 0 where
  pub size : number_at w32 piece ≡ Some (length x.0, drop 4 piece)
  pub long : 4 + length x.0 ≤ length piece
  pub text : x.0 ≡ take (length x.0) (drop 4 piece)
  pub short : length x.0 ≤ LONGEST_NOTE
  pub note : IsNote x.0

note_of_text : (text : List ℕ) → is_utf8 text ≡ true → is_note text ≡ true → (length text ≤ LONGEST_NOTE) × IsNote text
note_of_text text utf8 is =
    let short : length text ≤ LONGEST_NOTE = leb-true _ _ ((and_parts _ _ is).0) in
    (short, (record { short = omega (arith, short); utf8 = IsUtf8-from_is_utf8 text utf8 }, is))

found_stands : (piece : List ℕ) (x : List ℕ × List ℕ) → only_at is_note text_at piece ≡ Some x → Standing piece x
unfolding only_at text_at
found_stands piece x e =
    let a = bind_some (text_at piece) (λ a. cond (is_note a.0) (Some a) None) x e in
    let p = passed_some (is_note a.0.0) a.0 x a.2 in
    let n = bind_some (number_at w32 piece) (λ n. cond (ltb (length n.1) n.0 || not (is_utf8 (take n.0 n.1))) None (Some (take n.0 n.1, drop n.0 n.1))) a.0 a.1 in
    let g = guard_some (ltb (length n.0.1) n.0.0 || not (is_utf8 (take n.0.0 n.0.1))) (Some (take n.0.0 n.0.1, drop n.0.0 n.0.1)) a.0 n.2 in
    let tests = or_parts _ _ g.0 in
    let four = number_sizes w32 piece n.0 n.1 in
    let enough = four.0 in
    let long : n.0.0 ≤ length n.0.1 = ltb-false _ _ tests.0 in
    let is : (take n.0.0 n.0.1, drop n.0.0 n.0.1) ≡ x = some_is (take n.0.0 n.0.1, drop n.0.0 n.0.1) a.0 g.1 ∙ p.1 in
    let text : take n.0.0 n.0.1 ≡ x.0 = ap (λ (y : List ℕ × List ℕ). y.0) is in
    let len : length x.0 ≡ n.0.0 = sym (ap length text) ∙ omega (arith, long, length-take n.0.0 n.0.1) in
    let left = ap length four.1 ∙ length-drop 4 piece in
    let made = note_of_text x.0 (ap is_utf8 (sym text) ∙ not-false _ tests.1) (ap (λ (y : List ℕ × List ℕ). is_note y.0) (sym p.1) ∙ p.0) in
    record {
      size = n.1 ∙ (λ i. Some (sym len i, four.1 i));
      long = omega (arith, long, len, left, enough);
      text = sym text ∙ (λ i. take (sym len i) (four.1 i));
      short = made.0;
      note = made.1;
    }

-- the note was found, and its spelling stands there
note_found : (piece : List ℕ) (x : List ℕ × List ℕ) → note_at piece ≡ Some x → (only_at is_note text_at piece ≡ Some x) × (text_bytes x.0 ++ x.1 ≡ piece)
note_found piece x e =
    let a = bind_some (only_at is_note text_at piece) (λ found. cond (bytes_eq (text_bytes found.0 ++ found.1) piece) (Some found) None) x e in
    let p = passed_some (bytes_eq (text_bytes a.0.0 ++ a.0.1) piece) a.0 x a.2 in
    let spelled = (bytes_eq-Decides (text_bytes a.0.0 ++ a.0.1) piece).0 p.0 in
    subst (λ (y : List ℕ × List ℕ). (only_at is_note text_at piece ≡ Some y) × (text_bytes y.0 ++ y.1 ≡ piece)) p.1 (a.1, spelled)

pub note_stands : (piece : List ℕ) (x : List ℕ × List ℕ) → note_at piece ≡ Some x → Standing piece x
note_stands piece x e = found_stands piece x (note_found piece x e).0

pub note_spelled : (piece : List ℕ) (x : List ℕ × List ℕ) → note_at piece ≡ Some x → piece ≡ text_bytes x.0 ++ x.1
note_spelled piece x e = sym (note_found piece x e).1

same_size : (piece : List ℕ) (n : ℕ) (x : List ℕ × List ℕ) → number_at w32 piece ≡ Some (n, drop 4 piece) → Standing piece x → n ≡ length x.0
same_size piece n x e s = ap (λ (y : ℕ × List ℕ). y.0) (some_is (n, drop 4 piece) (length x.0, drop 4 piece) (sym e ∙ s.size))

-- no length
pub too_few : (piece : List ℕ) → length piece < 4 → note_at piece ≡ None
too_few piece lt = none_unless (note_at piece) (λ x e. (let long = (note_stands piece x e).long in omega arith))

-- a length that cannot be
pub too_long : (piece : List ℕ) (n : ℕ) → number_at w32 piece ≡ Some (n, drop 4 piece) → LONGEST_NOTE < n → note_at piece ≡ None
too_long piece n e lt = none_unless (note_at piece) (λ x h. (let s = note_stands piece x h in let short = s.short in let same = same_size piece n x e s in omega arith))

pub too_short : (piece : List ℕ) (n : ℕ) → number_at w32 piece ≡ Some (n, drop 4 piece) → length piece < 4 + n → note_at piece ≡ None
too_short piece n e lt = none_unless (note_at piece) (λ x h. (let s = note_stands piece x h in let long = s.long in let same = same_size piece n x e s in omega arith))

-- bytes that are no note
pub no_note : (piece : List ℕ) (n : ℕ) → number_at w32 piece ≡ Some (n, drop 4 piece) → ¬ IsNote (take n (drop 4 piece)) → note_at piece ≡ None
no_note piece n e not = none_unless (note_at piece) (λ x h. (
    let s = note_stands piece x h in
    let same = same_size piece n x e s in
    not (subst IsNote (s.text ∙ ap (λ (k : ℕ). take k (drop 4 piece)) (sym same)) s.note)))

-- bytes that are one
found_is : (piece : List ℕ) (n : ℕ) → number_at w32 piece ≡ Some (n, drop 4 piece) → 4 + n ≤ length piece → IsNote (take n (drop 4 piece)) → only_at is_note text_at piece ≡ Some (take n (drop 4 piece), drop (4 + n) piece)
unfolding only_at text_at
found_is piece n e fits is =
    let long : ltb (length (drop 4 piece)) n ≡ false = le-ltb _ _ (omega (arith, length-drop 4 piece)) in
    let utf8 = is_utf8-from_IsUtf8 _ (is.0).utf8 in
    let noted : is_note (take n (drop 4 piece)) ≡ true = is.1 in
    rw (e, long, utf8, noted) (ap (λ (rest : List ℕ). Some (take n (drop 4 piece), rest)) (drop-drop n 4 piece))

spelled_so : (piece : List ℕ) (n : ℕ) → take 4 piece ≡ u32_bytes n → 4 + n ≤ length piece → text_bytes (take n (drop 4 piece)) ++ drop (4 + n) piece ≡ piece
spelled_so piece n four fits =
    let rest = drop 4 piece in
    let size : length (take n rest) ≡ n = omega (arith, fits, length-drop 4 piece, length-take n rest) in
    let front : u32_bytes (length (take n rest)) ≡ take 4 piece = ap u32_bytes size ∙ sym four in
    append_assoc (u32_bytes (length (take n rest))) (take n rest) (drop (4 + n) piece) ∙ (λ i. front i ++ (take n rest ++ sym (drop-drop n 4 piece) i)) ∙ ap (λ (l : List ℕ). take 4 piece ++ l) (take-append-drop n rest) ∙ take-append-drop 4 piece

pub note_is : (piece : List ℕ) (n : ℕ) → number_at w32 piece ≡ Some (n, drop 4 piece) → take 4 piece ≡ u32_bytes n → 4 + n ≤ length piece → IsNote (take n (drop 4 piece)) → note_at piece ≡ Some (take n (drop 4 piece), drop (4 + n) piece)
note_is piece n e four fits is =
    let found = found_is piece n e fits is in
    let spelled : bytes_eq (text_bytes (take n (drop 4 piece)) ++ drop (4 + n) piece) piece ≡ true = (bytes_eq-Decides (text_bytes (take n (drop 4 piece)) ++ drop (4 + n) piece) piece).1 (spelled_so piece n four fits) in
    rw (found, spelled) refl

-- ---- what is left of the notes of a file

pub left_within : (p : Place) (file : List ℕ) → length (left_of p file) ≤ p.end - p.at
left_within p file = omega (arith, length-drop p.at (take p.end file), length-take p.end file)

pub damage_map : (e : NotesFault) (P Q : Type 0) → (P → Q) → IfDamage e P → IfDamage e Q
damage_map Damage P Q f h = f h
damage_map Folder P Q f h = tt
damage_map Memory P Q f h = tt

-- too few bytes for a length
pub no_size : (piece : List ℕ) (e : NotesFault) → IfDamage e (length piece < 4) → IfDamage e (note_at piece ≡ None)
no_size piece e = damage_map e _ _ (too_few piece)

-- too few bytes for a text, or no text
pub no_text : (piece : List ℕ) (n : ℕ) (e : NotesFault) → number_at w32 piece ≡ Some (n, drop 4 piece) → IfDamage e ((length (drop 4 piece) < n) ⊎ ¬ IsNote (take n (drop 4 piece))) → IfDamage e (note_at piece ≡ None)
no_text piece n e is = damage_map e _ _ (λ (h : (length (drop 4 piece) < n) ⊎ ¬ IsNote (take n (drop 4 piece))). elim h [
  | inl short ↦ too_short piece n is (omega (arith, short, length-drop 4 piece, (number_sizes w32 piece (n, drop 4 piece) is).0))
  | inr none ↦ no_note piece n is none
])

-- so long is the note that stands there
pub size_stands : (piece : List ℕ) (n : ℕ) (x : List ℕ × List ℕ) → number_at w32 piece ≡ Some (n, drop 4 piece) → note_at piece ≡ Some x → n ≡ length x.0
size_stands piece n x e h = same_size piece n x e (note_stands piece x h)

-- the length was read, and then the text
pub note_told : (n at : ℕ) (bytes : List ℕ) (result : Result (String Global) NotesFault) → number_at w32 (drop at bytes) ≡ Some (n, drop 4 (drop at bytes)) → take 4 (drop at bytes) ≡ u32_bytes n → IfOk result (λ note. length (string_bytes note) ≡ n) → IfOk result (λ note. IsNote (string_bytes note)) → TellsFront n (drop (at + 4) bytes) result → TellsNote (drop at bytes) result
note_told n at bytes (Ok note) e four size is text =
    let piece = drop at bytes in
    let behind : drop (at + 4) bytes ≡ drop 4 piece = ap (λ (k : ℕ). drop k bytes) (omega arith) ∙ sym (drop-drop 4 at bytes) in
    let same : string_bytes note ≡ take n (drop 4 piece) = text.0 ∙ ap (take n) behind in
    let fits : 4 + n ≤ length piece = omega (arith, text.1, ap length behind, length-drop 4 piece, (number_sizes w32 piece (n, drop 4 piece) e).0) in
    note_is piece n e four fits (subst IsNote same is) ∙ (λ i. Some (sym same i, drop (4 + sym size i) piece))
note_told n at bytes (Err f) e four size is text =
    let piece = drop at bytes in
    let behind : drop (at + 4) bytes ≡ drop 4 piece = ap (λ (k : ℕ). drop k bytes) (omega arith) ∙ sym (drop-drop 4 at bytes) in
    no_text piece n f e (subst (λ (rest : List ℕ). IfDamage f ((length rest < n) ⊎ ¬ IsNote (take n rest))) behind text)

-- four bytes, and then a text of so many
pub pulled_both : (limit n : ℕ) (a b d : Numbers) → 4 + n ≤ limit → b ≡ after_pull a 4 → PullsAtMost n b d → PullsAtMost limit a d
pulled_both limit n a b d fits first second =
    PullsAtMost-more (4 + n) limit a d fits (PullsAtMost-trans 4 n a b d (PullsAtMost-of 4 4 a b (omega arith) first) second)
