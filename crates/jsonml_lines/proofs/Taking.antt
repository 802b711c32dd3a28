-- The line in front of a line feed, and the line at the front of some bytes.
use Rattle.std.proofs.Common.{◌≡◌, ℕ, ◌+◌, ◌==◌, Bool, true, false, cond, IsUtf8, List, [], ◌∷◌, ◌++◌, length, map, take, drop, Option, Some, None, option_map, option_and_then, refl, sym, ap, ap₂, ◌∙◌, subst, append_assoc}
use Rattle.std.specs.List.{AllByRecursion, position}
use Rattle.std.specs.Option.{IsSomeAnd}
use Rattle.std.specs.Str.{is_utf8}
use Rattle.std.proofs.lemmas.Str.{IsUtf8-from_is_utf8, is_utf8-from_IsUtf8, IsUtf8-string_bytes}
use Rattle.std.proofs.Math.Seq.{take-append_seam}
use Rattle.serde_json.specs.Data.{Data}
use Rattle.serde_json.specs.Read.{read}
use Rattle.keyed_tree.specs.View.{key_view}
use Rattle.keyed_tree.specs.declared.label.KeyVal.{KeyVal}
use Rattle.keyed_tree.specs.declared.label.KeyVal.TheVariants.{Scalar, Content}
use Rattle.jsonml_text.proofs.OwnTexts.{scalar_text, content_texts}
use Rattle.jsonml_lines.specs.Lines.{PlainLine, front_text, line_text}
use Rattle.jsonml_lines.specs.Read.{cut, line_in, line_of, line_at}
use Rattle.jsonml_lines.specs.RoundTrip.{AreCellTexts, AreLineTexts, IsLine}
use Rattle.jsonml_lines.specs.View.{line_view}
use Rattle.jsonml_lines.specs.declared.line.Line.{Line}
use Rattle.jsonml_lines.proofs.Feeds.{feed_at, drop_front}
use Rattle.jsonml_lines.proofs.LineTrips.{line_reads_back}

-- ---- in front of a line feed

pub line_of-read : (front : List ℕ) (d : Data) → IsUtf8 front → read front ≡ Some d → line_in d ≡ line_of front
unfolding line_of
line_of-read front d text is = sym (ap (λ b. cond b (option_and_then line_in (read front)) None) (is_utf8-from_IsUtf8 front text) ∙ ap (option_and_then line_in) is)

none_at : (front : List ℕ) (b : Bool) → is_utf8 front ≡ b → (IsUtf8 front → read front ≡ None) → None ≡ cond b (option_and_then line_in (read front)) None
none_at front true e h = sym (ap (option_and_then line_in) (h (IsUtf8-from_is_utf8 front e)))
none_at front false e h = refl

pub line_of-none : (front : List ℕ) → (IsUtf8 front → read front ≡ None) → None ≡ line_of front
unfolding line_of
line_of-none front h = none_at front (is_utf8 front) refl h

line_of-some : (front : List ℕ) (l : PlainLine) → IsUtf8 front → option_and_then line_in (read front) ≡ Some l → line_of front ≡ Some l
unfolding line_of
line_of-some front l text is = ap (λ b. cond b (option_and_then line_in (read front)) None) (is_utf8-from_IsUtf8 front text) ∙ is

-- ---- the texts of every line in memory are UTF-8

cell_texts : (k : KeyVal) → AreCellTexts (key_view k)
cell_texts (Scalar s) = scalar_text s
cell_texts (Content c) = content_texts c

all_cell_texts : (ks : List KeyVal) → AllByRecursion AreCellTexts (map key_view ks)
all_cell_texts [] = tt
all_cell_texts (k ∷ ks) = (cell_texts k, all_cell_texts ks)

line_texts : (l : Line) → AreLineTexts (line_view l)
line_texts l = record { word = IsUtf8-string_bytes l.word; cells = all_cell_texts l.cells.items }

-- a line that prints as these bytes
pub line_of-printed : (front : List ℕ) (l : Line) → front ≡ front_text (line_view l) → IsLine (line_view l) → Some (line_view l) ≡ line_of front
line_of-printed front l is line =
    let trip = line_reads_back (line_view l) line in
    sym (line_of-some front (line_view l) (subst IsUtf8 (sym is) (trip.utf8 (line_texts l))) (ap (λ t. option_and_then line_in (read t)) is ∙ trip.value))

-- ---- at the front of some bytes

-- the line in front of the byte at a place, and what stands behind that
abbrev line_before : List ℕ → ℕ → Option (PlainLine × List ℕ)
line_before left i = option_map (λ l. (l, drop (i + 1) left)) (line_of (take i left))

abbrev with_rest : List ℕ → PlainLine → PlainLine × List ℕ
with_rest rest l = (l, rest)

pub line_at-cut : (left front rest : List ℕ) (o : Option ℕ) → Some (front, rest) ≡ option_map (cut left) o
    → option_and_then (line_before left) o ≡ option_map (with_rest rest) (line_of front)
line_at-cut left front rest None e = absurd (cc)
line_at-cut left front rest (Some i) e =
    let same : (front, rest) ≡ cut left i = cc in
    ap (λ (r : List ℕ × List ℕ). option_map (with_rest r.1) (line_of r.0)) (sym same)

pub line_at-none : (left : List ℕ) (o : Option ℕ) → None ≡ option_map (cut left) o → None ≡ option_and_then (line_before left) o
line_at-none left None e = refl
line_at-none left (Some i) e = absurd (cc)

-- ---- a line that is printed in front of others

line_at-printed : (bytes rest : List ℕ) (l : PlainLine) → IsLine l → AreLineTexts l → bytes ≡ line_text l ++ rest → line_at bytes ≡ Some (l, rest)
line_at-printed bytes rest l line texts is =
    let trip = line_reads_back l line in
    let front = front_text l in
    let whole = front ++ 10 ∷ rest in
    let at : (front, rest) ≡ cut whole (length front) = ap₂ (λ s t. (s, t)) (sym (take-append_seam front (10 ∷ rest))) (sym (drop_front front rest)) in
    let there : Some (front, rest) ≡ option_map (cut whole) (position (λ b. b == 10) whole) = ap Some at ∙ sym (ap (option_map (cut whole)) (feed_at front rest trip.unbroken)) in
    ap line_at (is ∙ append_assoc front (10 ∷ []) rest)
    ∙ line_at-cut whole front rest (position (λ b. b == 10) whole) there
    ∙ ap (option_map (with_rest rest)) (line_of-some front l (trip.utf8 texts) trip.value)

-- a line in memory and an offset, as they are seen
abbrev seen_in : List ℕ → Line × ℕ → PlainLine × List ℕ
seen_in bytes r = (line_view r.0, drop r.1 bytes)

found_in : (o : Option (Line × ℕ)) (bytes rest : List ℕ) (l : PlainLine) → option_map (seen_in bytes) o ≡ Some (l, rest) → IsSomeAnd o (λ r. (line_view r.0 ≡ l) × (drop r.1 bytes ≡ rest))
found_in None bytes rest l e = absurd (cc)
found_in (Some r) bytes rest l e =
    let same : (line_view r.0, drop r.1 bytes) ≡ (l, rest) = cc in
    (ap (λ (p : PlainLine × List ℕ). p.0) same, ap (λ (p : PlainLine × List ℕ). p.1) same)

pub printed_found : (o : Option (Line × ℕ)) (bytes : List ℕ) (at : ℕ) → option_map (seen_in bytes) o ≡ line_at (drop at bytes)
    → (l : PlainLine) (rest : List ℕ) → IsLine l → AreLineTexts l → drop at bytes ≡ line_text l ++ rest → IsSomeAnd o (λ r. (line_view r.0 ≡ l) × (drop r.1 bytes ≡ rest))
printed_found o bytes at e l rest line texts is = found_in o bytes rest l (e ∙ line_at-printed (drop at bytes) rest l line texts is)
