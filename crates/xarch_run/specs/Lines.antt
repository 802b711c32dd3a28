-- The lines of a batch.
use Rattle.std.specs.Prelude.{ℕ, ◌==◌, ◌||◌, List, [], ◌∷◌, Bool, not, filter, if◌then◌else◌}
use Rattle.std.specs.List.{list_all, list_any}
use Rattle.archive_text.specs.Texts.{in_front}

-- space, tab or CR
abbrev pub is_blank_byte : ℕ → Bool
is_blank_byte b = b == 32 || (b == 9 || b == 13)

-- only such bytes, or none at all
abbrev pub is_blank : List ℕ → Bool
is_blank line = list_all is_blank_byte line

abbrev pub is_line_feed : ℕ → Bool
is_line_feed b = b == 10

abbrev pub has_line_feed : List ℕ → Bool
has_line_feed bytes = list_any is_line_feed bytes

-- The bytes cut at each LF. What stands behind the last LF is a line where it is not empty.
abbrev pub cut : List ℕ → List (List ℕ)
cut [] = []
cut (b ∷ bs) = if is_line_feed b then [] ∷ cut bs else in_front b (cut bs)

-- the byte in front of the first line, if there is one
abbrev pub in_front_ended : ℕ → List (List ℕ) → List (List ℕ)
in_front_ended b [] = []
in_front_ended b (l ∷ ls) = (b ∷ l) ∷ ls

-- the same without what stands behind the last LF
abbrev pub cut_ended : List ℕ → List (List ℕ)
cut_ended [] = []
cut_ended (b ∷ bs) = if is_line_feed b then [] ∷ cut_ended bs else in_front_ended b (cut_ended bs)

abbrev pub without_blanks : List (List ℕ) → List (List ℕ)
without_blanks ls = filter (λ l. not (is_blank l)) ls

-- the lines of a batch: those that are not blank
abbrev pub lines_of : List ℕ → List (List ℕ)
lines_of bytes = without_blanks (cut bytes)

-- those of them that an LF ends
abbrev pub ended_lines_of : List ℕ → List (List ℕ)
ended_lines_of bytes = without_blanks (cut_ended bytes)
