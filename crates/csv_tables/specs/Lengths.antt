-- How many bytes texts have as JSON strings, up to the greatest number of 128 bits.
use Rattle.std.specs.Prelude.{ℕ, ◌+◌, ◌-◌, ◌*◌, ◌^◌, min, List, [], ◌∷◌, length}
use Rattle.json.specs.Print.{quoted}

-- a number, or the greatest one of 128 bits where it is more
abbrev pub at_most : ℕ → ℕ
at_most n = min n (2 ^ 128 - 1)

abbrev pub quoted_size : List ℕ → ℕ
quoted_size s = length (quoted s)

-- all of these
abbrev pub sizes : List (List ℕ) → ℕ
sizes [] = 0
sizes (s ∷ ss) = quoted_size s + sizes ss

-- the bytes of a row, with the comma before it, besides its fields
abbrev pub frame : List (List ℕ) → ℕ
frame [] = 8
frame (name ∷ names) = sizes (name ∷ names) + (10 + 2 * length (name ∷ names))

-- rows with so many bytes besides their fields
abbrev pub rows_size : ℕ → List (List (List ℕ)) → ℕ
rows_size n [] = 0
rows_size n (fields ∷ rows) = (n + sizes fields) + rows_size n rows
