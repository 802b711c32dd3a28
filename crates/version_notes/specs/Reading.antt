-- What a reader of notes gives from where it stands to the end.
use Rattle.std.specs.Prelude.{ℕ, zero, suc, ◌-◌, List, [], ◌∷◌, Option, Some, None, option_map}
use Rattle.xa_fields.specs.Reading.{◌>>=◌}
use Rattle.version_notes.specs.Reader.{PlainReader, next_of, behind}
use Rattle.version_notes.specs.declared.place.Place.{Place}

-- so many notes, one behind another, and then none any more
abbrev pub notes_left : ℕ → PlainReader → List ℕ → Option (List (List ℕ))
notes_left zero r file = option_map (λ _. []) (next_of r file)
notes_left (suc n) r file = next_of r file >>= λ next. next >>= λ note. option_map (λ others. note ∷ others) (notes_left n (behind r note) file)

-- All notes that a reader still gives over a file of these bytes; nothing where it meets damage.
abbrev pub notes_from : PlainReader → List ℕ → Option (List (List ℕ))
notes_from r file = notes_left r.due r file

-- ---- what is read

abbrev pub all_from : Option Place → ℕ
all_from None = 0
all_from (Some p) = p.end - p.at

-- how many bytes are read at most, to the end of the notes
abbrev pub all_read : PlainReader → ℕ
all_read r = all_from r.place
