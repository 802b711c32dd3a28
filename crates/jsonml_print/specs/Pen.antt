-- Where a printer stands.
use Rattle.std.specs.Prelude.{ℕ, ◌+◌, ◌-◌, ◌^◌, ◌<◌, ◌==◌, ◌&&◌, Bool, true, false, if◌then◌else◌}
use Rattle.jsonml_print.specs.declared.last.Last.{Last}
use Rattle.jsonml_print.specs.declared.last.Last.TheVariants.{Nothing, Opened, Begun, Attribute, Item}

-- how many elements are begun and not ended, and which call was the last
pub record Pen : Type 0 where
  pub depth : ℕ
  pub last : Last

-- nothing has been printed
abbrev pub fresh : Pen
fresh = record { depth = 0; last = Nothing }

-- an array has been opened for what an element holds
abbrev pub opened : Pen
opened = record { depth = 1; last = Opened }

-- The count of elements stands still at its last value.
abbrev pub last_count : ℕ
last_count = 2 ^ 64 - 1

abbrev pub one_more : ℕ → ℕ
one_more n = if n == last_count then n else n + 1

abbrev pub one_less : ℕ → ℕ
one_less n = if n == last_count then n else n - 1

-- an attribute may come directly after the beginning of an element or of an array, or another attribute
abbrev pub takes_attribute : Last → Bool
takes_attribute Nothing = false
takes_attribute Opened = true
takes_attribute Begun = true
takes_attribute Attribute = true
takes_attribute Item = false

abbrev pub is_item : Last → Bool
is_item Nothing = false
is_item Opened = false
is_item Begun = false
is_item Attribute = false
is_item Item = true

-- the outermost element has ended
abbrev pub has_ended : Pen → Bool
has_ended p = p.depth == 0 && is_item p.last

-- an element is begun
abbrev pub IsOpen : Pen → Type 0
IsOpen p = 0 < p.depth
