-- What contracts see of kids.
use Rattle.std.specs.Prelude.{ℕ, List, map}
use Rattle.version_set.specs.View.{pairs_of}
use Rattle.row_ends.specs.Kids.{PlainKids, stamps_in}
use Rattle.row_ends.specs.declared.parts.Size.{Size}
use Rattle.row_ends.specs.declared.parts.Stored.{Stored}

abbrev pub size_view : Size → ℕ × ℕ
size_view s = (s.length, s.dir)

abbrev pub stored_view : Stored → ℕ × List (ℕ × ℕ)
stored_view s = (s.inheriting, pairs_of s.set)

-- the kids of these sizes and stored sets
abbrev pub kept : List Size → List Stored → ℕ → PlainKids
kept sizes stored n = record { sizes = map size_view sizes; stamps = stamps_in (map stored_view stored) n }
