-- The numbers of a stretch.
use Rattle.std.specs.Prelude.{ℕ}
use Rattle.key_spec.specs.declared.stretch.Stretch.{Stretch}

abbrev pub start_of : Stretch → ℕ
start_of s = s.start

abbrev pub end_of : Stretch → ℕ
end_of s = s.end
