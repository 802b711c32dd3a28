-- Which bytes lent parts may hold.
use Rattle.std.specs.Prelude.{ℕ, List, IsSome}
use Rattle.xa_fields.specs.Reading.{whole}
use Rattle.record_parts.specs.Reading.{label_at, stamp_at, value_at}

abbrev pub IsLabelBytes : List ℕ → Type 0
IsLabelBytes bytes = IsSome (whole label_at bytes)

abbrev pub IsStampBytes : List ℕ → Type 0
IsStampBytes bytes = IsSome (whole stamp_at bytes)

abbrev pub IsValueBytes : List ℕ → Type 0
IsValueBytes bytes = IsSome (whole value_at bytes)
