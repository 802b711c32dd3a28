-- The printed form of a version set.
use Rattle.std.specs.Prelude.{ℕ, ◌==◌, List, [], ◌∷◌, ◌++◌, codes, decimal, if◌then◌else◌}
use Rattle.std.specs.List.{join_by}

-- an interval, as `3` or as `1-2`
abbrev pub pair_text : ℕ × ℕ → List ℕ
pair_text p = if p.0 == p.1 then decimal p.0 else decimal p.0 ++ codes "-" ++ decimal p.1

-- the intervals with `,` between each two, or `none`
abbrev pub set_text : List (ℕ × ℕ) → List ℕ
set_text [] = codes "none"
set_text (p ∷ ps) = join_by pair_text (codes ",") (p ∷ ps)
