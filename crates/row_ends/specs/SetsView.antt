-- What contracts see of the sets of kids.
use Rattle.std.specs.Prelude.{ℕ, List, map}
use Rattle.version_set.specs.View.{pairs_of}
use Rattle.row_ends.specs.Kids.{stamps_in, sets_in}
use Rattle.row_ends.specs.KidViews.{stored_view}
use Rattle.row_ends.specs.declared.sets.Sets.{Sets}

-- the effective sets of the kids that are left, from the first to the last
abbrev pub sets_view : Sets → List (List (ℕ × ℕ))
sets_view s = sets_in (pairs_of s.row.now) (stamps_in (map stored_view s.stored.now) s.inheriting)
