use Rattle.std.proofs.Common.{◌≡◌, ◌++◌, drop, map}
use Rattle.version_set.specs.View.{pairs_of}
use Rattle.row_ends.specs.KidViews.{stored_view}
use Rattle.row_ends.proofs.Times.{left_of}
use Rattle.row_ends.proofs.kids.Kids.pairs.Given as goal

-- what there is so far, and what is left, are all
abbrev pub invariant-loop-kid : goal.invariant-loop-kid
invariant-loop-kid l =
    l.pairs.items ++ left_of (pairs_of l.set) (map stored_view (drop l.kid-index l.self.stored.items)) l.self.inheriting
    ≡ left_of (pairs_of l.set) (map stored_view l.self.stored.items) l.self.inheriting
