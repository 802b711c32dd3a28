use Rattle.std.proofs.Common.{◌≡◌, map, drop}
use Rattle.keyed_tree.specs.Data.{kids_from}
use Rattle.keyed_tree.specs.Kids.{are_ordered}
use Rattle.keyed_tree.specs.View.{keyed_view}
use Rattle.keyed_tree.proofs.keyed.+ordered.Given as goal

-- what is left decides
abbrev pub invariant-are_ordered-loop-kid : goal.invariant-are_ordered-loop-kid
invariant-are_ordered-loop-kid l = are_ordered (kids_from (map keyed_view l.kids)) ≡ are_ordered (kids_from (map keyed_view (drop l.kid-index l.kids)))
