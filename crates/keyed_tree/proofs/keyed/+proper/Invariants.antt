use Rattle.std.proofs.Common.{◌≡◌, map, drop}
use Rattle.keyed_tree.specs.Data.{kids_from}
use Rattle.keyed_tree.specs.Proper.{are_proper}
use Rattle.keyed_tree.specs.View.{keyed_view}
use Rattle.keyed_tree.proofs.keyed.+proper.Given as goal

-- what is left decides
abbrev pub invariant-are_proper-loop-kid : goal.invariant-are_proper-loop-kid
invariant-are_proper-loop-kid l = are_proper (kids_from (map keyed_view l.kids)) ≡ are_proper (kids_from (map keyed_view (drop l.kid-index l.kids)))
