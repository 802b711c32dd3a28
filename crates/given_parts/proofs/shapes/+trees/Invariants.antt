use Rattle.std.proofs.Common.{IsTrue, map}
use Rattle.keyed_tree.specs.Data.{kids_from}
use Rattle.keyed_tree.specs.View.{keyed_view}
use Rattle.keyed_tree.specs.WellFormed.{are_kids_well_formed}
use Rattle.given_parts.proofs.shapes.+trees.Given as goal

abbrev pub invariant-trees-loop-shape : goal.invariant-trees-loop-shape
invariant-trees-loop-shape l = IsTrue (are_kids_well_formed (kids_from (map keyed_view l.kids.items)))
