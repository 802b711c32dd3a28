use Rattle.std.proofs.Common.{IsTrue, map}
use Rattle.archive_tree.specs.WellFormed.{are_alts_well_formed}
use Rattle.archive_tree.specs.View.{alt_view}
use Rattle.given_parts.proofs.shapes.alts.Given as goal

abbrev pub invariant-loop-pairs : goal.invariant-loop-pairs
invariant-loop-pairs l = IsTrue (are_alts_well_formed (map alt_view l.alts.items))
