use Rattle.std.proofs.Common.{IsTrue, map}
use Rattle.keyed_tree.specs.View.{key_view}
use Rattle.keyed_tree.specs.WellFormed.{are_keys_well_formed}
use Rattle.given_parts.proofs.shapes.keys.Given as goal

abbrev pub invariant-loop-value : goal.invariant-loop-value
invariant-loop-value l = IsTrue (are_keys_well_formed (map key_view l.keys.items))
