use Rattle.std.proofs.Common.{IsTrue}
use Rattle.jsonml_tree.specs.View.{tree_view}
use Rattle.jsonml_tree.specs.WellFormed.{is_well_formed}
use Rattle.test_files.proofs.keyed_files.nested.Given as goal

abbrev pub invariant-loop : goal.invariant-loop
invariant-loop l = IsTrue (is_well_formed (tree_view l.tree))
