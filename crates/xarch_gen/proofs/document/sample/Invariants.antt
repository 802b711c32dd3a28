use Rattle.std.proofs.Common.{◌≡◌, map}
use Rattle.jsonml_tree.specs.View.{tree_view}
use Rattle.xarch_gen.proofs.Made.{departments_below}
use Rattle.xarch_gen.proofs.document.sample.Given as goal

abbrev pub invariant-loop-department : goal.invariant-loop-department
invariant-loop-department l = map tree_view l.departments.items ≡ departments_below l.seed l.document l.department
