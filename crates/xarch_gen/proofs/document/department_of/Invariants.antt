use Rattle.std.proofs.Common.{◌≡◌, ◌++◌, ◌∷◌, map, codes, decimal}
use Rattle.jsonml_tree.specs.View.{tree_view}
use Rattle.xarch_gen.specs.Sample.{field}
use Rattle.xarch_gen.proofs.Made.{employees_below}
use Rattle.xarch_gen.proofs.document.department_of.Given as goal

abbrev pub invariant-loop-employee : goal.invariant-loop-employee
invariant-loop-employee l = map tree_view l.items.items ≡ field (codes "name") (codes "D" ++ decimal l.department) ∷ employees_below l.seed l.document l.department l.employee
