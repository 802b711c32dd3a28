use Rattle.keyed_tree.specs.View.{keyed_view}
use Rattle.keyed_tree.proofs.KidsKeep.{keeps, ordered_kids}
use Rattle.nested_merge.proofs.Rows.{rows}
use Rattle.std.proofs.Common.{arith}
use Rattle.std.proofs.lemmas.Grind.{common_steps}
use Rattle.nested_merge.proofs.alike.+fits.Goals as goal

pub all_fit-loop-node-init : goal.all_fit-loop-node-init
all_fit-loop-node-init t c = grind (arith, common_steps, rows, keeps)

pub all_fit-loop-node-preserved : goal.all_fit-loop-node-preserved
all_fit-loop-node-preserved t c = grind (arith, common_steps, rows, keeps)

pub all_fit-returns : goal.all_fit-returns
all_fit-returns t c = grind (arith, common_steps, rows, keeps)

pub all_fit-returns-then-not-fits : goal.all_fit-returns-then-not-fits
all_fit-returns-then-not-fits t c = grind (arith, common_steps, rows, keeps)

pub fits-returns-in-Inner-Inner : goal.fits-returns-in-Inner-Inner
fits-returns-in-Inner-Inner t c = grind (arith, rows)

pub fits-returns-in-Leaf-Leaf : goal.fits-returns-in-Leaf-Leaf
fits-returns-in-Leaf-Leaf t c = grind (arith, rows)

pub fits-returns-in_default : goal.fits-returns-in_default
fits-returns-in_default t c = grind (arith, rows)

pub fits-returns-in_default-2 : goal.fits-returns-in_default-2
fits-returns-in_default-2 t c = grind (arith, rows)

pub all_fit-find-requires : goal.all_fit-find-requires
all_fit-find-requires t c = ordered_kids (keyed_view c.args.tree.now) c.requires
