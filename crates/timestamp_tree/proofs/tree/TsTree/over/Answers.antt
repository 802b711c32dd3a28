use Rattle.std.proofs.lemmas.Grind.{common_steps}
use Rattle.std.proofs.Common.{ap, ◌∙◌, arith}
use Rattle.timestamp_tree.specs.PartView.{part_view}
use Rattle.timestamp_tree.specs.Tree.{tree_of}
use Rattle.timestamp_tree.proofs.Trees.{tree_is}
use Rattle.timestamp_tree.proofs.tree.TsTree.over.Goals as goal

pub returns-clause-tree : goal.returns-clause-tree
returns-clause-tree c = tree_is (part_view c.in_ok-root.root) c.in_ok-root.ensures.tree ∙ ap tree_of c.in_ok-root.ensures.leaves

pub returns-clause-leaves : goal.returns-clause-leaves
returns-clause-leaves c = grind (arith, common_steps)
