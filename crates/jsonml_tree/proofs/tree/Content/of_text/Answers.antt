use Rattle.std.proofs.Common.{arith}
use Rattle.jsonml_tree.proofs.Trees.{trees}
use Rattle.jsonml_tree.proofs.tree.Content.of_text.Goals as goal

pub returns : goal.returns
returns c = grind (arith, trees)
