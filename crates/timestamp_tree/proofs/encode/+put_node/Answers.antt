use Rattle.std.proofs.Common.{arith}
use Rattle.std.proofs.lemmas.Grind.{common_steps}
use Rattle.timestamp_tree.proofs.encode.+put_node.Goals as goal

pub returns-in-Leaf-clause-grows : goal.returns-in-Leaf-clause-grows
returns-in-Leaf-clause-grows t c = grind (arith, common_steps)
