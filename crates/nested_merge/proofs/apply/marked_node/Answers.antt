use Rattle.nested_merge.proofs.Plans.{plans}
use Rattle.std.proofs.Common.{arith}
use Rattle.nested_merge.proofs.apply.marked_node.Goals as goal

pub returns-in-Inner : goal.returns-in-Inner
returns-in-Inner c = grind (arith, plans)

pub returns-in-Leaf : goal.returns-in-Leaf
returns-in-Leaf c = grind (arith, plans)
