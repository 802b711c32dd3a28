use Rattle.std.proofs.Common.{arith}
use Rattle.timestamp_tree.specs.PartView.{part_view}
use Rattle.timestamp_tree.proofs.Trees.{height_within}
use Rattle.timestamp_tree.proofs.tree.TsTree.height.Goals as goal

pub height_of-requires : goal.height_of-requires
height_of-requires c = omega (arith, height_within (part_view c.args.self.now.root), c.args.self.now.few)
