use Rattle.std.proofs.Common.{arith}
use Rattle.archive_tree.proofs.NodeViews.{nodes}
use Rattle.archive_rekey.proofs.Below.{body_below}
use Rattle.archive_rekey.proofs.lend.lend_attr.Goals as goal

pub returns-in-Some-Content : goal.returns-in-Some-Content
returns-in-Some-Content c = grind (arith, nodes, body_below)

pub returns : goal.returns
returns c = grind (arith, nodes, body_below)
