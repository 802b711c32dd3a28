use Rattle.std.proofs.Common.{rules}
use Rattle.given_parts.proofs.Pushed.{nodes_pushed}
use Rattle.given_parts.proofs.shapes.+nodes.Goals as goal

pub nodes-loop-shape-preserved : goal.nodes-loop-shape-preserved
nodes-loop-shape-preserved c = search (rules, nodes_pushed)
