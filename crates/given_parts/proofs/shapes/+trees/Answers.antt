use Rattle.std.proofs.Common.{rules}
use Rattle.given_parts.proofs.Pushed.{kids_pushed}
use Rattle.given_parts.proofs.shapes.+trees.Goals as goal

pub trees-loop-shape-preserved : goal.trees-loop-shape-preserved
trees-loop-shape-preserved c = search (rules, kids_pushed)
