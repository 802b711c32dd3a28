use Rattle.std.proofs.Common.{◌≡◌, ◌++◌, take, drop}
use Rattle.std.specs.Vec.Iter.{into_iter_items}
use Rattle.new_archive.proofs.weave.move_nodes.Given as goal

-- what was moved, and what is left
abbrev pub invariant-loop-left : goal.invariant-loop-left
invariant-loop-left l = record {
  row : l.row.items ++ take l.left (into_iter_items l.rest) ≡ l.fn.row.items ++ take l.fn.count (into_iter_items l.fn.rest);
  rest : drop l.left (into_iter_items l.rest) ≡ drop l.fn.count (into_iter_items l.fn.rest);
}

abbrev pub decreases-loop-left : goal.decreases-loop-left
decreases-loop-left l = l.left
