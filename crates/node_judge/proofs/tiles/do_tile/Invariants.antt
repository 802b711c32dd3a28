use Rattle.std.proofs.Common.{◌≡◌, ◌≤◌, length, drop}
use Rattle.archive_tree.specs.PartsTest.{do_tile}
use Rattle.node_judge.proofs.tiles.do_tile.Given as goal

-- what is left decides
abbrev pub invariant-loop-from : goal.invariant-loop-from
invariant-loop-from l = record {
  inside : l.at ≤ length l.whole;
  same : do_tile 0 l.whole l.pairs ≡ do_tile l.low (drop l.at l.whole) (drop l.from-index l.pairs);
}
