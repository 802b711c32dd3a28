use Rattle.std.proofs.Common.{◌≤◌, length, drop}
use Rattle.std.specs.List.{flat_map}
use Rattle.timestamp_tree.specs.Bytes.{pair_bytes}
use Rattle.row_ends.specs.Expected.{Expected, so_far}
use Rattle.row_ends.proofs.spell.expect_pairs.Given as goal

-- the intervals from here on are expected
abbrev pub invariant-loop-index : goal.invariant-loop-index
invariant-loop-index g l = (let f = g.F.Folder in (l.index ≤ length l.pairs)
    × Expected f.files f.draft f.numbers f.faults l.name (flat_map pair_bytes (drop l.index l.pairs)) l.fn.folder l.folder l.fn.room l.room so_far)

abbrev pub decreases-loop-index : goal.decreases-loop-index
decreases-loop-index g l = l.index
