use Rattle.std.proofs.Common.{◌≡◌, ◌+◌, ◌≤◌, length, map, drop}
use Rattle.std.specs.List.{flat_map}
use Rattle.record_format.specs.Spelling.{entry_bytes}
use Rattle.row_ends.specs.Expected.{Expected, so_far}
use Rattle.row_ends.specs.Kids.{entries_in, row_length}
use Rattle.row_ends.specs.KidViews.{size_view}
use Rattle.row_ends.proofs.entries.expect_entries.Given as goal

-- the entries from here on are expected
abbrev pub invariant-loop-index : goal.invariant-loop-index
invariant-loop-index g l = (let f = g.F.Folder in (l.index ≤ length l.sizes) × (l.start + row_length (drop l.index (map size_view l.sizes)) ≡ l.length)
    × Expected f.files f.draft f.numbers f.faults l.name (flat_map entry_bytes (entries_in l.start (drop l.index (map size_view l.sizes)))) l.fn.folder l.folder l.fn.room l.room so_far)

abbrev pub decreases-loop-index : goal.decreases-loop-index
decreases-loop-index g l = l.index
