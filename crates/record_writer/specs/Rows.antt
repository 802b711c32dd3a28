-- The plain data of the nodes that stand begun.
use Rattle.std.specs.Prelude.{ℕ, suc, List, map, reverse, Option, Some, None, option_map}
use Rattle.record_format.specs.View.{entry_view}
use Rattle.record_writer.specs.Data.{OpenRow, OpenInner, OpenLeaf, PlainWriter}
use Rattle.record_writer.specs.Places.{set_at}
use Rattle.record_writer.specs.declared.rows.Row.{Row}
use Rattle.record_writer.specs.declared.rows.Inner.{Inner}
use Rattle.record_writer.specs.declared.rows.Leaf.{Leaf}

abbrev pub row_view : Row → OpenRow
row_view r = record { start = r.start; dir = record { entries = map entry_view r.entries.items; sets = map (set_at r.sets.items) r.places.items } }

abbrev pub inner_view : Inner → OpenInner
inner_view i = record { begin = i.begin; set = set_at i.row.sets.items i.set; row = row_view i.row }

-- a leaf that stands in this row
abbrev pub leaf_view : Row → Leaf → OpenLeaf
leaf_view row l = record { begin = l.begin; set = set_at row.sets.items l.set }

-- the inner nodes stand from the first begun to the last
abbrev pub held : ℕ → Row → List Inner → Option Leaf → PlainWriter
held written row inners leaf =
    record { written = written; row = row_view row; inners = reverse (map inner_view inners); leaf = option_map (leaf_view row) leaf }

-- the first number above the place of the leaf's set
abbrev pub above_leaf : Option Leaf → ℕ
above_leaf None = 0
above_leaf (Some l) = suc l.set
