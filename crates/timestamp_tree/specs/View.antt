-- What contracts see of a timestamp tree.
use Rattle.timestamp_tree.specs.Data.{PlainTs}
use Rattle.timestamp_tree.specs.PartView.{part_view}
use Rattle.timestamp_tree.specs.declared.tree.TsTree.{TsTree}

abbrev pub ts_view : TsTree → PlainTs
ts_view t = part_view t.root
