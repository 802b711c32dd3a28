-- The plain tree that a node stands for.
use Rattle.timestamp_tree.specs.Data.{PlainTs, leaf, node}
use Rattle.timestamp_tree.specs.declared.part.Part.{Part, Part-F, fold-Part}
use Rattle.version_set.specs.View.{pairs_of}

abbrev pub node_step : Part-F PlainTs → PlainTs
node_step (Part-F.Leaf s) = leaf (pairs_of s)
node_step (Part-F.Inner s n l r) = node (pairs_of s) n l.value r.value

abbrev pub part_view : Part → PlainTs
part_view = fold-Part PlainTs node_step
