use Rattle.std.proofs.Common.{◌≡◌, length, map, take, vec_len, vec_capacity, None}
use Rattle.keyed_tree.specs.View.{keyed_view}
use Rattle.nested_merge.specs.Merged.{fresh}
use Rattle.archive_tree.specs.View.{node_view}
use Rattle.nested_merge.proofs.fresh.+fresh.Given as goal

abbrev pub invariant-fresh_nodes-loop-kid : goal.invariant-fresh_nodes-loop-kid
invariant-fresh_nodes-loop-kid l =
    (map node_view l.nodes.items ≡ map (fresh None) (map keyed_view (take l.kid-index l.new))) × (vec_len l.nodes ≡ l.kid-index) × (vec_capacity l.nodes ≡ length l.new)
