use Rattle.std.proofs.Common.{◌≡◌, map, take}
use Rattle.std.specs.Option.{unwrap_or}
use Rattle.version_set.specs.View.{pairs_of}
use Rattle.archive_tree.specs.Data.{node_stamp}
use Rattle.archive_tree.specs.View.{node_view}
use Rattle.archive_rekey.proofs.index.row_sets.Given as goal

-- those that were passed
abbrev pub invariant-loop-node : goal.invariant-loop-node
invariant-loop-node l = map (λ s. pairs_of s.now) l.sets.items ≡ map (λ s. unwrap_or s (pairs_of l.all)) (map node_stamp (map node_view (take l.node-index l.nodes)))
