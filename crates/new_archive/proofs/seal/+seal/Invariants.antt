use Rattle.std.proofs.Common.{◌≡◌, map}
use Rattle.version_set.specs.View.{pairs_of}
use Rattle.spelled_archive.specs.View.{node_view}
use Rattle.new_archive.specs.Sealed.{seal}
use Rattle.new_archive.specs.View.{row_view}
use Rattle.new_archive.proofs.seal.+seal.Given as goal

abbrev pub invariant-seal_nodes-loop-kid : goal.invariant-seal_nodes-loop-kid
invariant-seal_nodes-loop-kid l = map node_view l.nodes.items ≡ map (seal (pairs_of l.parent)) (row_view l.yielded)
