use Rattle.std.proofs.Common.{◌≡◌, ◌++◌, map, drop}
use Rattle.version_set.specs.Members.{members}
use Rattle.version_set.specs.View.{pairs_of}
use Rattle.keyed_tree.specs.Data.{kids_list}
use Rattle.keyed_tree.specs.View.{keyed_view}
use Rattle.archive_tree.specs.Read.{read_row}
use Rattle.archive_tree.specs.View.{nodes_view}
use Rattle.archive_tree.proofs.read.+read.Given as goal

-- what is done, and then what the nodes that are left give
abbrev pub invariant-read_kids-loop-node : goal.invariant-read_kids-loop-node
invariant-read_kids-loop-node l =
    kids_list (read_row l.i (members (pairs_of l.set)) (nodes_view l.nodes))
    ≡ map keyed_view l.kids.items ++ kids_list (read_row l.i (members (pairs_of l.set)) (nodes_view (drop l.node-index l.nodes)))
