use Rattle.std.proofs.Common.{◌≡◌, map, drop}
use Rattle.version_set.specs.Members.{members}
use Rattle.version_set.specs.View.{pairs_of}
use Rattle.archive_tree.specs.Read.{body_at}
use Rattle.archive_tree.specs.View.{alt_view}
use Rattle.archive_tree.proofs.read.read_body.Given as goal

-- what is left decides
abbrev pub invariant-loop-alt : goal.invariant-loop-alt
invariant-loop-alt l =
    body_at l.i (members (pairs_of l.set)) (map alt_view l.alts) ≡ body_at l.i (members (pairs_of l.set)) (map alt_view (drop l.alt-index l.alts))
