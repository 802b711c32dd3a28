use Rattle.std.proofs.Common.{◌≡◌, map, drop}
use Rattle.version_set.specs.Members.{members}
use Rattle.version_set.specs.View.{pairs_of}
use Rattle.archive_tree.specs.PartsTest.{are_stamps_well}
use Rattle.archive_tree.specs.View.{alt_view}
use Rattle.archive_tree.proofs.check.are_stamps_well.Given as goal

-- what is left decides
abbrev pub invariant-loop-alt : goal.invariant-loop-alt
invariant-loop-alt l =
    are_stamps_well (members (pairs_of l.set)) (map alt_view l.alts) ≡ are_stamps_well (members (pairs_of l.set)) (map alt_view (drop l.alt-index l.alts))
