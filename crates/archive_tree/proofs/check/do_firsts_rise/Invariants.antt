use Rattle.std.proofs.Common.{◌≡◌, map, drop}
use Rattle.version_set.specs.Members.{members}
use Rattle.version_set.specs.View.{pairs_of}
use Rattle.archive_tree.specs.PartsTest.{do_firsts_rise}
use Rattle.archive_tree.specs.View.{alt_view}
use Rattle.archive_tree.proofs.check.do_firsts_rise.Given as goal

-- what is left decides
abbrev pub invariant-loop-alt : goal.invariant-loop-alt
invariant-loop-alt l =
    do_firsts_rise 0 (members (pairs_of l.set)) (map alt_view l.alts) ≡ do_firsts_rise l.low (members (pairs_of l.set)) (map alt_view (drop l.alt-index l.alts))
