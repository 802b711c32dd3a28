use Rattle.std.proofs.Common.{◌≡◌, ◌++◌, map, drop}
use Rattle.version_set.specs.Members.{members}
use Rattle.version_set.specs.View.{pairs_of}
use Rattle.archive_tree.specs.Parts.{alt_sets}
use Rattle.archive_tree.specs.View.{alt_view}
use Rattle.archive_tree.proofs.check.are_alts_parts.Given as goal

-- what is done and what is left are all
abbrev pub invariant-loop-alt : goal.invariant-loop-alt
invariant-loop-alt l =
    map (λ s. members (pairs_of s.now)) l.parts.items ++ alt_sets (members (pairs_of l.set)) (map alt_view (drop l.alt-index l.alts))
    ≡ alt_sets (members (pairs_of l.set)) (map alt_view l.alts)
