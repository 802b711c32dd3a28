use Rattle.std.proofs.Common.{◌≡◌, take}
use Rattle.std.specs.List.{flat_map}
use Rattle.version_set.specs.View.{pairs_of}
use Rattle.archive_cut.specs.Windows.{cut_pair}
use Rattle.archive_cut.proofs.window.cut_set.Given as goal

-- what is left of the intervals so far
abbrev pub invariant-loop-pair : goal.invariant-loop-pair
invariant-loop-pair l = pairs_of l.left ≡ flat_map (cut_pair l.window.first l.window.last) (take l.pair-index (pairs_of l.set))
