use Rattle.std.proofs.Common.{◌≡◌, map, drop, leb}
use Rattle.version_set.specs.View.{pairs_of}
use Rattle.archive_file.specs.Sizes.{pairs_size}
use Rattle.archive_file.proofs.ends.do_pairs_fit.Given as goal

-- what is left decides
abbrev pub invariant-loop-set : goal.invariant-loop-set
invariant-loop-set l = leb (pairs_size (map (λ s. pairs_of s.now) l.sets)) l.room ≡ leb (pairs_size (map (λ s. pairs_of s.now) (drop l.set-index l.sets))) l.left
