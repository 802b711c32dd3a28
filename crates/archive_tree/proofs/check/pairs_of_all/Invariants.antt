use Rattle.std.proofs.Common.{◌≡◌, ◌++◌, drop}
use Rattle.std.specs.List.{flat_map}
use Rattle.version_set.specs.View.{pairs_of}
use Rattle.archive_tree.proofs.check.pairs_of_all.Given as goal

-- what is done and what is left are all
abbrev pub invariant-loop-set : goal.invariant-loop-set
invariant-loop-set l = l.pairs.items ++ flat_map (λ s. pairs_of s.now) (drop l.set-index l.sets) ≡ flat_map (λ s. pairs_of s.now) l.sets
