use Rattle.std.proofs.Common.{◌≡◌, map, take}
use Rattle.std.specs.Option.{unwrap_or}
use Rattle.version_set.specs.View.{pairs_of}
use Rattle.archive_tree.specs.Data.{PlainAlt}
use Rattle.archive_tree.specs.View.{alt_view}
use Rattle.archive_rekey.proofs.index.leaf_sets.Given as goal

-- those that were passed
abbrev pub invariant-loop-alt : goal.invariant-loop-alt
invariant-loop-alt l = map (λ s. pairs_of s.now) l.sets.items ≡ map (λ s. unwrap_or s (pairs_of l.all)) (map (λ (x : PlainAlt). x.stamp) (map alt_view (take l.alt-index l.alts)))
