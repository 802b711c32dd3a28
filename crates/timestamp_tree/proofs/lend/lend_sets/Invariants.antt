use Rattle.std.proofs.Common.{◌≡◌, length, map, take}
use Rattle.version_set.specs.View.{pairs_of}
use Rattle.timestamp_tree.proofs.lend.lend_sets.Given as goal

-- those that were passed are lent
abbrev pub invariant-loop-set : goal.invariant-loop-set
invariant-loop-set l =
    record {
      sets : map (λ s. pairs_of s.now) l.lent.items ≡ map pairs_of (take l.set-index l.sets);
      count : length l.lent.items ≡ l.set-index;
    }
