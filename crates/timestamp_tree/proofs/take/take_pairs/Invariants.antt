use Rattle.std.proofs.Common.{◌≡◌, ◌≤◌, ◌-◌, length, drop}
use Rattle.version_set.specs.View.{pairs_of}
use Rattle.version_set.specs.Walk.{end_of}
use Rattle.xa_fields.specs.Reading.{chain_at}
use Rattle.xa_fields.proofs.Loops.{with_front}
use Rattle.timestamp_tree.specs.Reading.{pair_at, next_pair}
use Rattle.timestamp_tree.proofs.take.take_pairs.Given as goal

-- what was read, in front of what the rest gives
abbrev pub invariant-loop : goal.invariant-loop
invariant-loop l =
    record {
      within : l.at ≤ length l.bytes;
      read : with_front (pairs_of l.set) (chain_at pair_at (next_pair l.most) (end_of (pairs_of l.set)) (l.count - l.counter) (drop l.at l.bytes)) ≡ chain_at pair_at (next_pair l.most) 1 l.count (drop l.fn.at l.bytes);
    }
