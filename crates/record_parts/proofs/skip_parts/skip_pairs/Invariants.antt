use Rattle.std.proofs.Common.{◌≡◌, ◌≤◌, ◌-◌, length, drop}
use Rattle.record_parts.specs.Bounds.{most}
use Rattle.record_parts.specs.Behind.{behind}
use Rattle.timestamp_tree.specs.Reading.{pair_at, next_pair}
use Rattle.xa_fields.specs.Reading.{chain_at}
use Rattle.record_parts.proofs.skip_parts.skip_pairs.Given as goal

-- behind what is left is behind it all
abbrev pub invariant-loop : goal.invariant-loop
invariant-loop l =
    record {
      within : l.at ≤ length l.bytes;
      rest : behind (chain_at pair_at (next_pair most) l.low (l.count - l.counter) (drop l.at l.bytes)) ≡ behind (chain_at pair_at (next_pair most) 1 l.count (drop l.fn.at l.bytes));
    }
