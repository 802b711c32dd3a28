use Rattle.std.proofs.Common.{◌≡◌, ◌≤◌, ◌-◌, length, drop, map, None}
use Rattle.std.specs.Option.{option_map}
use Rattle.jsonml_tree.specs.View.{attr_view}
use Rattle.xa_fields.proofs.Loops.{with_front}
use Rattle.record_parts.specs.Reading.{attr_at, next_attr}
use Rattle.xa_fields.specs.Reading.{chain_at}
use Rattle.record_parts.proofs.take_values.take_each_attr.Given as goal

-- what was read, in front of what the rest gives
abbrev pub invariant-loop : goal.invariant-loop
invariant-loop l =
    record {
      within : l.at ≤ length l.bytes;
      read : with_front (map attr_view l.attrs.items) (chain_at attr_at next_attr (option_map (λ s. s.now) l.last) (l.count - l.counter) (drop l.at l.bytes)) ≡ chain_at attr_at next_attr None l.count (drop l.fn.at l.bytes);
    }
