use Rattle.std.proofs.Common.{◌≡◌, ◌≤◌, ◌-◌, ◌++◌, List, length, drop, map}
use Rattle.keyed_tree.specs.Data.{PlainKey}
use Rattle.xa_fields.specs.Reading.{many_at}
use Rattle.xa_fields.proofs.Loops.{with_front}
use Rattle.record_parts.specs.Reading.{value_at}
use Rattle.record_parts.specs.ShownViews.{shown_body}
use Rattle.node_judge.proofs.lent_keys.keys_onto.Given as goal

-- what was read behind what was there, in front of what the rest gives
abbrev pub invariant-loop : goal.invariant-loop
invariant-loop l = record {
  within : l.at ≤ length l.bytes;
  read : (done : List PlainKey) × (map shown_body l.keys.items ≡ map shown_body l.initial.keys.items ++ done)
      × (with_front done (many_at value_at (l.count - l.counter) (drop l.at l.bytes)) ≡ many_at value_at l.count (drop l.fn.at l.bytes));
}
