use Rattle.std.proofs.Common.{◌-◌, ◌≤◌, drop}
use Rattle.xa_fields.specs.Reading.{many_at}
use Rattle.jsonml_tree.specs.Order.{attr_cmp}
use Rattle.record_parts.specs.Reading.{attr_at}
use Rattle.record_parts.proofs.Both.{BothLead}
use Rattle.record_parts.proofs.order_both.both_each_attr.Given as goal

-- what is left of both decides
abbrev pub invariant-loop : goal.invariant-loop
invariant-loop l =
    record {
      within : l.counter ≤ l.shorter;
      lead : BothLead attr_cmp (many_at attr_at l.count (drop l.fn.at l.ours)) (many_at attr_at l.others (drop l.fn.there l.theirs)) (many_at attr_at (l.count - l.counter) (drop l.at l.ours)) (many_at attr_at (l.others - l.counter) (drop l.there l.theirs));
    }
