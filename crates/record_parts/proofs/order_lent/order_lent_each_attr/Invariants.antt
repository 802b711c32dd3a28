use Rattle.std.proofs.Common.{◌-◌, drop, map}
use Rattle.xa_fields.specs.Reading.{many_at}
use Rattle.jsonml_tree.specs.Order.{attr_cmp}
use Rattle.jsonml_tree.specs.LentAttrs.{lent_attr_view}
use Rattle.record_parts.specs.Reading.{attr_at}
use Rattle.record_parts.proofs.Leads.{Leads}
use Rattle.record_parts.proofs.order_lent.order_lent_each_attr.Given as goal

-- what is left decides
abbrev pub invariant-loop : goal.invariant-loop
invariant-loop l =
    record {
      leads : Leads attr_cmp (many_at attr_at l.count (drop l.fn.at l.bytes)) (map lent_attr_view l.others) (many_at attr_at (l.count - l.counter) (drop l.at l.bytes)) (map lent_attr_view l.rest.rest.now);
    }
