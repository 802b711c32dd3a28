use Rattle.std.proofs.Common.{◌-◌, drop, map}
use Rattle.xa_fields.specs.Reading.{many_at}
use Rattle.keyed_tree.specs.Order.{key_cmp}
use Rattle.keyed_tree.specs.LentView.{lent_val_view}
use Rattle.record_parts.specs.Reading.{value_at}
use Rattle.record_parts.proofs.Leads.{Leads}
use Rattle.record_parts.proofs.order_lent.order_lent_keys.Given as goal

-- what is left decides
abbrev pub invariant-loop : goal.invariant-loop
invariant-loop l =
    record {
      leads : Leads key_cmp (many_at value_at l.count (drop l.fn.at l.bytes)) (map lent_val_view l.others) (many_at value_at (l.count - l.counter) (drop l.at l.bytes)) (map lent_val_view l.rest.rest.now);
    }
