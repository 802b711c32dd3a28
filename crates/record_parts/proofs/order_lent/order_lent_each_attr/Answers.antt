use Rattle.std.proofs.Common.{◌∷◌, [], ◌-◌, Some, None, map, drop, sym, ◌∙◌, arith}
use Rattle.std.proofs.lemmas.Grind.{common_steps}
use Rattle.std.specs.declared.cmp.Ordering.TheVariants.{Less, Equal}
use Rattle.jsonml_tree.specs.LentAttrs.{lent_attr_view, lent_scalar_view}
use Rattle.jsonml_tree.specs.Order.{attr_cmp}
use Rattle.xa_fields.specs.Reading.{many_at}
use Rattle.record_parts.specs.Reading.{attr_at}
use Rattle.record_parts.proofs.Leads.{goes_on, decided, longer, failed, ends, view_none, view_first, not_equal, is_equal, leads_at}
use Rattle.record_parts.proofs.TextOrders.{attr_seen}
use Rattle.record_parts.proofs.order_lent.order_lent_each_attr.Goals as goal

pub returns-in_default : goal.returns-in_default
returns-in_default c =
    longer attr_cmp attr_at c.args.count c.loop.counter c.loop.at (drop c.loop.at c.args.bytes.now) c.args.bytes.now (many_at attr_at c.args.count (drop c.args.at c.args.bytes.now)) (map lent_attr_view c.args.others.now) c.loop-test.true
    (leads_at attr_cmp (many_at attr_at c.args.count (drop c.args.at c.args.bytes.now)) (map lent_attr_view c.args.others.now) (map lent_attr_view c.loop.rest.rest.now) [] (many_at attr_at (c.args.count - c.loop.counter) (drop c.loop.at c.args.bytes.now)) (view_none lent_attr_view c.loop.rest.rest.now c.in_default.ensures.steps.0) c.loop.invariant.leads)

pub returns-in_default-order_attr : goal.returns-in_default-order_attr
returns-in_default-order_attr c =
    failed attr_cmp attr_at c.args.count c.loop.counter (drop c.loop.at c.args.bytes.now) c.args.bytes.now (many_at attr_at c.args.count (drop c.args.at c.args.bytes.now)) (map lent_attr_view c.args.others.now) (map lent_attr_view c.next.new.self.rest.now) (lent_attr_view c.in-Some.other.now) c.loop-test.true (attr_seen (drop c.loop.at c.args.bytes.now) c.args.bytes.now (lent_attr_view c.in-Some.other.now) c.name.result.now (lent_scalar_view c.value.result) None c.name.ensures c.value.ensures c.in_default-order_attr.ensures)
    (leads_at attr_cmp (many_at attr_at c.args.count (drop c.args.at c.args.bytes.now)) (map lent_attr_view c.args.others.now) (map lent_attr_view c.loop.rest.rest.now) (lent_attr_view c.in-Some.other.now ∷ map lent_attr_view c.next.new.self.rest.now) (many_at attr_at (c.args.count - c.loop.counter) (drop c.loop.at c.args.bytes.now)) (view_first lent_attr_view c.loop.rest.rest.now c.next.new.self.rest.now c.in-Some.other.now c.in-Some.ensures.steps) c.loop.invariant.leads)

pub returns-then-is_ne : goal.returns-then-is_ne
returns-then-is_ne c =
    decided attr_cmp attr_at c.args.count c.loop.counter c.in-Some-order_attr.next c.in-Some-order_attr.next (drop c.loop.at c.args.bytes.now) c.args.bytes.now (many_at attr_at c.args.count (drop c.args.at c.args.bytes.now)) (map lent_attr_view c.args.others.now) (map lent_attr_view c.next.new.self.rest.now) (lent_attr_view c.in-Some.other.now) c.in-Some-order_attr.order c.loop-test.true
    (not_equal c.in-Some-order_attr.order (sym c.is_ne.ensures ∙ c.if-is_ne.true)) (attr_seen (drop c.loop.at c.args.bytes.now) c.args.bytes.now (lent_attr_view c.in-Some.other.now) c.name.result.now (lent_scalar_view c.value.result) (Some (c.in-Some-order_attr.order, c.in-Some-order_attr.next)) c.name.ensures c.value.ensures c.in-Some-order_attr.ensures)
    (leads_at attr_cmp (many_at attr_at c.args.count (drop c.args.at c.args.bytes.now)) (map lent_attr_view c.args.others.now) (map lent_attr_view c.loop.rest.rest.now) (lent_attr_view c.in-Some.other.now ∷ map lent_attr_view c.next.new.self.rest.now) (many_at attr_at (c.args.count - c.loop.counter) (drop c.loop.at c.args.bytes.now)) (view_first lent_attr_view c.loop.rest.rest.now c.next.new.self.rest.now c.in-Some.other.now c.in-Some.ensures.steps) c.loop.invariant.leads)

pub loop-preserved : goal.loop-preserved
loop-preserved c =
    record {
      leads = goes_on attr_cmp attr_at c.args.count c.loop.counter c.in-Some-order_attr.next (drop c.loop.at c.args.bytes.now) c.args.bytes.now (many_at attr_at c.args.count (drop c.args.at c.args.bytes.now)) (map lent_attr_view c.args.others.now) (map lent_attr_view c.next.new.self.rest.now) (lent_attr_view c.in-Some.other.now) c.in-Some-order_attr.order c.loop-test.true
          (is_equal c.in-Some-order_attr.order (sym c.is_ne.ensures ∙ c.if-is_ne.false)) (attr_seen (drop c.loop.at c.args.bytes.now) c.args.bytes.now (lent_attr_view c.in-Some.other.now) c.name.result.now (lent_scalar_view c.value.result) (Some (c.in-Some-order_attr.order, c.in-Some-order_attr.next)) c.name.ensures c.value.ensures c.in-Some-order_attr.ensures)
          (leads_at attr_cmp (many_at attr_at c.args.count (drop c.args.at c.args.bytes.now)) (map lent_attr_view c.args.others.now) (map lent_attr_view c.loop.rest.rest.now) (lent_attr_view c.in-Some.other.now ∷ map lent_attr_view c.next.new.self.rest.now) (many_at attr_at (c.args.count - c.loop.counter) (drop c.loop.at c.args.bytes.now)) (view_first lent_attr_view c.loop.rest.rest.now c.next.new.self.rest.now c.in-Some.other.now c.in-Some.ensures.steps) c.loop.invariant.leads);
    }

pub returns-then-is_some : goal.returns-then-is_some
returns-then-is_some c = ends attr_cmp attr_at c.args.count c.loop.counter c.loop.at c.args.bytes.now (many_at attr_at c.args.count (drop c.args.at c.args.bytes.now)) (map lent_attr_view c.args.others.now) (map lent_attr_view c.loop.rest.rest.now) Less c.loop-test.false (grind (arith, common_steps)) c.loop.invariant.leads

pub returns : goal.returns
returns c = ends attr_cmp attr_at c.args.count c.loop.counter c.loop.at c.args.bytes.now (many_at attr_at c.args.count (drop c.args.at c.args.bytes.now)) (map lent_attr_view c.args.others.now) (map lent_attr_view c.loop.rest.rest.now) Equal c.loop-test.false (grind (arith, common_steps)) c.loop.invariant.leads
