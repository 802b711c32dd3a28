use Rattle.std.proofs.Common.{◌∷◌, [], ◌-◌, map, drop, sym, ◌∙◌}
use Rattle.std.specs.declared.cmp.Ordering.TheVariants.{Less, Equal}
use Rattle.keyed_tree.specs.Order.{key_cmp}
use Rattle.keyed_tree.specs.View.{key_view}
use Rattle.xa_fields.specs.Reading.{many_at}
use Rattle.record_parts.specs.Reading.{value_at}
use Rattle.record_parts.proofs.Leads.{goes_on, decided, longer, failed, ends, view_none, view_first, not_equal, is_equal, equal_end, less_end, leads_at}
use Rattle.record_parts.proofs.order_parts.order_keys.Goals as goal

pub returns-in_default : goal.returns-in_default
returns-in_default c =
    longer key_cmp value_at c.args.count c.loop.counter c.loop.at (drop c.loop.at c.args.bytes.now) c.args.bytes.now (many_at value_at c.args.count (drop c.args.at c.args.bytes.now)) (map key_view c.args.others.now) c.loop-test.true
    (leads_at key_cmp (many_at value_at c.args.count (drop c.args.at c.args.bytes.now)) (map key_view c.args.others.now) (map key_view c.loop.rest.now) [] (many_at value_at (c.args.count - c.loop.counter) (drop c.loop.at c.args.bytes.now)) (view_none key_view c.loop.rest.now c.in_default.ensures.cases) c.loop.invariant.leads)

pub returns-in_default-order_value : goal.returns-in_default-order_value
returns-in_default-order_value c =
    failed key_cmp value_at c.args.count c.loop.counter (drop c.loop.at c.args.bytes.now) c.args.bytes.now (many_at value_at c.args.count (drop c.args.at c.args.bytes.now)) (map key_view c.args.others.now) (map key_view c.in-Some.tail.now) (key_view c.in-Some.other.now) c.loop-test.true c.in_default-order_value.ensures
    (leads_at key_cmp (many_at value_at c.args.count (drop c.args.at c.args.bytes.now)) (map key_view c.args.others.now) (map key_view c.loop.rest.now) (key_view c.in-Some.other.now ∷ map key_view c.in-Some.tail.now) (many_at value_at (c.args.count - c.loop.counter) (drop c.loop.at c.args.bytes.now)) (view_first key_view c.loop.rest.now c.in-Some.tail.now c.in-Some.other.now c.in-Some.ensures.cases.0) c.loop.invariant.leads)

pub returns-then-is_ne : goal.returns-then-is_ne
returns-then-is_ne c =
    decided key_cmp value_at c.args.count c.loop.counter c.in-Some-order_value.next c.in-Some-order_value.next (drop c.loop.at c.args.bytes.now) c.args.bytes.now (many_at value_at c.args.count (drop c.args.at c.args.bytes.now)) (map key_view c.args.others.now) (map key_view c.in-Some.tail.now) (key_view c.in-Some.other.now) c.in-Some-order_value.order c.loop-test.true
    (not_equal c.in-Some-order_value.order (sym c.is_ne.ensures ∙ c.if-is_ne.true)) c.in-Some-order_value.ensures
    (leads_at key_cmp (many_at value_at c.args.count (drop c.args.at c.args.bytes.now)) (map key_view c.args.others.now) (map key_view c.loop.rest.now) (key_view c.in-Some.other.now ∷ map key_view c.in-Some.tail.now) (many_at value_at (c.args.count - c.loop.counter) (drop c.loop.at c.args.bytes.now)) (view_first key_view c.loop.rest.now c.in-Some.tail.now c.in-Some.other.now c.in-Some.ensures.cases.0) c.loop.invariant.leads)

pub loop-preserved : goal.loop-preserved
loop-preserved c =
    record {
      leads = goes_on key_cmp value_at c.args.count c.loop.counter c.in-Some-order_value.next (drop c.loop.at c.args.bytes.now) c.args.bytes.now (many_at value_at c.args.count (drop c.args.at c.args.bytes.now)) (map key_view c.args.others.now) (map key_view c.in-Some.tail.now) (key_view c.in-Some.other.now) c.in-Some-order_value.order c.loop-test.true
          (is_equal c.in-Some-order_value.order (sym c.is_ne.ensures ∙ c.if-is_ne.false)) c.in-Some-order_value.ensures
          (leads_at key_cmp (many_at value_at c.args.count (drop c.args.at c.args.bytes.now)) (map key_view c.args.others.now) (map key_view c.loop.rest.now) (key_view c.in-Some.other.now ∷ map key_view c.in-Some.tail.now) (many_at value_at (c.args.count - c.loop.counter) (drop c.loop.at c.args.bytes.now)) (view_first key_view c.loop.rest.now c.in-Some.tail.now c.in-Some.other.now c.in-Some.ensures.cases.0) c.loop.invariant.leads);
    }

pub returns-then-is_empty : goal.returns-then-is_empty
returns-then-is_empty c = ends key_cmp value_at c.args.count c.loop.counter c.loop.at c.args.bytes.now (many_at value_at c.args.count (drop c.args.at c.args.bytes.now)) (map key_view c.args.others.now) (map key_view c.loop.rest.now) Equal c.loop-test.false (equal_end key_cmp key_view c.loop.rest.now (sym c.is_empty.ensures ∙ c.if-is_empty.true)) c.loop.invariant.leads

pub returns : goal.returns
returns c = ends key_cmp value_at c.args.count c.loop.counter c.loop.at c.args.bytes.now (many_at value_at c.args.count (drop c.args.at c.args.bytes.now)) (map key_view c.args.others.now) (map key_view c.loop.rest.now) Less c.loop-test.false (less_end key_cmp key_view c.loop.rest.now (sym c.is_empty.ensures ∙ c.if-is_empty.false)) c.loop.invariant.leads
