use Rattle.std.proofs.Common.{◌∷◌, [], ◌-◌, map, drop, sym, ◌∙◌, arith}
use Rattle.std.proofs.lemmas.Grind.{common_steps}
use Rattle.std.specs.declared.cmp.Ordering.TheVariants.{Less, Equal}
use Rattle.keyed_tree.specs.Order.{key_cmp}
use Rattle.keyed_tree.specs.LentView.{lent_val_view}
use Rattle.xa_fields.specs.Reading.{many_at}
use Rattle.record_parts.specs.Reading.{value_at}
use Rattle.record_parts.proofs.Leads.{goes_on, decided, longer, failed, ends, view_none, view_first, not_equal, is_equal, leads_at}
use Rattle.record_parts.proofs.order_lent.order_lent_keys.Goals as goal

pub returns-in_default : goal.returns-in_default
returns-in_default c =
    longer key_cmp value_at c.args.count c.loop.counter c.loop.at (drop c.loop.at c.args.bytes.now) c.args.bytes.now (many_at value_at c.args.count (drop c.args.at c.args.bytes.now)) (map lent_val_view c.args.others.now) c.loop-test.true
    (leads_at key_cmp (many_at value_at c.args.count (drop c.args.at c.args.bytes.now)) (map lent_val_view c.args.others.now) (map lent_val_view c.loop.rest.rest.now) [] (many_at value_at (c.args.count - c.loop.counter) (drop c.loop.at c.args.bytes.now)) (view_none lent_val_view c.loop.rest.rest.now c.in_default.ensures.steps.0) c.loop.invariant.leads)

pub returns-in_default-order_lent_value : goal.returns-in_default-order_lent_value
returns-in_default-order_lent_value c =
    failed key_cmp value_at c.args.count c.loop.counter (drop c.loop.at c.args.bytes.now) c.args.bytes.now (many_at value_at c.args.count (drop c.args.at c.args.bytes.now)) (map lent_val_view c.args.others.now) (map lent_val_view c.next.new.self.rest.now) (lent_val_view c.in-Some.other.now) c.loop-test.true c.in_default-order_lent_value.ensures
    (leads_at key_cmp (many_at value_at c.args.count (drop c.args.at c.args.bytes.now)) (map lent_val_view c.args.others.now) (map lent_val_view c.loop.rest.rest.now) (lent_val_view c.in-Some.other.now ∷ map lent_val_view c.next.new.self.rest.now) (many_at value_at (c.args.count - c.loop.counter) (drop c.loop.at c.args.bytes.now)) (view_first lent_val_view c.loop.rest.rest.now c.next.new.self.rest.now c.in-Some.other.now c.in-Some.ensures.steps) c.loop.invariant.leads)

pub returns-then-is_ne : goal.returns-then-is_ne
returns-then-is_ne c =
    decided key_cmp value_at c.args.count c.loop.counter c.in-Some-order_lent_value.next c.in-Some-order_lent_value.next (drop c.loop.at c.args.bytes.now) c.args.bytes.now (many_at value_at c.args.count (drop c.args.at c.args.bytes.now)) (map lent_val_view c.args.others.now) (map lent_val_view c.next.new.self.rest.now) (lent_val_view c.in-Some.other.now) c.in-Some-order_lent_value.order c.loop-test.true
    (not_equal c.in-Some-order_lent_value.order (sym c.is_ne.ensures ∙ c.if-is_ne.true)) c.in-Some-order_lent_value.ensures
    (leads_at key_cmp (many_at value_at c.args.count (drop c.args.at c.args.bytes.now)) (map lent_val_view c.args.others.now) (map lent_val_view c.loop.rest.rest.now) (lent_val_view c.in-Some.other.now ∷ map lent_val_view c.next.new.self.rest.now) (many_at value_at (c.args.count - c.loop.counter) (drop c.loop.at c.args.bytes.now)) (view_first lent_val_view c.loop.rest.rest.now c.next.new.self.rest.now c.in-Some.other.now c.in-Some.ensures.steps) c.loop.invariant.leads)

pub loop-preserved : goal.loop-preserved
loop-preserved c =
    record {
      leads = goes_on key_cmp value_at c.args.count c.loop.counter c.in-Some-order_lent_value.next (drop c.loop.at c.args.bytes.now) c.args.bytes.now (many_at value_at c.args.count (drop c.args.at c.args.bytes.now)) (map lent_val_view c.args.others.now) (map lent_val_view c.next.new.self.rest.now) (lent_val_view c.in-Some.other.now) c.in-Some-order_lent_value.order c.loop-test.true
          (is_equal c.in-Some-order_lent_value.order (sym c.is_ne.ensures ∙ c.if-is_ne.false)) c.in-Some-order_lent_value.ensures
          (leads_at key_cmp (many_at value_at c.args.count (drop c.args.at c.args.bytes.now)) (map lent_val_view c.args.others.now) (map lent_val_view c.loop.rest.rest.now) (lent_val_view c.in-Some.other.now ∷ map lent_val_view c.next.new.self.rest.now) (many_at value_at (c.args.count - c.loop.counter) (drop c.loop.at c.args.bytes.now)) (view_first lent_val_view c.loop.rest.rest.now c.next.new.self.rest.now c.in-Some.other.now c.in-Some.ensures.steps) c.loop.invariant.leads);
    }

pub returns-then-is_some : goal.returns-then-is_some
returns-then-is_some c = ends key_cmp value_at c.args.count c.loop.counter c.loop.at c.args.bytes.now (many_at value_at c.args.count (drop c.args.at c.args.bytes.now)) (map lent_val_view c.args.others.now) (map lent_val_view c.loop.rest.rest.now) Less c.loop-test.false (grind (arith, common_steps)) c.loop.invariant.leads

pub returns : goal.returns
returns c = ends key_cmp value_at c.args.count c.loop.counter c.loop.at c.args.bytes.now (many_at value_at c.args.count (drop c.args.at c.args.bytes.now)) (map lent_val_view c.args.others.now) (map lent_val_view c.loop.rest.rest.now) Equal c.loop-test.false (grind (arith, common_steps)) c.loop.invariant.leads
