use Rattle.std.proofs.Common.{drop, map, None, Some, refl, ap, sym, subst, ◌∙◌}
use Rattle.keyed_tree.specs.Order.{name_cmp}
use Rattle.keyed_tree.specs.View.{key_view, label_view}
use Rattle.record_parts.specs.Compares.{Compares}
use Rattle.record_parts.specs.Reading.{name_at}
use Rattle.record_parts.proofs.ValueOrders.{label_fails, label_decides, label_goes, keys_none, keys_counted}
use Rattle.record_parts.proofs.order_parts.order_label.Goals as goal

pub returns-in_default : goal.returns-in_default
returns-in_default c =
    label_fails (drop c.args.at c.args.bytes.now) c.args.bytes.now (label_view c.args.other.now)
    (subst (λ m. Compares (λ n. name_cmp n m) (name_at (drop c.args.at c.args.bytes.now)) c.args.bytes.now None) c.lent_name.ensures c.in_default.ensures)

pub returns-then-is_ne : goal.returns-then-is_ne
returns-then-is_ne c =
    label_decides (drop c.args.at c.args.bytes.now) c.args.bytes.now (label_view c.args.other.now) c.in-Some.order c.in-Some.at (sym c.is_ne.ensures ∙ c.if-is_ne.true)
    (subst (λ m. Compares (λ n. name_cmp n m) (name_at (drop c.args.at c.args.bytes.now)) c.args.bytes.now (Some (c.in-Some.order, c.in-Some.at))) c.lent_name.ensures c.in-Some.ensures)

pub returns-in_default-take_u32 : goal.returns-in_default-take_u32
returns-in_default-take_u32 c =
    let us = map key_view c.args.other.now.keys.items in
    label_goes (drop c.args.at c.args.bytes.now) c.args.bytes.now (label_view c.args.other.now) us c.in-Some.order c.in-Some.at None refl (sym c.is_ne.ensures ∙ c.if-is_ne.false)
    (subst (λ m. Compares (λ n. name_cmp n m) (name_at (drop c.args.at c.args.bytes.now)) c.args.bytes.now (Some (c.in-Some.order, c.in-Some.at))) c.lent_name.ensures c.in-Some.ensures)
    (keys_none (drop c.in-Some.at c.args.bytes.now) c.args.bytes.now us c.in_default-take_u32.ensures.found)

pub returns : goal.returns
returns c =
    let us = map key_view c.deref.result.now in
    label_goes (drop c.args.at c.args.bytes.now) c.args.bytes.now (label_view c.args.other.now) us c.in-Some.order c.in-Some.at c.order_keys.result (ap (map key_view) c.deref.ensures.value) (sym c.is_ne.ensures ∙ c.if-is_ne.false)
    (subst (λ m. Compares (λ n. name_cmp n m) (name_at (drop c.args.at c.args.bytes.now)) c.args.bytes.now (Some (c.in-Some.order, c.in-Some.at))) c.lent_name.ensures c.in-Some.ensures)
    (keys_counted c.in-Some-take_u32.count (drop c.in-Some.at c.args.bytes.now) (drop c.in-Some-take_u32.at c.args.bytes.now) c.args.bytes.now us c.order_keys.result c.in-Some-take_u32.ensures.found c.order_keys.ensures)
