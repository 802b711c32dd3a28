use Rattle.std.proofs.Common.{drop, map, None, refl, sym, ◌∙◌}
use Rattle.keyed_tree.specs.LentView.{lent_val_view}
use Rattle.record_parts.specs.Shown.{named}
use Rattle.record_parts.proofs.ValueOrders.{label_fails, label_decides, label_goes, keys_none, keys_counted}
use Rattle.record_parts.proofs.order_lent.order_lent_label.Goals as goal

pub returns-in_default : goal.returns-in_default
returns-in_default c = label_fails (drop c.args.at c.args.bytes.now) c.args.bytes.now (named c.args.name c.args.keys.now) c.in_default.ensures

pub returns-then-is_ne : goal.returns-then-is_ne
returns-then-is_ne c =
    label_decides (drop c.args.at c.args.bytes.now) c.args.bytes.now (named c.args.name c.args.keys.now) c.in-Some.order c.in-Some.at (sym c.is_ne.ensures ∙ c.if-is_ne.true) c.in-Some.ensures

pub returns-in_default-take_u32 : goal.returns-in_default-take_u32
returns-in_default-take_u32 c =
    let us = map lent_val_view c.args.keys.now in
    label_goes (drop c.args.at c.args.bytes.now) c.args.bytes.now (named c.args.name c.args.keys.now) us c.in-Some.order c.in-Some.at None refl (sym c.is_ne.ensures ∙ c.if-is_ne.false) c.in-Some.ensures
    (keys_none (drop c.in-Some.at c.args.bytes.now) c.args.bytes.now us c.in_default-take_u32.ensures.found)

pub returns : goal.returns
returns c =
    let us = map lent_val_view c.args.keys.now in
    label_goes (drop c.args.at c.args.bytes.now) c.args.bytes.now (named c.args.name c.args.keys.now) us c.in-Some.order c.in-Some.at c.order_lent_keys.result refl (sym c.is_ne.ensures ∙ c.if-is_ne.false) c.in-Some.ensures
    (keys_counted c.in-Some-take_u32.count (drop c.in-Some.at c.args.bytes.now) (drop c.in-Some-take_u32.at c.args.bytes.now) c.args.bytes.now us c.order_lent_keys.result c.in-Some-take_u32.ensures.found c.order_lent_keys.ensures)
