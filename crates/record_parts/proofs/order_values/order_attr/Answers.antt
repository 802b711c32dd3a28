use Rattle.std.proofs.Common.{drop, sym, ◌∙◌}
use Rattle.jsonml_tree.specs.LentAttrs.{lent_scalar_view}
use Rattle.record_parts.proofs.TextOrders.{attr_fails, attr_decides, attr_goes}
use Rattle.record_parts.proofs.order_values.order_attr.Goals as goal

pub returns-in_default : goal.returns-in_default
returns-in_default c = attr_fails (drop c.args.at c.args.bytes.now) c.args.bytes.now (record { name = c.args.name.now; value = lent_scalar_view c.args.value }) c.in_default.ensures

pub returns-then-is_ne : goal.returns-then-is_ne
returns-then-is_ne c =
    attr_decides (drop c.args.at c.args.bytes.now) c.args.bytes.now (record { name = c.args.name.now; value = lent_scalar_view c.args.value }) c.in-Some.order c.in-Some.at (sym c.is_ne.ensures ∙ c.if-is_ne.true) c.in-Some.ensures

pub returns : goal.returns
returns c =
    attr_goes (drop c.args.at c.args.bytes.now) c.args.bytes.now (record { name = c.args.name.now; value = lent_scalar_view c.args.value }) c.in-Some.order c.in-Some.at c.order_scalar.result (sym c.is_ne.ensures ∙ c.if-is_ne.false) c.in-Some.ensures c.order_scalar.ensures
