use Rattle.std.proofs.Common.{drop, ap, ◌∙◌}
use Rattle.jsonml_tree.specs.Order.{text_cmp}
use Rattle.record_parts.proofs.TextOrders.{text_compared, no_text_there}
use Rattle.record_parts.proofs.order_scalars.order_text.Goals as goal

pub returns-in-Some : goal.returns-in-Some
returns-in-Some c =
    text_compared (drop c.args.at c.args.bytes.now) c.args.bytes.now c.in-Some.text.now c.args.other.now c.cmp.result c.in-Some.next c.in-Some.ensures
    (c.cmp.ensures ∙ ap (text_cmp c.in-Some.text.now) c.as_bytes.ensures.value)

pub returns-in-None : goal.returns-in-None
returns-in-None c = no_text_there (drop c.args.at c.args.bytes.now) c.args.bytes.now c.args.other.now c.in-None.ensures
