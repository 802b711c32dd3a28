use Rattle.std.proofs.Common.{drop, string_bytes, subst}
use Rattle.jsonml_tree.specs.Order.{text_cmp}
use Rattle.jsonml_tree.specs.View.{content_view, tree_view}
use Rattle.xa_fields.specs.Reading.{text_at}
use Rattle.record_parts.specs.Compares.{Compares}
use Rattle.record_parts.proofs.ContentOrders.{text_text, text_element, text_seen, element_seen}
use Rattle.record_parts.proofs.order_values.order_text_item.Goals as goal

pub returns-in-Text : goal.returns-in-Text
returns-in-Text c = λ inner.
    let u = c.in-Text.other in
    text_text inner (drop c.args.at c.args.bytes.now) c.args.bytes.now (tree_view c.args.other.now) (string_bytes u) c.order_text.result (text_seen c.args.other.now u c.in-Text.is)
    (subst (λ u. Compares (λ s. text_cmp s u) (text_at (drop c.args.at c.args.bytes.now)) c.args.bytes.now c.order_text.result) c.as_str.ensures.value c.order_text.ensures)

pub returns-in-Elem : goal.returns-in-Elem
returns-in-Elem c = λ inner.
    let e = c.in-Elem in
    text_element inner (drop c.args.at c.args.bytes.now) c.args.bytes.now c.args.at (tree_view c.args.other.now) (string_bytes e.tag) (content_view e.content) (element_seen c.args.other.now e.tag e.content e.is)
