use Rattle.std.proofs.Common.{drop, subst}
use Rattle.std.specs.Cow.{cow_str_bytes}
use Rattle.jsonml_tree.specs.Data.{only_text}
use Rattle.jsonml_tree.specs.LentView.{lent_row_view, lent_tree_view}
use Rattle.jsonml_tree.specs.Order.{text_cmp}
use Rattle.xa_fields.specs.Reading.{text_at}
use Rattle.record_parts.specs.Compares.{Compares}
use Rattle.record_parts.proofs.ContentOrders.{text_text, text_element, lent_text_seen, lent_leaf_seen, lent_element_seen}
use Rattle.record_parts.proofs.order_lent.order_lent_text_item.Goals as goal

pub returns-in-Text : goal.returns-in-Text
returns-in-Text c = λ inner.
    let u = c.in-Text.other in
    text_text inner (drop c.args.at c.args.bytes.now) c.args.bytes.now (lent_tree_view c.args.other.now) (cow_str_bytes u) c.order_text.result (lent_text_seen c.args.other.now u c.in-Text.is)
    (subst (λ u. Compares (λ s. text_cmp s u) (text_at (drop c.args.at c.args.bytes.now)) c.args.bytes.now c.order_text.result) c.as_str.ensures.value c.order_text.ensures)

pub returns-in-Leaf : goal.returns-in-Leaf
returns-in-Leaf c = λ inner.
    let e = c.in-Leaf in
    text_element inner (drop c.args.at c.args.bytes.now) c.args.bytes.now c.args.at (lent_tree_view c.args.other.now) (cow_str_bytes e.tag) (only_text (cow_str_bytes e.text)) (lent_leaf_seen c.args.other.now e.tag e.text e.is)

pub returns-in-Elem : goal.returns-in-Elem
returns-in-Elem c = λ inner.
    let e = c.in-Elem in
    text_element inner (drop c.args.at c.args.bytes.now) c.args.bytes.now c.args.at (lent_tree_view c.args.other.now) (cow_str_bytes e.tag) (lent_row_view e.row) (lent_element_seen c.args.other.now e.tag e.row e.is)
