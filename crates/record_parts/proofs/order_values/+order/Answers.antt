use Rattle.std.proofs.Common.{rules, ◌∷◌, [], ◌-◌, map, drop, Some, None, string_bytes, refl, sym, subst, ◌∙◌, arith}
use Rattle.std.specs.declared.cmp.Ordering.TheVariants.{Less, Equal}
use Rattle.jsonml_tree.specs.Order.{text_cmp, tree_cmp}
use Rattle.jsonml_tree.specs.View.{attr_view, content_view, tree_view}
use Rattle.xa_fields.specs.Reading.{text_at, many_at}
use Rattle.record_parts.specs.Compares.{Compares}
use Rattle.record_parts.specs.Reading.{item_at, content_below}
use Rattle.record_parts.proofs.Leads.{goes_on, decided, longer, failed, ends, view_none, view_first, not_equal, is_equal, equal_end, less_end, leads_at}
use Rattle.record_parts.proofs.ContentOrders.{content_fails, content_decides, content_goes, items_none, items_counted, below_none, below_goes, no_kind_byte, of_kind, of_no_kind, element_fails, element_text, element_decides, element_goes, content_seen, text_seen, element_seen}
use Rattle.record_parts.proofs.order_values.+order.Goals as goal

-- ---- contents

pub order_content-returns-in_default : goal.order_content-returns-in_default
order_content-returns-in_default t c =
    let o = c.args.other.now in
    let xs = c.deref.result.now in
    let us = o.items.items in
    content_fails c.args.depth c.args.at c.args.bytes.now (content_view o) (map attr_view xs) (map tree_view us) (content_seen o xs us c.deref.ensures.value refl) c.in_default.ensures

pub order_content-returns-then-is_ne : goal.order_content-returns-then-is_ne
order_content-returns-then-is_ne t c =
    let o = c.args.other.now in
    let xs = c.deref.result.now in
    let us = o.items.items in
    content_decides c.args.depth c.args.at c.args.bytes.now (content_view o) (map attr_view xs) (map tree_view us) c.in-Some.order c.in-Some.at (content_seen o xs us c.deref.ensures.value refl) (sym c.is_ne.ensures ∙ c.if-is_ne.true) c.in-Some.ensures

pub order_content-returns-in_default-take_u32 : goal.order_content-returns-in_default-take_u32
order_content-returns-in_default-take_u32 t c =
    let o = c.args.other.now in
    let xs = c.deref.result.now in
    let us = o.items.items in
    content_goes c.args.depth c.args.at c.args.bytes.now (content_view o) (map attr_view xs) (map tree_view us) c.in-Some.order c.in-Some.at None (content_seen o xs us c.deref.ensures.value refl) (sym c.is_ne.ensures ∙ c.if-is_ne.false) c.in-Some.ensures
    (items_none c.args.depth (drop c.in-Some.at c.args.bytes.now) c.args.bytes.now (map tree_view us) c.in_default-take_u32.ensures.found)

pub order_content-returns : goal.order_content-returns
order_content-returns t c =
    let o = c.args.other.now in
    let xs = c.deref.result.now in
    let us = c.deref-2.result.now in
    content_goes c.args.depth c.args.at c.args.bytes.now (content_view o) (map attr_view xs) (map tree_view us) c.in-Some.order c.in-Some.at c.order_items.result (content_seen o xs us c.deref.ensures.value c.deref-2.ensures.value) (sym c.is_ne.ensures ∙ c.if-is_ne.false) c.in-Some.ensures
    (items_counted c.args.depth c.in-Some-take_u32.count (drop c.in-Some.at c.args.bytes.now) (drop c.in-Some-take_u32.at c.args.bytes.now) c.args.bytes.now (map tree_view us) c.order_items.result c.in-Some-take_u32.ensures.found c.order_items.ensures)

pub order_content_below-returns-then-depth-eq0 : goal.order_content_below-returns-then-depth-eq0
order_content_below-returns-then-depth-eq0 t c = below_none c.args.depth (drop c.args.at c.args.bytes.now) c.args.bytes.now (content_view c.args.other.now) c.if-depth-eq0.true

pub order_content_below-returns : goal.order_content_below-returns
order_content_below-returns t c = below_goes c.args.depth (drop c.args.at c.args.bytes.now) c.args.bytes.now (content_view c.args.other.now) c.order_content.result (omega arith) c.order_content.ensures

-- ---- items

pub order_item-returns-in_default : goal.order_item-returns-in_default
order_item-returns-in_default t c = no_kind_byte c.args.depth (drop c.args.at c.args.bytes.now) c.args.bytes.now (tree_view c.args.other.now) c.in_default.ensures.found

pub order_item-returns-in-0 : goal.order_item-returns-in-0
order_item-returns-in-0 t c = of_kind c.args.depth 0 (drop c.args.at c.args.bytes.now) (drop c.in-Some.at c.args.bytes.now) c.args.bytes.now (tree_view c.args.other.now) c.order_text_item.result (search rules) (c.order_text_item.ensures (content_below c.args.depth))

pub order_item-returns-in-1 : goal.order_item-returns-in-1
order_item-returns-in-1 t c = of_kind c.args.depth 1 (drop c.args.at c.args.bytes.now) (drop c.in-Some.at c.args.bytes.now) c.args.bytes.now (tree_view c.args.other.now) c.order_element.result (search rules) c.order_element.ensures

pub order_item-returns-in_default-kind : goal.order_item-returns-in_default-kind
order_item-returns-in_default-kind t c =
    of_kind c.args.depth c.in-Some.kind (drop c.args.at c.args.bytes.now) (drop c.in-Some.at c.args.bytes.now) c.args.bytes.now (tree_view c.args.other.now) None c.in-Some.ensures.found
    (of_no_kind c.args.depth c.in-Some.kind (drop c.in-Some.at c.args.bytes.now) c.args.bytes.now (tree_view c.args.other.now) (search rules) (search rules))

pub order_element-returns-in-Text : goal.order_element-returns-in-Text
order_element-returns-in-Text t c =
    let u = c.in-Text.field-0 in
    element_text c.args.depth (drop c.args.at c.args.bytes.now) c.args.bytes.now c.args.at (tree_view c.args.other.now) (string_bytes u) (text_seen c.args.other.now u c.in-Text.is)

pub order_element-returns-in_default : goal.order_element-returns-in_default
order_element-returns-in_default t c =
    let e = c.in-Elem in
    element_fails c.args.depth (drop c.args.at c.args.bytes.now) c.args.bytes.now (tree_view c.args.other.now) (string_bytes e.tag) (content_view e.content) (element_seen c.args.other.now e.tag e.content e.is)
    (subst (λ u. Compares (λ s. text_cmp s u) (text_at (drop c.args.at c.args.bytes.now)) c.args.bytes.now None) c.as_str.ensures.value c.in_default.ensures)

pub order_element-returns-then-is_ne : goal.order_element-returns-then-is_ne
order_element-returns-then-is_ne t c =
    let e = c.in-Elem in
    element_decides c.args.depth (drop c.args.at c.args.bytes.now) c.args.bytes.now c.in-Some.at (tree_view c.args.other.now) (string_bytes e.tag) (content_view e.content) c.in-Some.order (element_seen c.args.other.now e.tag e.content e.is) (sym c.is_ne.ensures ∙ c.if-is_ne.true)
    (subst (λ u. Compares (λ s. text_cmp s u) (text_at (drop c.args.at c.args.bytes.now)) c.args.bytes.now (Some (c.in-Some.order, c.in-Some.at))) c.as_str.ensures.value c.in-Some.ensures)

pub order_element-returns-else-is_ne : goal.order_element-returns-else-is_ne
order_element-returns-else-is_ne t c =
    let e = c.in-Elem in
    element_goes c.args.depth (drop c.args.at c.args.bytes.now) c.args.bytes.now c.in-Some.at (tree_view c.args.other.now) (string_bytes e.tag) (content_view e.content) c.in-Some.order c.order_content_below.result (element_seen c.args.other.now e.tag e.content e.is) (sym c.is_ne.ensures ∙ c.if-is_ne.false)
    (subst (λ u. Compares (λ s. text_cmp s u) (text_at (drop c.args.at c.args.bytes.now)) c.args.bytes.now (Some (c.in-Some.order, c.in-Some.at))) c.as_str.ensures.value c.in-Some.ensures)
    c.order_content_below.ensures

-- ---- rows of items

pub order_items-returns-in_default : goal.order_items-returns-in_default
order_items-returns-in_default t c =
    longer tree_cmp (item_at c.args.depth) c.args.count c.loop.counter c.loop.at (drop c.loop.at c.args.bytes.now) c.args.bytes.now (many_at (item_at c.args.depth) c.args.count (drop c.args.at c.args.bytes.now)) (map tree_view c.args.others.now) c.loop-test.true
    (leads_at tree_cmp (many_at (item_at c.args.depth) c.args.count (drop c.args.at c.args.bytes.now)) (map tree_view c.args.others.now) (map tree_view c.loop.rest.now) [] (many_at (item_at c.args.depth) (c.args.count - c.loop.counter) (drop c.loop.at c.args.bytes.now)) (view_none tree_view c.loop.rest.now c.in_default.ensures.cases) c.loop.invariant.leads)

pub order_items-returns-in_default-order_item : goal.order_items-returns-in_default-order_item
order_items-returns-in_default-order_item t c =
    failed tree_cmp (item_at c.args.depth) c.args.count c.loop.counter (drop c.loop.at c.args.bytes.now) c.args.bytes.now (many_at (item_at c.args.depth) c.args.count (drop c.args.at c.args.bytes.now)) (map tree_view c.args.others.now) (map tree_view c.in-Some.tail.now) (tree_view c.in-Some.other.now) c.loop-test.true c.in_default-order_item.ensures
    (leads_at tree_cmp (many_at (item_at c.args.depth) c.args.count (drop c.args.at c.args.bytes.now)) (map tree_view c.args.others.now) (map tree_view c.loop.rest.now) (tree_view c.in-Some.other.now ∷ map tree_view c.in-Some.tail.now) (many_at (item_at c.args.depth) (c.args.count - c.loop.counter) (drop c.loop.at c.args.bytes.now)) (view_first tree_view c.loop.rest.now c.in-Some.tail.now c.in-Some.other.now c.in-Some.ensures.cases.0) c.loop.invariant.leads)

pub order_items-returns-then-is_ne : goal.order_items-returns-then-is_ne
order_items-returns-then-is_ne t c =
    decided tree_cmp (item_at c.args.depth) c.args.count c.loop.counter c.in-Some-order_item.next c.in-Some-order_item.next (drop c.loop.at c.args.bytes.now) c.args.bytes.now (many_at (item_at c.args.depth) c.args.count (drop c.args.at c.args.bytes.now)) (map tree_view c.args.others.now) (map tree_view c.in-Some.tail.now) (tree_view c.in-Some.other.now) c.in-Some-order_item.order c.loop-test.true
    (not_equal c.in-Some-order_item.order (sym c.is_ne.ensures ∙ c.if-is_ne.true)) c.in-Some-order_item.ensures
    (leads_at tree_cmp (many_at (item_at c.args.depth) c.args.count (drop c.args.at c.args.bytes.now)) (map tree_view c.args.others.now) (map tree_view c.loop.rest.now) (tree_view c.in-Some.other.now ∷ map tree_view c.in-Some.tail.now) (many_at (item_at c.args.depth) (c.args.count - c.loop.counter) (drop c.loop.at c.args.bytes.now)) (view_first tree_view c.loop.rest.now c.in-Some.tail.now c.in-Some.other.now c.in-Some.ensures.cases.0) c.loop.invariant.leads)

pub order_items-loop-preserved : goal.order_items-loop-preserved
order_items-loop-preserved t c =
    record {
      leads = goes_on tree_cmp (item_at c.args.depth) c.args.count c.loop.counter c.in-Some-order_item.next (drop c.loop.at c.args.bytes.now) c.args.bytes.now (many_at (item_at c.args.depth) c.args.count (drop c.args.at c.args.bytes.now)) (map tree_view c.args.others.now) (map tree_view c.in-Some.tail.now) (tree_view c.in-Some.other.now) c.in-Some-order_item.order c.loop-test.true
          (is_equal c.in-Some-order_item.order (sym c.is_ne.ensures ∙ c.if-is_ne.false)) c.in-Some-order_item.ensures
          (leads_at tree_cmp (many_at (item_at c.args.depth) c.args.count (drop c.args.at c.args.bytes.now)) (map tree_view c.args.others.now) (map tree_view c.loop.rest.now) (tree_view c.in-Some.other.now ∷ map tree_view c.in-Some.tail.now) (many_at (item_at c.args.depth) (c.args.count - c.loop.counter) (drop c.loop.at c.args.bytes.now)) (view_first tree_view c.loop.rest.now c.in-Some.tail.now c.in-Some.other.now c.in-Some.ensures.cases.0) c.loop.invariant.leads);
    }

pub order_items-returns-then-is_empty : goal.order_items-returns-then-is_empty
order_items-returns-then-is_empty t c = ends tree_cmp (item_at c.args.depth) c.args.count c.loop.counter c.loop.at c.args.bytes.now (many_at (item_at c.args.depth) c.args.count (drop c.args.at c.args.bytes.now)) (map tree_view c.args.others.now) (map tree_view c.loop.rest.now) Equal c.loop-test.false (equal_end tree_cmp tree_view c.loop.rest.now (sym c.is_empty.ensures ∙ c.if-is_empty.true)) c.loop.invariant.leads

pub order_items-returns : goal.order_items-returns
order_items-returns t c = ends tree_cmp (item_at c.args.depth) c.args.count c.loop.counter c.loop.at c.args.bytes.now (many_at (item_at c.args.depth) c.args.count (drop c.args.at c.args.bytes.now)) (map tree_view c.args.others.now) (map tree_view c.loop.rest.now) Less c.loop-test.false (less_end tree_cmp tree_view c.loop.rest.now (sym c.is_empty.ensures ∙ c.if-is_empty.false)) c.loop.invariant.leads
