use Rattle.std.proofs.Common.{◌≡◌, rules, ◌∷◌, [], ◌-◌, map, drop, None, refl, sym, ap, subst, ◌∙◌, arith}
use Rattle.std.specs.Cow.{cow_str_bytes}
use Rattle.std.proofs.lemmas.Grind.{common_steps}
use Rattle.std.specs.declared.cmp.Ordering.TheVariants.{Less, Equal}
use Rattle.jsonml_tree.specs.Data.{content, element, no_trees, only_text, tree, trees_of}
use Rattle.jsonml_tree.specs.LentAttrs.{lent_attr_view}
use Rattle.jsonml_tree.specs.LentView.{lent_content_view, lent_items_view, lent_row_view, lent_tree_view}
use Rattle.jsonml_tree.specs.Order.{content_cmp, tree_cmp}
use Rattle.jsonml_tree.proofs.LentTrees.{lent_row_view-is, lent_tree_view-Text}
use Rattle.xa_fields.specs.Reading.{many_at}
use Rattle.record_parts.specs.Compares.{Compares}
use Rattle.record_parts.specs.Reading.{content_at, item_at, item_of, content_below}
use Rattle.record_parts.proofs.Leads.{goes_on, decided, longer, failed, ends, view_none, view_first, not_equal, is_equal, leads_at}
use Rattle.record_parts.proofs.ContentOrders.{content_fails, content_decides, content_goes, items_none, items_counted, below_none, below_goes, no_kind_byte, of_kind, of_no_kind, element_fails, element_text, element_decides, element_goes, lent_text_seen, lent_leaf_seen, lent_element_seen}
use Rattle.record_parts.proofs.order_lent.+order.Goals as goal

-- ---- contents

pub order_lent_content-returns-in-Text : goal.order_lent_content-returns-in-Text
order_lent_content-returns-in-Text t c =
    let seen : content [] (lent_items_view c.from_ref.result.now) ≡ lent_content_view c.args.other = ap (λ xs. content [] (lent_items_view xs)) c.from_ref.ensures.value ∙ ap (λ u. content [] (tree u no_trees)) (lent_tree_view-Text _) ∙ sym (ap lent_content_view c.in-Text.is) in
    subst (λ x. Compares (λ y. content_cmp y x) (content_at c.args.depth (drop c.args.at c.args.bytes.now)) c.args.bytes.now c.order_lent_row.result) seen c.order_lent_row.ensures

pub order_lent_content-returns-in-Row : goal.order_lent_content-returns-in-Row
order_lent_content-returns-in-Row t c =
    let shown : content (map lent_attr_view c.deref.result.now) (lent_items_view c.deref-in-Row.result.now) ≡ lent_content_view c.args.other = (λ j. content (map lent_attr_view (c.deref.ensures.value j)) (lent_items_view (c.deref-in-Row.ensures.value j))) ∙ sym (lent_row_view-is c.in-Row.row.now) ∙ sym (ap lent_content_view c.in-Row.is) in
    subst (λ x. Compares (λ y. content_cmp y x) (content_at c.args.depth (drop c.args.at c.args.bytes.now)) c.args.bytes.now c.order_lent_row-in-Row.result) shown c.order_lent_row-in-Row.ensures

pub order_lent_row-returns-in_default : goal.order_lent_row-returns-in_default
order_lent_row-returns-in_default t c =
    let ys = map lent_attr_view c.args.attrs.now in
    let us = map lent_tree_view c.args.items.now in
    content_fails c.args.depth c.args.at c.args.bytes.now (content ys (trees_of us)) ys us refl c.in_default.ensures

pub order_lent_row-returns-then-is_ne : goal.order_lent_row-returns-then-is_ne
order_lent_row-returns-then-is_ne t c =
    let ys = map lent_attr_view c.args.attrs.now in
    let us = map lent_tree_view c.args.items.now in
    content_decides c.args.depth c.args.at c.args.bytes.now (content ys (trees_of us)) ys us c.in-Some.order c.in-Some.at refl (sym c.is_ne.ensures ∙ c.if-is_ne.true) c.in-Some.ensures

pub order_lent_row-returns-in_default-take_u32 : goal.order_lent_row-returns-in_default-take_u32
order_lent_row-returns-in_default-take_u32 t c =
    let ys = map lent_attr_view c.args.attrs.now in
    let us = map lent_tree_view c.args.items.now in
    content_goes c.args.depth c.args.at c.args.bytes.now (content ys (trees_of us)) ys us c.in-Some.order c.in-Some.at None refl (sym c.is_ne.ensures ∙ c.if-is_ne.false) c.in-Some.ensures
    (items_none c.args.depth (drop c.in-Some.at c.args.bytes.now) c.args.bytes.now us c.in_default-take_u32.ensures.found)

pub order_lent_row-returns : goal.order_lent_row-returns
order_lent_row-returns t c =
    let ys = map lent_attr_view c.args.attrs.now in
    let us = map lent_tree_view c.args.items.now in
    content_goes c.args.depth c.args.at c.args.bytes.now (content ys (trees_of us)) ys us c.in-Some.order c.in-Some.at c.order_lent_items.result refl (sym c.is_ne.ensures ∙ c.if-is_ne.false) c.in-Some.ensures
    (items_counted c.args.depth c.in-Some-take_u32.count (drop c.in-Some.at c.args.bytes.now) (drop c.in-Some-take_u32.at c.args.bytes.now) c.args.bytes.now us c.order_lent_items.result c.in-Some-take_u32.ensures.found c.order_lent_items.ensures)

pub order_lent_below-returns-then-depth-eq0 : goal.order_lent_below-returns-then-depth-eq0
order_lent_below-returns-then-depth-eq0 t c = below_none c.args.depth (drop c.args.at c.args.bytes.now) c.args.bytes.now (lent_content_view c.args.other) c.if-depth-eq0.true

pub order_lent_below-returns : goal.order_lent_below-returns
order_lent_below-returns t c = below_goes c.args.depth (drop c.args.at c.args.bytes.now) c.args.bytes.now (lent_content_view c.args.other) c.order_lent_content.result (omega arith) c.order_lent_content.ensures

-- ---- items

pub order_lent_item-returns-in_default : goal.order_lent_item-returns-in_default
order_lent_item-returns-in_default t c = no_kind_byte c.args.depth (drop c.args.at c.args.bytes.now) c.args.bytes.now (lent_tree_view c.args.other.now) c.in_default.ensures.found

pub order_lent_item-returns-in-0 : goal.order_lent_item-returns-in-0
order_lent_item-returns-in-0 t c = of_kind c.args.depth 0 (drop c.args.at c.args.bytes.now) (drop c.in-Some.at c.args.bytes.now) c.args.bytes.now (lent_tree_view c.args.other.now) c.order_lent_text_item.result (search rules) (c.order_lent_text_item.ensures (content_below c.args.depth))

pub order_lent_item-returns-in-1 : goal.order_lent_item-returns-in-1
order_lent_item-returns-in-1 t c = of_kind c.args.depth 1 (drop c.args.at c.args.bytes.now) (drop c.in-Some.at c.args.bytes.now) c.args.bytes.now (lent_tree_view c.args.other.now) c.order_lent_element.result (search rules) c.order_lent_element.ensures

pub order_lent_item-returns-in_default-kind : goal.order_lent_item-returns-in_default-kind
order_lent_item-returns-in_default-kind t c =
    of_kind c.args.depth c.in-Some.kind (drop c.args.at c.args.bytes.now) (drop c.in-Some.at c.args.bytes.now) c.args.bytes.now (lent_tree_view c.args.other.now) None c.in-Some.ensures.found
    (of_no_kind c.args.depth c.in-Some.kind (drop c.in-Some.at c.args.bytes.now) c.args.bytes.now (lent_tree_view c.args.other.now) (search rules) (search rules))

-- ---- elements

pub order_lent_element-returns-in-Text : goal.order_lent_element-returns-in-Text
order_lent_element-returns-in-Text t c =
    let u = c.in-Text.field-0 in
    element_text c.args.depth (drop c.args.at c.args.bytes.now) c.args.bytes.now c.args.at (lent_tree_view c.args.other.now) (cow_str_bytes u) (lent_text_seen c.args.other.now u c.in-Text.is)

pub order_lent_inside-returns-in_default : goal.order_lent_inside-returns-in_default
order_lent_inside-returns-in_default t c =
    let u = c.args.tag.now in
    let d = lent_content_view c.args.content in
    element_fails c.args.depth (drop c.args.at c.args.bytes.now) c.args.bytes.now (element u d) u d refl c.in_default.ensures

pub order_lent_inside-returns-then-is_ne : goal.order_lent_inside-returns-then-is_ne
order_lent_inside-returns-then-is_ne t c =
    let u = c.args.tag.now in
    let d = lent_content_view c.args.content in
    element_decides c.args.depth (drop c.args.at c.args.bytes.now) c.args.bytes.now c.in-Some.at (element u d) u d c.in-Some.order refl (sym c.is_ne.ensures ∙ c.if-is_ne.true) c.in-Some.ensures

pub order_lent_inside-returns : goal.order_lent_inside-returns
order_lent_inside-returns t c =
    let u = c.args.tag.now in
    let d = lent_content_view c.args.content in
    element_goes c.args.depth (drop c.args.at c.args.bytes.now) c.args.bytes.now c.in-Some.at (element u d) u d c.in-Some.order c.order_lent_below.result refl (sym c.is_ne.ensures ∙ c.if-is_ne.false) c.in-Some.ensures c.order_lent_below.ensures

pub order_lent_element-returns-in-Leaf : goal.order_lent_element-returns-in-Leaf
order_lent_element-returns-in-Leaf t c =
    let i = c.in-Leaf in
    subst (λ x. Compares (λ y. tree_cmp y x) (item_of (content_below c.args.depth) 1 (drop c.args.at c.args.bytes.now)) c.args.bytes.now c.order_lent_inside.result)
    ((λ j. element (c.as_str-in-Leaf.ensures.value j) (only_text (c.as_str.ensures.value j))) ∙ lent_leaf_seen c.args.other.now i.tag i.text i.is) c.order_lent_inside.ensures

pub order_lent_element-returns-in-Elem : goal.order_lent_element-returns-in-Elem
order_lent_element-returns-in-Elem t c =
    let i = c.in-Elem in
    subst (λ x. Compares (λ y. tree_cmp y x) (item_of (content_below c.args.depth) 1 (drop c.args.at c.args.bytes.now)) c.args.bytes.now c.order_lent_inside-in-Elem.result)
    ((λ j. element (c.as_str-in-Elem.ensures.value j) (lent_row_view i.row)) ∙ lent_element_seen c.args.other.now i.tag i.row i.is) c.order_lent_inside-in-Elem.ensures

-- ---- rows of items

pub order_lent_items-returns-in_default : goal.order_lent_items-returns-in_default
order_lent_items-returns-in_default t c =
    longer tree_cmp (item_at c.args.depth) c.args.count c.loop.counter c.loop.at (drop c.loop.at c.args.bytes.now) c.args.bytes.now (many_at (item_at c.args.depth) c.args.count (drop c.args.at c.args.bytes.now)) (map lent_tree_view c.args.others.now) c.loop-test.true
    (leads_at tree_cmp (many_at (item_at c.args.depth) c.args.count (drop c.args.at c.args.bytes.now)) (map lent_tree_view c.args.others.now) (map lent_tree_view c.loop.rest.rest.now) [] (many_at (item_at c.args.depth) (c.args.count - c.loop.counter) (drop c.loop.at c.args.bytes.now)) (view_none lent_tree_view c.loop.rest.rest.now c.in_default.ensures.steps.0) c.loop.invariant.leads)

pub order_lent_items-returns-in_default-order_lent_item : goal.order_lent_items-returns-in_default-order_lent_item
order_lent_items-returns-in_default-order_lent_item t c =
    failed tree_cmp (item_at c.args.depth) c.args.count c.loop.counter (drop c.loop.at c.args.bytes.now) c.args.bytes.now (many_at (item_at c.args.depth) c.args.count (drop c.args.at c.args.bytes.now)) (map lent_tree_view c.args.others.now) (map lent_tree_view c.next.new.self.rest.now) (lent_tree_view c.in-Some.other.now) c.loop-test.true c.in_default-order_lent_item.ensures
    (leads_at tree_cmp (many_at (item_at c.args.depth) c.args.count (drop c.args.at c.args.bytes.now)) (map lent_tree_view c.args.others.now) (map lent_tree_view c.loop.rest.rest.now) (lent_tree_view c.in-Some.other.now ∷ map lent_tree_view c.next.new.self.rest.now) (many_at (item_at c.args.depth) (c.args.count - c.loop.counter) (drop c.loop.at c.args.bytes.now)) (view_first lent_tree_view c.loop.rest.rest.now c.next.new.self.rest.now c.in-Some.other.now c.in-Some.ensures.steps) c.loop.invariant.leads)

pub order_lent_items-returns-then-is_ne : goal.order_lent_items-returns-then-is_ne
order_lent_items-returns-then-is_ne t c =
    decided tree_cmp (item_at c.args.depth) c.args.count c.loop.counter c.in-Some-order_lent_item.next c.in-Some-order_lent_item.next (drop c.loop.at c.args.bytes.now) c.args.bytes.now (many_at (item_at c.args.depth) c.args.count (drop c.args.at c.args.bytes.now)) (map lent_tree_view c.args.others.now) (map lent_tree_view c.next.new.self.rest.now) (lent_tree_view c.in-Some.other.now) c.in-Some-order_lent_item.order c.loop-test.true
    (not_equal c.in-Some-order_lent_item.order (sym c.is_ne.ensures ∙ c.if-is_ne.true)) c.in-Some-order_lent_item.ensures
    (leads_at tree_cmp (many_at (item_at c.args.depth) c.args.count (drop c.args.at c.args.bytes.now)) (map lent_tree_view c.args.others.now) (map lent_tree_view c.loop.rest.rest.now) (lent_tree_view c.in-Some.other.now ∷ map lent_tree_view c.next.new.self.rest.now) (many_at (item_at c.args.depth) (c.args.count - c.loop.counter) (drop c.loop.at c.args.bytes.now)) (view_first lent_tree_view c.loop.rest.rest.now c.next.new.self.rest.now c.in-Some.other.now c.in-Some.ensures.steps) c.loop.invariant.leads)

pub order_lent_items-loop-preserved : goal.order_lent_items-loop-preserved
order_lent_items-loop-preserved t c =
    record {
      leads = goes_on tree_cmp (item_at c.args.depth) c.args.count c.loop.counter c.in-Some-order_lent_item.next (drop c.loop.at c.args.bytes.now) c.args.bytes.now (many_at (item_at c.args.depth) c.args.count (drop c.args.at c.args.bytes.now)) (map lent_tree_view c.args.others.now) (map lent_tree_view c.next.new.self.rest.now) (lent_tree_view c.in-Some.other.now) c.in-Some-order_lent_item.order c.loop-test.true
          (is_equal c.in-Some-order_lent_item.order (sym c.is_ne.ensures ∙ c.if-is_ne.false)) c.in-Some-order_lent_item.ensures
          (leads_at tree_cmp (many_at (item_at c.args.depth) c.args.count (drop c.args.at c.args.bytes.now)) (map lent_tree_view c.args.others.now) (map lent_tree_view c.loop.rest.rest.now) (lent_tree_view c.in-Some.other.now ∷ map lent_tree_view c.next.new.self.rest.now) (many_at (item_at c.args.depth) (c.args.count - c.loop.counter) (drop c.loop.at c.args.bytes.now)) (view_first lent_tree_view c.loop.rest.rest.now c.next.new.self.rest.now c.in-Some.other.now c.in-Some.ensures.steps) c.loop.invariant.leads);
    }

pub order_lent_items-returns-then-is_some : goal.order_lent_items-returns-then-is_some
order_lent_items-returns-then-is_some t c = ends tree_cmp (item_at c.args.depth) c.args.count c.loop.counter c.loop.at c.args.bytes.now (many_at (item_at c.args.depth) c.args.count (drop c.args.at c.args.bytes.now)) (map lent_tree_view c.args.others.now) (map lent_tree_view c.loop.rest.rest.now) Less c.loop-test.false (grind (arith, common_steps)) c.loop.invariant.leads

pub order_lent_items-returns : goal.order_lent_items-returns
order_lent_items-returns t c = ends tree_cmp (item_at c.args.depth) c.args.count c.loop.counter c.loop.at c.args.bytes.now (many_at (item_at c.args.depth) c.args.count (drop c.args.at c.args.bytes.now)) (map lent_tree_view c.args.others.now) (map lent_tree_view c.loop.rest.rest.now) Equal c.loop-test.false (grind (arith, common_steps)) c.loop.invariant.leads
