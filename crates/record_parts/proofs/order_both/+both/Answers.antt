use Rattle.std.proofs.Common.{◌≡◌, rules, drop, Some, None, sym, subst, ◌∙◌, arith}
use Rattle.std.specs.Cmp.Lexicographic.{slice_cmp}
use Rattle.std.specs.declared.cmp.Ordering.TheVariants.{Less, Greater}
use Rattle.jsonml_tree.specs.Data.{element}
use Rattle.jsonml_tree.specs.Order.{text_cmp, attr_cmp, tree_cmp, content_cmp}
use Rattle.xa_fields.specs.Reading.{byte_at, text_at, many_at, list_at}
use Rattle.record_parts.specs.Reading.{attrs_at, content_at, content_below, item_at, item_of}
use Rattle.record_parts.proofs.Both.{no_ours, no_theirs, below, both_first_fails, both_first_decides, both_second_decides, both_failed, both_decided, both_go_on, both_ended}
use Rattle.record_parts.proofs.BothOrders.{a_content, content_halves, element_halves, both_rows, no_row, no_other_row, both_below_none, both_below_goes, both_item_kinds, both_text_items, both_text_element, both_element_text, both_no_item, both_no_other_item}
use Rattle.record_parts.proofs.Compared.{item_none}
use Rattle.record_parts.proofs.order_both.+both.Goals as goal

-- ---- contents

pub both_content-returns-in_default : goal.both_content-returns-in_default
both_content-returns-in_default t c = both_first_fails (content_at c.args.depth (drop c.args.at c.args.ours.now)) (content_at c.args.depth (drop c.args.there c.args.theirs.now)) (attrs_at (drop c.args.at c.args.ours.now)) (attrs_at (drop c.args.there c.args.theirs.now)) (list_at (item_at c.args.depth)) a_content content_cmp (slice_cmp attr_cmp) (slice_cmp tree_cmp) c.args.ours.now c.args.theirs.now (content_halves (item_at c.args.depth) (drop c.args.at c.args.ours.now) (drop c.args.there c.args.theirs.now)) c.in_default.ensures

pub both_content-returns-then-is_ne : goal.both_content-returns-then-is_ne
both_content-returns-then-is_ne t c = both_first_decides (content_at c.args.depth (drop c.args.at c.args.ours.now)) (content_at c.args.depth (drop c.args.there c.args.theirs.now)) (attrs_at (drop c.args.at c.args.ours.now)) (attrs_at (drop c.args.there c.args.theirs.now)) (list_at (item_at c.args.depth)) a_content content_cmp (slice_cmp attr_cmp) (slice_cmp tree_cmp) c.args.ours.now c.args.theirs.now c.in-Some.order c.in-Some.at c.in-Some.there (content_halves (item_at c.args.depth) (drop c.args.at c.args.ours.now) (drop c.args.there c.args.theirs.now)) (sym c.is_ne.ensures ∙ c.if-is_ne.true) c.in-Some.ensures

pub both_content-returns-in_default-take_u32 : goal.both_content-returns-in_default-take_u32
both_content-returns-in_default-take_u32 t c =
    both_second_decides (content_at c.args.depth (drop c.args.at c.args.ours.now)) (content_at c.args.depth (drop c.args.there c.args.theirs.now)) (attrs_at (drop c.args.at c.args.ours.now)) (attrs_at (drop c.args.there c.args.theirs.now)) (list_at (item_at c.args.depth)) a_content content_cmp (slice_cmp attr_cmp) (slice_cmp tree_cmp) c.args.ours.now c.args.theirs.now c.in-Some.order c.in-Some.at c.in-Some.there None (content_halves (item_at c.args.depth) (drop c.args.at c.args.ours.now) (drop c.args.there c.args.theirs.now)) (sym c.is_ne.ensures ∙ c.if-is_ne.false) c.in-Some.ensures
    (no_row (item_at c.args.depth) tree_cmp (drop c.in-Some.at c.args.ours.now) (drop c.in-Some.there c.args.theirs.now) c.args.ours.now c.args.theirs.now c.in_default-take_u32.ensures.found)

pub both_content-returns-in_default-take_u32-2 : goal.both_content-returns-in_default-take_u32-2
both_content-returns-in_default-take_u32-2 t c =
    both_second_decides (content_at c.args.depth (drop c.args.at c.args.ours.now)) (content_at c.args.depth (drop c.args.there c.args.theirs.now)) (attrs_at (drop c.args.at c.args.ours.now)) (attrs_at (drop c.args.there c.args.theirs.now)) (list_at (item_at c.args.depth)) a_content content_cmp (slice_cmp attr_cmp) (slice_cmp tree_cmp) c.args.ours.now c.args.theirs.now c.in-Some.order c.in-Some.at c.in-Some.there None (content_halves (item_at c.args.depth) (drop c.args.at c.args.ours.now) (drop c.args.there c.args.theirs.now)) (sym c.is_ne.ensures ∙ c.if-is_ne.false) c.in-Some.ensures
    (no_other_row (item_at c.args.depth) tree_cmp (drop c.in-Some.at c.args.ours.now) (drop c.in-Some.there c.args.theirs.now) c.args.ours.now c.args.theirs.now c.in_default-take_u32-2.ensures.found)

pub both_content-returns : goal.both_content-returns
both_content-returns t c =
    both_second_decides (content_at c.args.depth (drop c.args.at c.args.ours.now)) (content_at c.args.depth (drop c.args.there c.args.theirs.now)) (attrs_at (drop c.args.at c.args.ours.now)) (attrs_at (drop c.args.there c.args.theirs.now)) (list_at (item_at c.args.depth)) a_content content_cmp (slice_cmp attr_cmp) (slice_cmp tree_cmp) c.args.ours.now c.args.theirs.now c.in-Some.order c.in-Some.at c.in-Some.there c.both_items.result (content_halves (item_at c.args.depth) (drop c.args.at c.args.ours.now) (drop c.args.there c.args.theirs.now)) (sym c.is_ne.ensures ∙ c.if-is_ne.false) c.in-Some.ensures
    (both_rows (item_at c.args.depth) tree_cmp (drop c.in-Some.at c.args.ours.now) (drop c.in-Some.there c.args.theirs.now) (drop c.in-Some-take_u32.at c.args.ours.now) (drop c.in-Some-take_u32-2.there c.args.theirs.now) c.args.ours.now c.args.theirs.now c.in-Some-take_u32.count c.in-Some-take_u32-2.others c.both_items.result c.in-Some-take_u32.ensures.found c.in-Some-take_u32-2.ensures.found c.both_items.ensures)

pub both_content_below-returns-then-depth-eq0 : goal.both_content_below-returns-then-depth-eq0
both_content_below-returns-then-depth-eq0 t c = both_below_none c.args.depth (drop c.args.at c.args.ours.now) (drop c.args.there c.args.theirs.now) c.args.ours.now c.args.theirs.now c.if-depth-eq0.true

pub both_content_below-returns : goal.both_content_below-returns
both_content_below-returns t c = both_below_goes c.args.depth (drop c.args.at c.args.ours.now) (drop c.args.there c.args.theirs.now) c.args.ours.now c.args.theirs.now c.both_content.result (omega arith) c.both_content.ensures

-- ---- items

pub both_item-returns-in-0-eq0 : goal.both_item-returns-in-0-eq0
both_item-returns-in-0-eq0 t c =
    both_item_kinds c.args.depth 0 0 (drop c.args.at c.args.ours.now) (drop c.args.there c.args.theirs.now) (drop c.in-Some.at c.args.ours.now) (drop c.in-Some-take_u8.there c.args.theirs.now) c.args.ours.now c.args.theirs.now c.both_text.result
    (subst (λ k. Some (k, drop c.in-Some.at c.args.ours.now) ≡ byte_at (drop c.args.at c.args.ours.now)) c.in-0-eq0.is-0 c.in-Some.ensures.found) (subst (λ k. Some (k, drop c.in-Some-take_u8.there c.args.theirs.now) ≡ byte_at (drop c.args.there c.args.theirs.now)) c.in-0-eq0.is-1 c.in-Some-take_u8.ensures.found)
    (both_text_items (content_below c.args.depth) (drop c.in-Some.at c.args.ours.now) (drop c.in-Some-take_u8.there c.args.theirs.now) c.args.ours.now c.args.theirs.now c.both_text.result c.both_text.ensures)

pub both_item-returns-in-0-eq1 : goal.both_item-returns-in-0-eq1
both_item-returns-in-0-eq1 t c =
    both_item_kinds c.args.depth 0 1 (drop c.args.at c.args.ours.now) (drop c.args.there c.args.theirs.now) (drop c.in-Some.at c.args.ours.now) (drop c.in-Some-take_u8.there c.args.theirs.now) c.args.ours.now c.args.theirs.now (Some (Less, c.in-Some.at, c.in-Some-take_u8.there))
    (subst (λ k. Some (k, drop c.in-Some.at c.args.ours.now) ≡ byte_at (drop c.args.at c.args.ours.now)) c.in-0-eq1.is-0 c.in-Some.ensures.found) (subst (λ k. Some (k, drop c.in-Some-take_u8.there c.args.theirs.now) ≡ byte_at (drop c.args.there c.args.theirs.now)) c.in-0-eq1.is-1 c.in-Some-take_u8.ensures.found)
    (both_text_element (content_below c.args.depth) (drop c.in-Some.at c.args.ours.now) (drop c.in-Some-take_u8.there c.args.theirs.now) c.args.ours.now c.args.theirs.now c.in-Some.at c.in-Some-take_u8.there)

pub both_item-returns-in-1-eq0 : goal.both_item-returns-in-1-eq0
both_item-returns-in-1-eq0 t c =
    both_item_kinds c.args.depth 1 0 (drop c.args.at c.args.ours.now) (drop c.args.there c.args.theirs.now) (drop c.in-Some.at c.args.ours.now) (drop c.in-Some-take_u8.there c.args.theirs.now) c.args.ours.now c.args.theirs.now (Some (Greater, c.in-Some.at, c.in-Some-take_u8.there))
    (subst (λ k. Some (k, drop c.in-Some.at c.args.ours.now) ≡ byte_at (drop c.args.at c.args.ours.now)) c.in-1-eq0.is-0 c.in-Some.ensures.found) (subst (λ k. Some (k, drop c.in-Some-take_u8.there c.args.theirs.now) ≡ byte_at (drop c.args.there c.args.theirs.now)) c.in-1-eq0.is-1 c.in-Some-take_u8.ensures.found)
    (both_element_text (content_below c.args.depth) (drop c.in-Some.at c.args.ours.now) (drop c.in-Some-take_u8.there c.args.theirs.now) c.args.ours.now c.args.theirs.now c.in-Some.at c.in-Some-take_u8.there)

pub both_item-returns-in-1-eq1 : goal.both_item-returns-in-1-eq1
both_item-returns-in-1-eq1 t c =
    both_item_kinds c.args.depth 1 1 (drop c.args.at c.args.ours.now) (drop c.args.there c.args.theirs.now) (drop c.in-Some.at c.args.ours.now) (drop c.in-Some-take_u8.there c.args.theirs.now) c.args.ours.now c.args.theirs.now c.both_element.result
    (subst (λ k. Some (k, drop c.in-Some.at c.args.ours.now) ≡ byte_at (drop c.args.at c.args.ours.now)) c.in-1-eq1.is-0 c.in-Some.ensures.found) (subst (λ k. Some (k, drop c.in-Some-take_u8.there c.args.theirs.now) ≡ byte_at (drop c.args.there c.args.theirs.now)) c.in-1-eq1.is-1 c.in-Some-take_u8.ensures.found)
    c.both_element.ensures

pub both_item-returns-in_default : goal.both_item-returns-in_default
both_item-returns-in_default t c = no_ours tree_cmp (item_at c.args.depth (drop c.args.at c.args.ours.now)) (item_at c.args.depth (drop c.args.there c.args.theirs.now)) c.args.ours.now c.args.theirs.now (item_none c.args.depth (drop c.args.at c.args.ours.now) c.in_default.ensures.found)

pub both_item-returns-in_default-take_u8 : goal.both_item-returns-in_default-take_u8
both_item-returns-in_default-take_u8 t c = no_theirs tree_cmp (item_at c.args.depth (drop c.args.at c.args.ours.now)) (item_at c.args.depth (drop c.args.there c.args.theirs.now)) c.args.ours.now c.args.theirs.now None (item_none c.args.depth (drop c.args.there c.args.theirs.now) c.in_default-take_u8.ensures.found)

pub both_item-returns-in_default-2 : goal.both_item-returns-in_default-2
both_item-returns-in_default-2 t c = both_no_other_item c.args.depth c.in-Some-take_u8.other (drop c.args.at c.args.ours.now) (drop c.args.there c.args.theirs.now) (drop c.in-Some-take_u8.there c.args.theirs.now) c.args.ours.now c.args.theirs.now c.in-Some-take_u8.ensures.found (search rules) (search rules)

pub both_item-returns-in_default-2-2 : goal.both_item-returns-in_default-2-2
both_item-returns-in_default-2-2 t c = both_no_other_item c.args.depth c.in-Some-take_u8.other (drop c.args.at c.args.ours.now) (drop c.args.there c.args.theirs.now) (drop c.in-Some-take_u8.there c.args.theirs.now) c.args.ours.now c.args.theirs.now c.in-Some-take_u8.ensures.found (search rules) (search rules)

pub both_item-returns-in_default-2-3 : goal.both_item-returns-in_default-2-3
both_item-returns-in_default-2-3 t c = both_no_item c.args.depth c.in-Some.kind (drop c.args.at c.args.ours.now) (drop c.args.there c.args.theirs.now) (drop c.in-Some.at c.args.ours.now) c.args.ours.now c.args.theirs.now c.in-Some.ensures.found (search rules) (search rules)

-- ---- elements

pub both_element-returns-in_default : goal.both_element-returns-in_default
both_element-returns-in_default t c = both_first_fails (item_of (content_below c.args.depth) 1 (drop c.args.at c.args.ours.now)) (item_of (content_below c.args.depth) 1 (drop c.args.there c.args.theirs.now)) (text_at (drop c.args.at c.args.ours.now)) (text_at (drop c.args.there c.args.theirs.now)) (content_below c.args.depth) element tree_cmp text_cmp content_cmp c.args.ours.now c.args.theirs.now (element_halves (content_below c.args.depth) (drop c.args.at c.args.ours.now) (drop c.args.there c.args.theirs.now)) c.in_default.ensures

pub both_element-returns-then-is_ne : goal.both_element-returns-then-is_ne
both_element-returns-then-is_ne t c = both_first_decides (item_of (content_below c.args.depth) 1 (drop c.args.at c.args.ours.now)) (item_of (content_below c.args.depth) 1 (drop c.args.there c.args.theirs.now)) (text_at (drop c.args.at c.args.ours.now)) (text_at (drop c.args.there c.args.theirs.now)) (content_below c.args.depth) element tree_cmp text_cmp content_cmp c.args.ours.now c.args.theirs.now c.in-Some.order c.in-Some.at c.in-Some.there (element_halves (content_below c.args.depth) (drop c.args.at c.args.ours.now) (drop c.args.there c.args.theirs.now)) (sym c.is_ne.ensures ∙ c.if-is_ne.true) c.in-Some.ensures

pub both_element-returns : goal.both_element-returns
both_element-returns t c = both_second_decides (item_of (content_below c.args.depth) 1 (drop c.args.at c.args.ours.now)) (item_of (content_below c.args.depth) 1 (drop c.args.there c.args.theirs.now)) (text_at (drop c.args.at c.args.ours.now)) (text_at (drop c.args.there c.args.theirs.now)) (content_below c.args.depth) element tree_cmp text_cmp content_cmp c.args.ours.now c.args.theirs.now c.in-Some.order c.in-Some.at c.in-Some.there c.both_content_below.result (element_halves (content_below c.args.depth) (drop c.args.at c.args.ours.now) (drop c.args.there c.args.theirs.now)) (sym c.is_ne.ensures ∙ c.if-is_ne.false) c.in-Some.ensures c.both_content_below.ensures

-- ---- rows of items

pub both_items-returns-in_default : goal.both_items-returns-in_default
both_items-returns-in_default t c =
    both_failed tree_cmp (item_at c.args.depth) c.args.count c.args.others c.loop.counter (drop c.loop.at c.args.ours.now) (drop c.loop.there c.args.theirs.now) c.args.ours.now c.args.theirs.now (many_at (item_at c.args.depth) c.args.count (drop c.args.at c.args.ours.now)) (many_at (item_at c.args.depth) c.args.others (drop c.args.there c.args.theirs.now)) (below c.args.count c.args.others c.min-shorter.result c.loop.counter c.min-shorter.ensures c.loop-test.true).0 (below c.args.count c.args.others c.min-shorter.result c.loop.counter c.min-shorter.ensures c.loop-test.true).1 c.in_default.ensures c.loop.invariant.lead

pub both_items-returns-then-is_ne : goal.both_items-returns-then-is_ne
both_items-returns-then-is_ne t c =
    both_decided tree_cmp (item_at c.args.depth) c.args.count c.args.others c.loop.counter c.in-Some.next c.in-Some.behind (drop c.loop.at c.args.ours.now) (drop c.loop.there c.args.theirs.now) c.args.ours.now c.args.theirs.now (many_at (item_at c.args.depth) c.args.count (drop c.args.at c.args.ours.now)) (many_at (item_at c.args.depth) c.args.others (drop c.args.there c.args.theirs.now)) c.in-Some.order (below c.args.count c.args.others c.min-shorter.result c.loop.counter c.min-shorter.ensures c.loop-test.true).0 (below c.args.count c.args.others c.min-shorter.result c.loop.counter c.min-shorter.ensures c.loop-test.true).1 (sym c.is_ne.ensures ∙ c.if-is_ne.true) c.in-Some.ensures c.loop.invariant.lead

pub both_items-loop-preserved : goal.both_items-loop-preserved
both_items-loop-preserved t c =
    record {
      within = omega (arith, c.loop-test.true);
      lead = both_go_on tree_cmp (item_at c.args.depth) c.args.count c.args.others c.loop.counter c.in-Some.next c.in-Some.behind (drop c.loop.at c.args.ours.now) (drop c.loop.there c.args.theirs.now) c.args.ours.now c.args.theirs.now (many_at (item_at c.args.depth) c.args.count (drop c.args.at c.args.ours.now)) (many_at (item_at c.args.depth) c.args.others (drop c.args.there c.args.theirs.now)) c.in-Some.order (below c.args.count c.args.others c.min-shorter.result c.loop.counter c.min-shorter.ensures c.loop-test.true).0 (below c.args.count c.args.others c.min-shorter.result c.loop.counter c.min-shorter.ensures c.loop-test.true).1 (sym c.is_ne.ensures ∙ c.if-is_ne.false) c.in-Some.ensures c.loop.invariant.lead;
    }

pub both_items-returns : goal.both_items-returns
both_items-returns t c = both_ended tree_cmp (item_at c.args.depth) c.args.count c.args.others c.min-shorter.result c.loop.counter c.loop.at c.loop.there c.args.ours.now c.args.theirs.now (many_at (item_at c.args.depth) c.args.count (drop c.args.at c.args.ours.now)) (many_at (item_at c.args.depth) c.args.others (drop c.args.there c.args.theirs.now)) c.cmp.result c.min-shorter.ensures c.loop-test.false c.loop.invariant.within c.cmp.ensures c.loop.invariant.lead
