use Rattle.std.proofs.Common.{◌≡◌, ◌-◌, ◌<◌, ◌≤◌, ◌^◌, rules, [], ◌∷◌, length, map, refl, sym, ap, ◌∙◌, arith}
use Rattle.std.proofs.lemmas.Grind.{common_steps}
use Rattle.std.specs.Cow.{cow_str_bytes}
use Rattle.jsonml_tree.specs.Data.{element, only_text, trees_of}
use Rattle.jsonml_tree.specs.LentAttrs.{lent_attr_view}
use Rattle.jsonml_tree.specs.LentView.{lent_items_view, lent_row_view, lent_tree_view}
use Rattle.jsonml_tree.proofs.LentTrees.{lent_tree_view-Text, lent_tree_view-Leaf, lent_tree_view-Elem}
use Rattle.xa_fields.specs.Spelling.{list_bytes, text_bytes}
use Rattle.record_parts.specs.Checks.{attrs_fit, content_fits, item_fits, items_fit, tag_fits, text_fits}
use Rattle.record_parts.specs.Spelling.{attr_bytes, item_bytes, items_bytes, content_bytes}
use Rattle.record_parts.proofs.Rows.{row_spells, row_long, row_unfit, element_spells, element_unfit, items_step, only_fits}
use Rattle.record_parts.proofs.Spelled.{refused, spelled_as, spelled_behind, all_refused}
use Rattle.record_parts.proofs.put_lent.+put.Goals as goal

-- ---- rows

pub put_row-returns-then-len-ge-FIELD : goal.put_row-returns-then-len-ge-FIELD
put_row-returns-then-len-ge-FIELD t c =
    let count : c.len.result ≡ length c.args.row.now.items.items = search rules in
    let many : 2 ^ 32 ≤ length c.args.row.now.items.items = omega (arith, count, c.if-len-ge-FIELD.true) in
    row_long c.args.depth c.args.row.now many

pub put_row-returns-in_err-put_attrs : goal.put_row-returns-in_err-put_attrs
put_row-returns-in_err-put_attrs t c =
    let xs = map lent_attr_view c.deref.result.now in
    let same : attrs_fit (map lent_attr_view c.args.row.now.attrs.items) ≡ attrs_fit xs = ap (λ zs. attrs_fit (map lent_attr_view zs)) (sym c.deref.ensures.value) in
    refused (attrs_fit xs) (content_fits c.args.depth (lent_row_view c.args.row.now)) c.args.out.now.items c.put_attrs.new.out.items (list_bytes attr_bytes xs) c.args.out.now.items _ (content_bytes (lent_row_view c.args.row.now)) c.from_residual.result c.in_err-put_attrs.field-0.0 c.from_residual.ensures.1
    (λ wrong. row_unfit c.args.depth c.args.row.now (same ∙ wrong)) c.in_err-put_attrs.ensures

pub put_row-returns : goal.put_row-returns
put_row-returns t c =
    let before : c.len.result ≡ length c.args.row.now.items.items = search rules in
    let count : c.len-2.result ≡ length c.args.row.now.items.items = search rules in
    let few : c.len-2.result < 2 ^ 32 = omega (arith, before, count, c.if-len-ge-FIELD.false) in
    row_spells c.args.depth c.args.row.now c.deref.result.now c.deref-2.result.now _ _ _ _ c.len-2.result c.put_items.result c.deref.ensures.value c.deref-2.ensures.value count few c.in_ok-put_attrs.ensures.0 c.in_ok-put_attrs.ensures.1 c.in_ok-append_u32.ensures.ok c.put_items.ensures

-- ---- items

pub put_items-loop-item-init : goal.put_items-loop-item-init
put_items-loop-item-init t c = record { fits = refl; wrote = refl }

pub put_items-returns-in_err-put_item : goal.put_items-returns-in_err-put_item
put_items-returns-in_err-put_item t c =
    refused (item_fits c.args.depth (lent_tree_view c.item-item.result)) (items_fit c.args.depth (lent_items_view c.args.items.now)) c.loop-item.out.items c.put_item.new.out.items (item_bytes (lent_tree_view c.item-item.result)) c.args.out.now.items _ (items_bytes (lent_items_view c.args.items.now)) c.from_residual.result c.in_err-put_item.field-0.0 c.from_residual.ensures.1
    (all_refused (item_fits c.args.depth) (λ ts. items_fit c.args.depth (trees_of ts)) lent_tree_view c.args.items.now c.loop-item.item-index c.item-item.result _ (items_step c.args.depth) c.loop-item-test.true c.item-item.is c.loop-item.invariant.fits) c.in_err-put_item.ensures

pub put_items-loop-item-preserved : goal.put_items-loop-item-preserved
put_items-loop-item-preserved t c = grind (arith, common_steps)

pub put_items-returns : goal.put_items-returns
put_items-returns t c = (grind (arith, common_steps), grind (arith, common_steps))

pub put_item-returns-in_ok-append_u8-in-Text : goal.put_item-returns-in_ok-append_u8-in-Text
put_item-returns-in_ok-append_u8-in-Text t c =
    let e : _ ≡ _ = ap lent_tree_view c.in-Text.is ∙ lent_tree_view-Text c.in-Text.text in
    let s = cow_str_bytes c.in-Text.text in
    rw e (spelled_behind (text_fits s) _ _ _ (0 ∷ []) (text_bytes s) c.put_short.result c.in_ok-append_u8-in-Text.ensures.ok (search rules))

pub put_item-returns-in_err-put_tag-in-Leaf : goal.put_item-returns-in_err-put_tag-in-Leaf
put_item-returns-in_err-put_tag-in-Leaf t c =
    let i = c.in-Leaf in
    let s = only_text (cow_str_bytes i.text) in
    let e = ap lent_tree_view i.is ∙ lent_tree_view-Leaf i.tag i.text in
    let tagged = ap (tag_fits c.args.depth) c.as_str-in-Leaf.ensures.value in
    refused (tag_fits c.args.depth c.as_str-in-Leaf.result.now) (item_fits c.args.depth (lent_tree_view c.args.item.now)) c.args.out.now.items c.put_tag.new.out.items (1 ∷ text_bytes c.as_str-in-Leaf.result.now) c.args.out.now.items _ (item_bytes (lent_tree_view c.args.item.now)) c.from_residual-in_err-put_tag-in-Leaf.result c.in_err-put_tag-in-Leaf.field-0.0 c.from_residual-in_err-put_tag-in-Leaf.ensures.1
    (λ wrong. ap (item_fits c.args.depth) e ∙ element_unfit c.args.depth (cow_str_bytes i.tag) s (sym tagged ∙ wrong)) c.in_err-put_tag-in-Leaf.ensures

pub put_item-returns-in_ok-put_tag-in-Leaf : goal.put_item-returns-in_ok-put_tag-in-Leaf
put_item-returns-in_ok-put_tag-in-Leaf t c =
    let i = c.in-Leaf in
    let u = c.as_str-in-Leaf.result.now in
    let s = c.as_str-in-Leaf-2.result.now in
    let e : element u (only_text s) ≡ lent_tree_view c.args.item.now = (λ j. element (c.as_str-in-Leaf.ensures.value j) (only_text (c.as_str-in-Leaf-2.ensures.value j))) ∙ sym (ap lent_tree_view i.is ∙ lent_tree_view-Leaf i.tag i.text) in
    let first = c.in_ok-put_tag-in-Leaf.ensures in
    spelled_as (item_fits c.args.depth (element u (only_text s))) (item_fits c.args.depth (lent_tree_view c.args.item.now)) _ _ (item_bytes (element u (only_text s))) (item_bytes (lent_tree_view c.args.item.now)) c.put_only_text.result (ap (item_fits c.args.depth) e) (ap item_bytes e)
    (element_spells c.args.depth u (only_text s) _ _ _ c.put_only_text.result first.0 first.1
    (spelled_as (text_fits s) (content_fits (c.args.depth - 1) (only_text s)) _ _ (content_bytes (only_text s)) (content_bytes (only_text s)) c.put_only_text.result (only_fits (c.args.depth - 1) s) refl c.put_only_text.ensures))

pub put_item-returns-in_err-put_tag-in-Elem : goal.put_item-returns-in_err-put_tag-in-Elem
put_item-returns-in_err-put_tag-in-Elem t c =
    let i = c.in-Elem in
    let e = ap lent_tree_view i.is ∙ lent_tree_view-Elem i.tag i.row in
    let tagged = ap (tag_fits c.args.depth) c.as_str-in-Elem.ensures.value in
    refused (tag_fits c.args.depth c.as_str-in-Elem.result.now) (item_fits c.args.depth (lent_tree_view c.args.item.now)) c.args.out.now.items c.put_tag-in-Elem.new.out.items (1 ∷ text_bytes c.as_str-in-Elem.result.now) c.args.out.now.items _ (item_bytes (lent_tree_view c.args.item.now)) c.from_residual-in_err-put_tag-in-Elem.result c.in_err-put_tag-in-Elem.field-0.0 c.from_residual-in_err-put_tag-in-Elem.ensures.1
    (λ wrong. ap (item_fits c.args.depth) e ∙ element_unfit c.args.depth (cow_str_bytes i.tag) (lent_row_view i.row) (sym tagged ∙ wrong)) c.in_err-put_tag-in-Elem.ensures

pub put_item-returns-in_ok-put_tag-in-Elem : goal.put_item-returns-in_ok-put_tag-in-Elem
put_item-returns-in_ok-put_tag-in-Elem t c =
    let i = c.in-Elem in
    let u = c.as_str-in-Elem.result.now in
    let v = lent_row_view i.row in
    let e : element u v ≡ lent_tree_view c.args.item.now = (λ j. element (c.as_str-in-Elem.ensures.value j) v) ∙ sym (ap lent_tree_view i.is ∙ lent_tree_view-Elem i.tag i.row) in
    let first = c.in_ok-put_tag-in-Elem.ensures in
    spelled_as (item_fits c.args.depth (element u v)) (item_fits c.args.depth (lent_tree_view c.args.item.now)) _ _ (item_bytes (element u v)) (item_bytes (lent_tree_view c.args.item.now)) c.put_row.result (ap (item_fits c.args.depth) e) (ap item_bytes e)
    (element_spells c.args.depth u v _ _ _ c.put_row.result first.0 first.1 c.put_row.ensures)
