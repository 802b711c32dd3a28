use Rattle.std.proofs.lemmas.Grind.{common_steps}
use Rattle.xa_fields.proofs.Combinators.{growth, grows_to, grows_itself, grows_on}
use Rattle.std.proofs.Common.{rules, ◌≡◌, ℕ, List, ◌++◌, length, map, refl, sym, ap, ◌∙◌, append_assoc, arith}
use Rattle.std.proofs.lemmas.List.{length-map}
use Rattle.jsonml_tree.specs.Data.{PlainAttr, PlainTree, trees_of, list_of}
use Rattle.jsonml_tree.specs.View.{attr_view, tree_view, content_view}
use Rattle.jsonml_tree.specs.declared.tree.Content.{Content}
use Rattle.jsonml_tree.proofs.Trees.{trees, content_view-is, list_of-trees_of}
use Rattle.xa_fields.specs.Spelling.{u32_bytes, list_bytes}
use Rattle.record_parts.specs.Spelling.{attr_bytes, items_bytes, content_bytes}
use Rattle.record_parts.proofs.Puts.{item_fits, item_put, grows_with}
use Rattle.record_parts.proofs.put_values.+put.Goals as goal

parts : (c : Content) (o p q r : List ℕ) (m : ℕ) → m ≡ length c.items.items → p ≡ o ++ list_bytes attr_bytes (map attr_view c.attrs.items) → q ≡ p ++ u32_bytes m → r ≡ q ++ items_bytes (trees_of (map tree_view c.items.items))
    → r ≡ o ++ content_bytes (content_view c)
parts c o p q r m em e f g =
    let xs : List PlainAttr = map attr_view c.attrs.items in
    let ts : List PlainTree = map tree_view c.items.items in
    let m_is : m ≡ length (list_of (trees_of ts)) = em ∙ sym (length-map c.items.items tree_view) ∙ ap length (sym (list_of-trees_of ts)) in
    g ∙ ap (λ (x : List ℕ). x ++ items_bytes (trees_of ts)) (f ∙ ap (λ (x : List ℕ). x ++ u32_bytes m) e)
    ∙ append_assoc (o ++ list_bytes attr_bytes xs) (u32_bytes m) (items_bytes (trees_of ts)) ∙ append_assoc o (list_bytes attr_bytes xs) (u32_bytes m ++ items_bytes (trees_of ts))
    ∙ ap (λ (k : ℕ). o ++ (list_bytes attr_bytes xs ++ (u32_bytes k ++ items_bytes (trees_of ts)))) m_is
    ∙ ap (λ (x : List ℕ). o ++ x) (ap content_bytes (sym (content_view-is c)))

pub put_content-returns-clause-ok : goal.put_content-returns-clause-ok
put_content-returns-clause-ok t c =
    parts c.args.content.now c.args.out.now.items c.put_attrs.new.out.items c.append_u32.new.out.items c.put_items.new.out.items c.len.result (search rules) (search rules) (search rules) (search rules)

pub put_item-returns-in_err-append_text-in-Elem-clause-grows : goal.put_item-returns-in_err-append_text-in-Elem-clause-grows
put_item-returns-in_err-append_text-in-Elem-clause-grows t c = grind (arith, growth)

pub put_item-returns-in_ok-append_text-in-Elem-clause-grows : goal.put_item-returns-in_ok-append_text-in-Elem-clause-grows
put_item-returns-in_ok-append_text-in-Elem-clause-grows t c = grind (arith, growth)

pub put_content-returns-in_err-append_u32-clause-grows : goal.put_content-returns-in_err-append_u32-clause-grows
put_content-returns-in_err-append_u32-clause-grows t c = grind (arith, growth)

pub put_content-returns-in_err-put_items-clause-grows : goal.put_content-returns-in_err-put_items-clause-grows
put_content-returns-in_err-put_items-clause-grows t c = grind (arith, growth)

pub put_content-returns-clause-grows : goal.put_content-returns-clause-grows
put_content-returns-clause-grows t c = grind (arith, growth)

pub put_content-returns-in_err-put_attrs-clause-grows : goal.put_content-returns-in_err-put_attrs-clause-grows
put_content-returns-in_err-put_attrs-clause-grows t c = grind (arith, growth)

pub put_item-returns-in_err-append_u8-in-Text-clause-grows : goal.put_item-returns-in_err-append_u8-in-Text-clause-grows
put_item-returns-in_err-append_u8-in-Text-clause-grows t c = grind (arith, growth)

pub put_item-returns-in_err-append_u8-in-Elem-clause-grows : goal.put_item-returns-in_err-append_u8-in-Elem-clause-grows
put_item-returns-in_err-append_u8-in-Elem-clause-grows t c = grind (arith, growth)

pub put_item-returns-in_ok-append_u8-in-Text-clause-ok : goal.put_item-returns-in_ok-append_u8-in-Text-clause-ok
put_item-returns-in_ok-append_u8-in-Text-clause-ok t c = grind (arith, common_steps, trees)

pub put_item-returns-in_ok-append_u8-in-Text-clause-grows : goal.put_item-returns-in_ok-append_u8-in-Text-clause-grows
put_item-returns-in_ok-append_u8-in-Text-clause-grows t c = grows_with c.append_text.result _ _ _ _ (grows_to _ _ _ c.in_ok-append_u8-in-Text.ensures.ok) c.append_text.ensures.ok c.append_text.ensures.err

pub put_item-returns-in_ok-append_text-in-Elem-clause-ok : goal.put_item-returns-in_ok-append_text-in-Elem-clause-ok
put_item-returns-in_ok-append_text-in-Elem-clause-ok t c = grind (arith, common_steps, trees)

pub put_items-loop-item-init : goal.put_items-loop-item-init
put_items-loop-item-init t c = record { fits = c.requires; wrote = refl; grows = grows_itself c.args.out.now.items }

pub put_items-returns-in_err-put_item-clause-grows : goal.put_items-returns-in_err-put_item-clause-grows
put_items-returns-in_err-put_item-clause-grows t c = grows_on _ _ _ c.loop-item.invariant.grows c.put_item.ensures.grows

pub put_items-loop-item-preserved : goal.put_items-loop-item-preserved
put_items-loop-item-preserved t c =
    record {
      fits = (item_fits c.args.items.now c.loop-item.item-index c.item-item.result c.loop-item-test.true c.item-item.is c.loop-item.invariant.fits).1;
      wrote = item_put c.args.items.now c.loop-item.item-index c.item-item.result _ _ _ c.loop-item-test.true c.item-item.is (search rules) c.loop-item.invariant.wrote;
      grows = grows_on _ _ _ c.loop-item.invariant.grows c.put_item.ensures.grows;
    }

pub put_items-returns-clause-ok : goal.put_items-returns-clause-ok
put_items-returns-clause-ok t c = grind (arith, common_steps)

pub put_items-returns-clause-grows : goal.put_items-returns-clause-grows
put_items-returns-clause-grows t c = c.loop-item.invariant.grows
