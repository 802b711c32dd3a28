use Rattle.std.proofs.Common.{◌≡◌, ◌∙◌, map, refl, arith}
use Rattle.std.proofs.lemmas.Grind.{common_steps}
use Rattle.std.specs.Cmp.Lexicographic.{slice_cmp}
use Rattle.jsonml_tree.specs.Order.{attr_cmp}
use Rattle.jsonml_tree.specs.View.{attr_view}
use Rattle.jsonml_tree.specs.contracts.scalar.AttrOrd.TheImpl as AttrOrd
use Rattle.jsonml_tree.proofs.Rows.{slice_cmp-map}
use Rattle.jsonml_tree.proofs.Trees.{trees}
use Rattle.jsonml_tree.proofs.tree.+order.Goals as goal

pub Content::order-returns : goal.Content::order-returns
Content::order-returns t c =
    let attrs : c.cmp.result ≡ slice_cmp attr_cmp (map attr_view c.as_slice.result.now) (map attr_view c.as_slice-2.result.now) =
    c.cmp.ensures ∙ slice_cmp-map attr_view AttrOrd.cmp-value.it attr_cmp (λ x y. refl) c.as_slice.result.now c.as_slice-2.result.now in
    grind (arith, trees)

pub Tree::order-returns-in-Text-Text : goal.Tree::order-returns-in-Text-Text
Tree::order-returns-in-Text-Text t c = grind (arith, trees)

pub Tree::order-returns-in-Elem-Elem : goal.Tree::order-returns-in-Elem-Elem
Tree::order-returns-in-Elem-Elem t c = grind (arith, trees)

pub order_items-loop-a-init : goal.order_items-loop-a-init
order_items-loop-a-init t c = grind (arith, common_steps)

pub order_items-returns-in_default : goal.order_items-returns-in_default
order_items-returns-in_default t c = grind (arith, common_steps)

pub order_items-returns-in_default-order : goal.order_items-returns-in_default-order
order_items-returns-in_default-order t c = grind (arith, common_steps)

pub order_items-loop-a-preserved : goal.order_items-loop-a-preserved
order_items-loop-a-preserved t c = grind (arith, common_steps)

pub order_items-returns-then-is_some : goal.order_items-returns-then-is_some
order_items-returns-then-is_some t c = grind (arith, common_steps)

pub order_items-returns-else-is_some : goal.order_items-returns-else-is_some
order_items-returns-else-is_some t c = grind (arith, common_steps)
