use Rattle.jsonml_tree.proofs.Trees.{trees}
use Rattle.std.proofs.lemmas.Grind.{common_steps}
use Rattle.std.proofs.Common.{rules, arith}
use Rattle.jsonml_text.proofs.Keeping.{items_fit-parts, tree_depth-parts, item_left}
use Rattle.jsonml_text.proofs.level.+levels.Goals as goal

pub finds_too_deep-finds_among-requires : goal.finds_too_deep-finds_among-requires
finds_too_deep-finds_among-requires t c =
    let parts = items_fit-parts c.args.tree.now c.in-Elem.tag c.in-Elem.content c.deref.result.now c.in-Elem.is (search rules) c.requires in
    let deeper = tree_depth-parts c.args.tree.now c.in-Elem.tag c.in-Elem.content c.deref.result.now c.in-Elem.is (search rules) in
    (omega (arith, c.decreases, deeper), parts)

pub finds_among-loop-item-init : goal.finds_among-loop-item-init
finds_among-loop-item-init t c = grind (arith, common_steps)

pub finds_among-loop-item-preserved : goal.finds_among-loop-item-preserved
finds_among-loop-item-preserved t c = grind (arith, common_steps)

pub finds_among-returns : goal.finds_among-returns
finds_among-returns t c = grind (arith, common_steps)

pub finds_among-returns-then-branch : goal.finds_among-returns-then-branch
finds_among-returns-then-branch t c = grind (arith, common_steps)

pub finds_too_deep-returns-else-len : goal.finds_too_deep-returns-else-len
finds_too_deep-returns-else-len t c = grind (arith, trees)

pub finds_too_deep-returns-in-Text : goal.finds_too_deep-returns-in-Text
finds_too_deep-returns-in-Text t c = grind (arith, trees)

pub finds_too_deep-returns-then-len : goal.finds_too_deep-returns-then-len
finds_too_deep-returns-then-len t c = grind (arith, trees)

pub finds_among-finds_too_deep-requires : goal.finds_among-finds_too_deep-requires
finds_among-finds_too_deep-requires t c =
    let left = item_left c.args.items.now c.loop-item.item-index c.item-item.result c.loop-item-test.true c.item-item.is c.loop-item.invariant.fit in
    (omega (arith, c.decreases, c.loop-item.invariant.shallow, left.0), left.1)
