use Rattle.std.proofs.lemmas.Grind.{common_steps}
use Rattle.std.proofs.Common.{◌≡◌, ◌++◌, ◌∷◌, [], map, drop, arith}
use Rattle.std.proofs.lemmas.Result.{err_from_is_err_and}
use Rattle.std.proofs.lemmas.List.{map_push}
use Rattle.jsonml_tree.specs.View.{tree_view}
use Rattle.xa_fields.specs.Reading.{many_at}
use Rattle.xa_fields.proofs.Loops.{goes_on, is_done}
use Rattle.record_parts.specs.Reading.{item_at}
use Rattle.record_parts.proofs.Loops.{fails_in}
use Rattle.record_parts.proofs.take_values.+take.Goals as goal

pub take_items-returns-in_err-item-clause-found : goal.take_items-returns-in_err-item-clause-found
take_items-returns-in_err-item-clause-found t c =
    let p = err_from_is_err_and c.from_residual-in_err-item.result c.from_residual-in_err-item.ensures.1 in
    rw (p.1, p.2) (fails_in (item_at c.args.depth) c.in_err-item.field-0.0 (map tree_view c.loop.items.items) c.args.count c.loop.counter (drop c.loop.at c.args.bytes.now) (many_at (item_at c.args.depth) c.args.count (drop c.args.at c.args.bytes.now)) c.loop-test.true c.in_err-item.ensures.found c.loop.invariant.read)

pub take_items-loop-preserved : goal.take_items-loop-preserved
take_items-loop-preserved t c =
    let n = c.in_ok-item.item in
    let e : map tree_view c.push.new.self.items ≡ map tree_view c.loop.items.items ++ tree_view n ∷ [] = rw c.in_ok-push.ensures.items (map_push _ c.loop.items.items n) in
    record {
      within = c.in_ok-item.ensures.next;
      read = rw e (goes_on (item_at c.args.depth) (map tree_view c.loop.items.items) c.args.count c.loop.counter (drop c.loop.at c.args.bytes.now) (tree_view n) (drop c.in_ok-item.next c.args.bytes.now) (many_at (item_at c.args.depth) c.args.count (drop c.args.at c.args.bytes.now)) c.loop-test.true c.in_ok-item.ensures.found c.loop.invariant.read);
    }

pub take_items-returns-clause-found : goal.take_items-returns-clause-found
take_items-returns-clause-found t c = is_done (item_at c.args.depth) (map tree_view c.loop.items.items) c.args.count c.loop.counter (drop c.loop.at c.args.bytes.now) (many_at (item_at c.args.depth) c.args.count (drop c.args.at c.args.bytes.now)) c.loop-test.false c.loop.invariant.read

pub take_content-returns-in_default-clause-next : goal.take_content-returns-in_default-clause-next
take_content-returns-in_default-clause-next t c = grind (arith, common_steps)

pub take_content-returns-clause-next : goal.take_content-returns-clause-next
take_content-returns-clause-next t c = grind (arith, common_steps)

pub take_content_below-returns-clause-next : goal.take_content_below-returns-clause-next
take_content_below-returns-clause-next t c = grind (arith, common_steps)

pub take_item-returns-in_default-clause-found : goal.take_item-returns-in_default-clause-found
take_item-returns-in_default-clause-found t c = grind (arith, common_steps)

pub take_item-returns-in_default-clause-next : goal.take_item-returns-in_default-clause-next
take_item-returns-in_default-clause-next t c = grind (arith, common_steps)

pub take_item-returns-clause-found : goal.take_item-returns-clause-found
take_item-returns-clause-found t c = grind (arith, common_steps)

pub take_item-returns-clause-next : goal.take_item-returns-clause-next
take_item-returns-clause-next t c = grind (arith, common_steps)

pub take_item_of-returns-in_default-clause-next : goal.take_item_of-returns-in_default-clause-next
take_item_of-returns-in_default-clause-next t c = grind (arith, common_steps)

pub take_items-loop-init : goal.take_items-loop-init
take_items-loop-init t c = grind (arith, common_steps)

pub take_items-returns-clause-next : goal.take_items-returns-clause-next
take_items-returns-clause-next t c = grind (arith, common_steps)
