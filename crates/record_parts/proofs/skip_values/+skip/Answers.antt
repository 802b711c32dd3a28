use Rattle.std.proofs.lemmas.Grind.{common_steps}
use Rattle.std.proofs.Common.{rules, drop, sym, arith}
use Rattle.xa_fields.specs.Reading.{many_at}
use Rattle.record_parts.specs.Behind.{behind}
use Rattle.record_parts.specs.Reading.{item_at}
use Rattle.record_parts.proofs.Skips.{skip_on, skip_breaks, skip_done}
use Rattle.record_parts.proofs.skip_values.+skip.Goals as goal

pub skip_items-returns-in_err-at-clause-found : goal.skip_items-returns-in_err-at-clause-found
skip_items-returns-in_err-at-clause-found t c =
    let e = skip_breaks (item_at c.args.depth) c.args.count c.loop.counter (drop c.loop.at c.args.bytes.now) (behind (many_at (item_at c.args.depth) c.args.count (drop c.args.at c.args.bytes.now))) c.loop-test.true (sym c.in_err-at.ensures.found) c.loop.invariant.rest in
    rw e (search rules)

pub skip_items-loop-preserved : goal.skip_items-loop-preserved
skip_items-loop-preserved t c =
    record {
      within = c.in_ok-at.ensures.next;
      rest = skip_on (item_at c.args.depth) c.args.count c.loop.counter (drop c.loop.at c.args.bytes.now) (drop c.in_ok-at.at c.args.bytes.now) (behind (many_at (item_at c.args.depth) c.args.count (drop c.args.at c.args.bytes.now))) c.loop-test.true (sym c.in_ok-at.ensures.found) c.loop.invariant.rest;
    }

pub skip_items-returns-clause-found : goal.skip_items-returns-clause-found
skip_items-returns-clause-found t c = sym (skip_done (item_at c.args.depth) c.args.count c.loop.counter (drop c.loop.at c.args.bytes.now) (behind (many_at (item_at c.args.depth) c.args.count (drop c.args.at c.args.bytes.now))) c.loop-test.false c.loop.invariant.rest)

pub skip_content-returns-clause-next : goal.skip_content-returns-clause-next
skip_content-returns-clause-next t c = grind (arith, common_steps)

pub skip_content_below-returns-clause-next : goal.skip_content_below-returns-clause-next
skip_content_below-returns-clause-next t c = grind (arith, common_steps)

pub skip_item-returns-clause-found : goal.skip_item-returns-clause-found
skip_item-returns-clause-found t c = grind (arith, common_steps)

pub skip_item-returns-clause-next : goal.skip_item-returns-clause-next
skip_item-returns-clause-next t c = grind (arith, common_steps)

pub skip_item_of-returns-in_default-clause-next : goal.skip_item_of-returns-in_default-clause-next
skip_item_of-returns-in_default-clause-next t c = grind (arith, common_steps)

pub skip_items-loop-init : goal.skip_items-loop-init
skip_items-loop-init t c = grind (arith, common_steps)

pub skip_items-returns-clause-next : goal.skip_items-returns-clause-next
skip_items-returns-clause-next t c = grind (arith, common_steps)
