use Rattle.std.proofs.lemmas.Grind.{common_steps}
use Rattle.std.proofs.Common.{drop, sym, arith}
use Rattle.record_parts.specs.Bounds.{most}
use Rattle.record_parts.specs.Behind.{behind}
use Rattle.timestamp_tree.specs.Reading.{pair_at, next_pair}
use Rattle.xa_fields.specs.Reading.{chain_at}
use Rattle.record_parts.proofs.Skips.{pass_on, pass_breaks, pass_stops, pass_done}
use Rattle.record_parts.proofs.skip_parts.skip_pairs.Goals as goal

pub returns-in_default-clause-found : goal.returns-in_default-clause-found
returns-in_default-clause-found c = sym (pass_breaks pair_at (next_pair most) c.loop.low c.args.count c.loop.counter (drop c.loop.at c.args.bytes.now) (behind (chain_at pair_at (next_pair most) 1 c.args.count (drop c.args.at c.args.bytes.now))) c.loop-test.true (sym c.in_default.ensures.found) c.loop.invariant.rest)

pub returns-in_default-next_low-clause-found : goal.returns-in_default-next_low-clause-found
returns-in_default-next_low-clause-found c = sym (pass_stops pair_at (next_pair most) c.loop.low c.args.count c.loop.counter (drop c.loop.at c.args.bytes.now) c.in-Some.pair (drop c.in-Some.next c.args.bytes.now) (behind (chain_at pair_at (next_pair most) 1 c.args.count (drop c.args.at c.args.bytes.now))) c.loop-test.true (sym c.in-Some.ensures.found) (sym c.in_default-next_low.ensures) c.loop.invariant.rest)

pub loop-preserved : goal.loop-preserved
loop-preserved c =
    record {
      within = c.in-Some.ensures.next;
      rest = pass_on pair_at (next_pair most) c.loop.low c.in-Some-next_low.behind c.args.count c.loop.counter (drop c.loop.at c.args.bytes.now) c.in-Some.pair (drop c.in-Some.next c.args.bytes.now) (behind (chain_at pair_at (next_pair most) 1 c.args.count (drop c.args.at c.args.bytes.now))) c.loop-test.true (sym c.in-Some.ensures.found) (sym c.in-Some-next_low.ensures) c.loop.invariant.rest;
    }

pub returns-clause-found : goal.returns-clause-found
returns-clause-found c = sym (pass_done pair_at (next_pair most) c.loop.low c.args.count c.loop.counter (drop c.loop.at c.args.bytes.now) (behind (chain_at pair_at (next_pair most) 1 c.args.count (drop c.args.at c.args.bytes.now))) c.loop-test.false c.loop.invariant.rest)

pub loop-init : goal.loop-init
loop-init c = grind (arith, common_steps)

pub returns-in_default-clause-next : goal.returns-in_default-clause-next
returns-in_default-clause-next c = grind (arith, common_steps)

pub returns-in_default-next_low-clause-next : goal.returns-in_default-next_low-clause-next
returns-in_default-next_low-clause-next c = grind (arith, common_steps)

pub returns-clause-next : goal.returns-clause-next
returns-clause-next c = grind (arith, common_steps)
