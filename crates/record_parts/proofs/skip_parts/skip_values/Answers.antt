use Rattle.std.proofs.Common.{rules, drop, sym}
use Rattle.xa_fields.specs.Reading.{many_at}
use Rattle.record_parts.specs.Behind.{behind}
use Rattle.record_parts.specs.Reading.{value_at}
use Rattle.record_parts.proofs.Skips.{skip_on, skip_breaks, skip_done}
use Rattle.record_parts.proofs.skip_parts.skip_values.Goals as goal

pub returns-in_err-at-clause-found : goal.returns-in_err-at-clause-found
returns-in_err-at-clause-found c =
    let e = skip_breaks value_at c.args.count c.loop.counter (drop c.loop.at c.args.bytes.now) (behind (many_at value_at c.args.count (drop c.args.at c.args.bytes.now))) c.loop-test.true (sym c.in_err-at.ensures.found) c.loop.invariant.rest in
    rw e (search rules)

pub loop-preserved : goal.loop-preserved
loop-preserved c =
    record {
      within = c.in_ok-at.ensures.next;
      rest = skip_on value_at c.args.count c.loop.counter (drop c.loop.at c.args.bytes.now) (drop c.in_ok-at.at c.args.bytes.now) (behind (many_at value_at c.args.count (drop c.args.at c.args.bytes.now))) c.loop-test.true (sym c.in_ok-at.ensures.found) c.loop.invariant.rest;
    }

pub returns-clause-found : goal.returns-clause-found
returns-clause-found c = sym (skip_done value_at c.args.count c.loop.counter (drop c.loop.at c.args.bytes.now) (behind (many_at value_at c.args.count (drop c.args.at c.args.bytes.now))) c.loop-test.false c.loop.invariant.rest)
