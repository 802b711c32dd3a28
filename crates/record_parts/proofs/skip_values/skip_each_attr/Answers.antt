use Rattle.std.proofs.Common.{rules, drop, None, sym}
use Rattle.std.specs.Option.{option_map}
use Rattle.jsonml_tree.specs.Data.{PlainAttr}
use Rattle.jsonml_tree.specs.LentAttrs.{lent_scalar_view}
use Rattle.record_parts.specs.Behind.{behind}
use Rattle.record_parts.specs.Reading.{attr_at, next_attr}
use Rattle.xa_fields.specs.Reading.{chain_at}
use Rattle.record_parts.specs.Names.{may, may_not}
use Rattle.record_parts.proofs.Skips.{pass_on, pass_breaks, pass_stops, pass_done}
use Rattle.record_parts.proofs.skip_values.skip_each_attr.Goals as goal

pub returns-in_default-clause-found : goal.returns-in_default-clause-found
returns-in_default-clause-found c = sym (pass_breaks attr_at next_attr (option_map (λ s. s.now) c.loop.last) c.args.count c.loop.counter (drop c.loop.at c.args.bytes.now) (behind (chain_at attr_at next_attr None c.args.count (drop c.args.at c.args.bytes.now))) c.loop-test.true (sym c.in_default.ensures.found) c.loop.invariant.rest)

pub returns-then-not-is_above-clause-found : goal.returns-then-not-is_above-clause-found
returns-then-not-is_above-clause-found c =
    let a : PlainAttr = record { name = c.in-Some.name.now; value = lent_scalar_view c.in-Some.field-0-1 } in
    sym (pass_stops attr_at next_attr (option_map (λ s. s.now) c.loop.last) c.args.count c.loop.counter (drop c.loop.at c.args.bytes.now) a (drop c.in-Some.next c.args.bytes.now) (behind (chain_at attr_at next_attr None c.args.count (drop c.args.at c.args.bytes.now))) c.loop-test.true (sym c.in-Some.ensures.found) (may_not (option_map (λ s. s.now) c.loop.last) a (search rules)) c.loop.invariant.rest)

pub loop-preserved : goal.loop-preserved
loop-preserved c =
    let a : PlainAttr = record { name = c.in-Some.name.now; value = lent_scalar_view c.in-Some.field-0-1 } in
    record {
      within = c.in-Some.ensures.next;
      rest = pass_on attr_at next_attr (option_map (λ s. s.now) c.loop.last) _ c.args.count c.loop.counter (drop c.loop.at c.args.bytes.now) a (drop c.in-Some.next c.args.bytes.now) (behind (chain_at attr_at next_attr None c.args.count (drop c.args.at c.args.bytes.now))) c.loop-test.true (sym c.in-Some.ensures.found) (may (option_map (λ s. s.now) c.loop.last) a (search rules)) c.loop.invariant.rest;
    }

pub returns-clause-found : goal.returns-clause-found
returns-clause-found c = sym (pass_done attr_at next_attr (option_map (λ s. s.now) c.loop.last) c.args.count c.loop.counter (drop c.loop.at c.args.bytes.now) (behind (chain_at attr_at next_attr None c.args.count (drop c.args.at c.args.bytes.now))) c.loop-test.false c.loop.invariant.rest)
