use Rattle.std.proofs.Common.{map, drop, None, ap, sym, rules, arith}
use Rattle.std.specs.Option.{option_map}
use Rattle.xa_fields.specs.Reading.{chain_at}
use Rattle.jsonml_tree.specs.Data.{PlainAttr}
use Rattle.jsonml_tree.specs.LentAttrs.{lent_scalar_view}
use Rattle.jsonml_print.specs.Pen.{Pen, takes_attribute}
use Rattle.jsonml_print.specs.Calls.{attribute}
use Rattle.record_parts.specs.Reading.{attr_at, next_attr}
use Rattle.record_parts.specs.Names.{may, may_not}
use Rattle.content_print.specs.LentPrinted.{Output, Reading, output, calls_read, PrintsRead}
use Rattle.content_print.specs.declared.fault.PrintFault.TheVariants.{Out}
use Rattle.content_print.proofs.Handed.{at-err}
use Rattle.content_print.proofs.LentReadings.{attrs-left, attrs-turn, attrs-break, attrs-stop, attrs-done, damaged, made-before, made-then, made-call, stopped-then, stopped-call, left-as}
use Rattle.content_print.proofs.lent_content.print_each_attr.Goals as goal

pub loop-init : goal.loop-init
loop-init g c =
    record {
      made = made-before (output g.K.Sink.taken g.K.Sink.faults c.args.sink.now c.args.printer.now) (λ n. calls_read (map attribute) (chain_at attr_at next_attr None n (drop c.args.at c.args.bytes.now))) c.args.count;
      attributes = c.requires.attributes;
      inside = omega arith;
    }

pub returns-in_default-clause-prints : goal.returns-in_default-clause-prints
returns-in_default-clause-prints g c =
    let l = c.loop in
    damaged _ _ _ _ l.invariant.made (attrs-break (option_map (λ s. s.now) l.last) c.args.count l.counter (drop l.at c.args.bytes.now) c.loop-test.true (sym c.in_default.ensures.found))

pub returns-then-not-is_above-clause-prints : goal.returns-then-not-is_above-clause-prints
returns-then-not-is_above-clause-prints g c =
    let l = c.loop in
    let a : PlainAttr = record { name = c.in-Some.name.now; value = lent_scalar_view c.in-Some.value } in
    damaged _ _ _ _ l.invariant.made (attrs-stop (option_map (λ s. s.now) l.last) c.args.count l.counter (drop l.at c.args.bytes.now) a (drop c.in-Some.next c.args.bytes.now) c.loop-test.true (sym c.in-Some.ensures.found) (may_not (option_map (λ s. s.now) l.last) a (search rules)))

pub returns-in_err-print_lent_attr-clause-prints : goal.returns-in_err-print_lent_attr-clause-prints
returns-in_err-print_lent_attr-clause-prints g c =
    let l = c.loop in
    let k = g.K.Sink in
    let bytes = c.args.bytes.now in
    let a : PlainAttr = record { name = c.in-Some.name.now; value = lent_scalar_view c.in-Some.value } in
    let s : Output = output k.taken k.faults c.args.sink.now c.args.printer.now in
    let t : Output = output k.taken k.faults l.sink l.printer in
    let u : Output = output k.taken k.faults c.print_lent_attr.new.sink c.print_lent_attr.new.printer in
    let left : Reading = attrs-left (option_map (λ s. s.now) l.last) c.args.count l.counter (drop l.at bytes) in
    let all : Reading = calls_read (map attribute) (chain_at attr_at next_attr None c.args.count (drop c.args.at bytes)) in
    let turn = attrs-turn (option_map (λ s. s.now) l.last) c.args.count l.counter (drop l.at bytes) _ a (drop c.in-Some.next bytes) c.loop-test.true (sym c.in-Some.ensures.found) (may (option_map (λ s. s.now) l.last) a (search rules)) in
    let out = c.in_err-print_lent_attr.ensures in
    at-err c.from_residual.result Out c.from_residual.ensures.1 (λ r. PrintsRead s u (λ n. drop n bytes) all r)
    (stopped-then s t u left all l.invariant.made (stopped-call t u (attribute a) _ left turn out.cause.later out.cause.failed out.prints.bytes))

pub loop-preserved : goal.loop-preserved
loop-preserved g c =
    let l = c.loop in
    let k = g.K.Sink in
    let bytes = c.args.bytes.now in
    let a : PlainAttr = record { name = c.in-Some.name.now; value = lent_scalar_view c.in-Some.value } in
    let s : Output = output k.taken k.faults c.args.sink.now c.args.printer.now in
    let t : Output = output k.taken k.faults l.sink l.printer in
    let u : Output = output k.taken k.faults c.print_lent_attr.new.sink c.print_lent_attr.new.printer in
    let left : Reading = attrs-left (option_map (λ s. s.now) l.last) c.args.count l.counter (drop l.at bytes) in
    let all : Reading = calls_read (map attribute) (chain_at attr_at next_attr None c.args.count (drop c.args.at bytes)) in
    let turn = attrs-turn (option_map (λ s. s.now) l.last) c.args.count l.counter (drop l.at bytes) _ a (drop c.in-Some.next bytes) c.loop-test.true (sym c.in-Some.ensures.found) (may (option_map (λ s. s.now) l.last) a (search rules)) in
    let out = c.in_ok-print_lent_attr.ensures in
    let pen = out.prints.pen in
    record {
      made = made-then s t u _ left all l.invariant.made (made-call t u (attribute a) _ left turn out.cause.later out.prints.bytes pen);
      attributes = ap (λ (p : Pen). takes_attribute p.last) pen;
      inside = (let same = ap (λ (p : Pen). p.depth) pen in let inside = l.invariant.inside in omega (arith, same, inside));
    }

pub returns-clause-prints : goal.returns-clause-prints
returns-clause-prints g c =
    let l = c.loop in
    left-as _ _ _ _ _ (attrs-done (option_map (λ s. s.now) l.last) c.args.count l.counter (drop l.at c.args.bytes.now) c.loop-test.false) l.invariant.made
