use Rattle.std.proofs.Common.{rules, ◌≡◌, ◌-◌, ◌∙◌, true, false, drop, arith}
use Rattle.std.specs.Prelude.{bytes_eq}
use Rattle.jsonml_tree.specs.Data.{PlainAttr}
use Rattle.jsonml_tree.specs.LentAttrs.{lent_scalar_view}
use Rattle.record_parts.specs.ShownViews.{shown_body}
use Rattle.node_judge.proofs.BodyLaws.{attrs-begin, attrs-none, attrs-on, attrs-found, attrs-end}
use Rattle.node_judge.proofs.body.is_attribute.Goals as goal

pub loop-init : goal.loop-init
loop-init c xs rest e = attrs-begin c.args.name.now (shown_body c.args.value.now) xs rest c.args.count (c.args.count - 0) (omega arith) (drop c.args.at c.args.bytes.now) e

pub returns-in_default : goal.returns-in_default
returns-in_default c xs rest e =
    absurd (attrs-none c.args.name.now (shown_body c.args.value.now) xs rest c.args.count c.loop.counter c.loop-test.true (drop c.loop.at c.args.bytes.now) (c.loop.invariant xs rest e) c.in_default.ensures.found)

pub returns-then-eq : goal.returns-then-eq
returns-then-eq c xs rest e =
    let a : PlainAttr = record { name = c.in-Some.own.now; value = lent_scalar_view c.in-Some.scalar } in
    let named : bytes_eq c.in-Some.own.now c.args.name.now ≡ true = search rules in
    c.is_scalar_value.ensures
    ∙ attrs-found c.args.name.now (shown_body c.args.value.now) xs rest c.args.count c.loop.counter c.loop-test.true (drop c.loop.at c.args.bytes.now) (c.loop.invariant xs rest e) a (drop c.in-Some.next c.args.bytes.now) c.in-Some.ensures.found named

pub loop-preserved : goal.loop-preserved
loop-preserved c xs rest e =
    let a : PlainAttr = record { name = c.in-Some.own.now; value = lent_scalar_view c.in-Some.scalar } in
    let other : bytes_eq c.in-Some.own.now c.args.name.now ≡ false = search rules in
    attrs-on c.args.name.now (shown_body c.args.value.now) xs rest c.args.count c.loop.counter c.loop-test.true (drop c.loop.at c.args.bytes.now) (c.loop.invariant xs rest e) a (drop c.in-Some.next c.args.bytes.now) c.in-Some.ensures.found other

pub returns : goal.returns
returns c xs rest e = attrs-end c.args.name.now (shown_body c.args.value.now) xs rest c.args.count c.loop.counter c.loop-test.false (drop c.loop.at c.args.bytes.now) (c.loop.invariant xs rest e)
