use Rattle.std.proofs.Common.{drop, sym, ◌∙◌, arith}
use Rattle.xa_fields.specs.Reading.{many_at}
use Rattle.record_parts.proofs.Both.{below, both_failed, both_decided, both_go_on, both_ended}
use Rattle.jsonml_tree.specs.Order.{attr_cmp}
use Rattle.record_parts.specs.Reading.{attr_at}
use Rattle.record_parts.proofs.order_both.both_each_attr.Goals as goal

pub returns-in_default : goal.returns-in_default
returns-in_default c =
    both_failed attr_cmp attr_at c.args.count c.args.others c.loop.counter (drop c.loop.at c.args.ours.now) (drop c.loop.there c.args.theirs.now) c.args.ours.now c.args.theirs.now (many_at attr_at c.args.count (drop c.args.at c.args.ours.now)) (many_at attr_at c.args.others (drop c.args.there c.args.theirs.now)) (below c.args.count c.args.others c.min-shorter.result c.loop.counter c.min-shorter.ensures c.loop-test.true).0 (below c.args.count c.args.others c.min-shorter.result c.loop.counter c.min-shorter.ensures c.loop-test.true).1 c.in_default.ensures c.loop.invariant.lead

pub returns-then-is_ne : goal.returns-then-is_ne
returns-then-is_ne c =
    both_decided attr_cmp attr_at c.args.count c.args.others c.loop.counter c.in-Some.next c.in-Some.behind (drop c.loop.at c.args.ours.now) (drop c.loop.there c.args.theirs.now) c.args.ours.now c.args.theirs.now (many_at attr_at c.args.count (drop c.args.at c.args.ours.now)) (many_at attr_at c.args.others (drop c.args.there c.args.theirs.now)) c.in-Some.order (below c.args.count c.args.others c.min-shorter.result c.loop.counter c.min-shorter.ensures c.loop-test.true).0 (below c.args.count c.args.others c.min-shorter.result c.loop.counter c.min-shorter.ensures c.loop-test.true).1 (sym c.is_ne.ensures ∙ c.if-is_ne.true) c.in-Some.ensures c.loop.invariant.lead

pub loop-preserved : goal.loop-preserved
loop-preserved c =
    record {
      within = omega (arith, c.loop-test.true);
      lead = both_go_on attr_cmp attr_at c.args.count c.args.others c.loop.counter c.in-Some.next c.in-Some.behind (drop c.loop.at c.args.ours.now) (drop c.loop.there c.args.theirs.now) c.args.ours.now c.args.theirs.now (many_at attr_at c.args.count (drop c.args.at c.args.ours.now)) (many_at attr_at c.args.others (drop c.args.there c.args.theirs.now)) c.in-Some.order (below c.args.count c.args.others c.min-shorter.result c.loop.counter c.min-shorter.ensures c.loop-test.true).0 (below c.args.count c.args.others c.min-shorter.result c.loop.counter c.min-shorter.ensures c.loop-test.true).1 (sym c.is_ne.ensures ∙ c.if-is_ne.false) c.in-Some.ensures c.loop.invariant.lead;
    }

pub returns : goal.returns
returns c = both_ended attr_cmp attr_at c.args.count c.args.others c.min-shorter.result c.loop.counter c.loop.at c.loop.there c.args.ours.now c.args.theirs.now (many_at attr_at c.args.count (drop c.args.at c.args.ours.now)) (many_at attr_at c.args.others (drop c.args.there c.args.theirs.now)) c.cmp.result c.min-shorter.ensures c.loop-test.false c.loop.invariant.within c.cmp.ensures c.loop.invariant.lead
