use Rattle.std.proofs.Common.{drop, sym, ◌∙◌}
use Rattle.jsonml_tree.specs.Order.{text_cmp, scalar_cmp, attr_cmp}
use Rattle.xa_fields.specs.Reading.{text_at}
use Rattle.record_parts.specs.Reading.{attr_at, scalar_at}
use Rattle.record_parts.proofs.Both.{both_first_fails, both_first_decides, both_second_decides}
use Rattle.record_parts.proofs.BothOrders.{an_attr, attr_halves}
use Rattle.record_parts.proofs.order_both.both_attr.Goals as goal

pub returns-in_default : goal.returns-in_default
returns-in_default c =
    both_first_fails (attr_at (drop c.args.at c.args.ours.now)) (attr_at (drop c.args.there c.args.theirs.now)) (text_at (drop c.args.at c.args.ours.now)) (text_at (drop c.args.there c.args.theirs.now)) scalar_at an_attr attr_cmp text_cmp scalar_cmp c.args.ours.now c.args.theirs.now (attr_halves (drop c.args.at c.args.ours.now) (drop c.args.there c.args.theirs.now)) c.in_default.ensures

pub returns-then-is_ne : goal.returns-then-is_ne
returns-then-is_ne c =
    both_first_decides (attr_at (drop c.args.at c.args.ours.now)) (attr_at (drop c.args.there c.args.theirs.now)) (text_at (drop c.args.at c.args.ours.now)) (text_at (drop c.args.there c.args.theirs.now)) scalar_at an_attr attr_cmp text_cmp scalar_cmp c.args.ours.now c.args.theirs.now c.in-Some.order c.in-Some.at c.in-Some.there (attr_halves (drop c.args.at c.args.ours.now) (drop c.args.there c.args.theirs.now)) (sym c.is_ne.ensures ∙ c.if-is_ne.true) c.in-Some.ensures

pub returns : goal.returns
returns c =
    both_second_decides (attr_at (drop c.args.at c.args.ours.now)) (attr_at (drop c.args.there c.args.theirs.now)) (text_at (drop c.args.at c.args.ours.now)) (text_at (drop c.args.there c.args.theirs.now)) scalar_at an_attr attr_cmp text_cmp scalar_cmp c.args.ours.now c.args.theirs.now c.in-Some.order c.in-Some.at c.in-Some.there c.both_scalar.result (attr_halves (drop c.args.at c.args.ours.now) (drop c.args.there c.args.theirs.now)) (sym c.is_ne.ensures ∙ c.if-is_ne.false) c.in-Some.ensures c.both_scalar.ensures
