use Rattle.std.proofs.Common.{drop}
use Rattle.record_parts.proofs.BothOrders.{both_texts, both_no_text, both_no_other}
use Rattle.record_parts.proofs.order_both.both_text.Goals as goal

pub returns-in_default : goal.returns-in_default
returns-in_default c = both_no_text (drop c.args.at c.args.ours.now) (drop c.args.there c.args.theirs.now) c.args.ours.now c.args.theirs.now c.in_default.ensures

pub returns-in_default-text_slice : goal.returns-in_default-text_slice
returns-in_default-text_slice c = both_no_other (drop c.args.at c.args.ours.now) (drop c.args.there c.args.theirs.now) c.args.ours.now c.args.theirs.now c.in_default-text_slice.ensures

pub returns : goal.returns
returns c =
    both_texts (drop c.args.at c.args.ours.now) (drop c.args.there c.args.theirs.now) c.args.ours.now c.args.theirs.now c.in-Some.text.now c.in-Some-text_slice.other.now c.cmp.result c.in-Some.at c.in-Some-text_slice.there c.in-Some.ensures c.in-Some-text_slice.ensures c.cmp.ensures
