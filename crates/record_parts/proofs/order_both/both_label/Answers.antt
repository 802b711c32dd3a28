use Rattle.std.proofs.Common.{drop, None, sym, ◌∙◌}
use Rattle.std.specs.Cmp.Lexicographic.{slice_cmp}
use Rattle.keyed_tree.specs.Order.{key_cmp, label_cmp, name_cmp}
use Rattle.xa_fields.specs.Reading.{list_at}
use Rattle.record_parts.specs.Reading.{label_at, name_at, value_at}
use Rattle.record_parts.proofs.Both.{both_first_fails, both_first_decides, both_second_decides}
use Rattle.record_parts.proofs.BothOrders.{a_label, label_halves, both_rows, no_row, no_other_row}
use Rattle.record_parts.proofs.order_both.both_label.Goals as goal

pub returns-in_default : goal.returns-in_default
returns-in_default c = both_first_fails (label_at (drop c.args.at c.args.ours.now)) (label_at (drop c.args.there c.args.theirs.now)) (name_at (drop c.args.at c.args.ours.now)) (name_at (drop c.args.there c.args.theirs.now)) (list_at value_at) a_label label_cmp name_cmp (slice_cmp key_cmp) c.args.ours.now c.args.theirs.now (label_halves (drop c.args.at c.args.ours.now) (drop c.args.there c.args.theirs.now)) c.in_default.ensures

pub returns-then-is_ne : goal.returns-then-is_ne
returns-then-is_ne c = both_first_decides (label_at (drop c.args.at c.args.ours.now)) (label_at (drop c.args.there c.args.theirs.now)) (name_at (drop c.args.at c.args.ours.now)) (name_at (drop c.args.there c.args.theirs.now)) (list_at value_at) a_label label_cmp name_cmp (slice_cmp key_cmp) c.args.ours.now c.args.theirs.now c.in-Some.order c.in-Some.at c.in-Some.there (label_halves (drop c.args.at c.args.ours.now) (drop c.args.there c.args.theirs.now)) (sym c.is_ne.ensures ∙ c.if-is_ne.true) c.in-Some.ensures

pub returns-in_default-take_u32 : goal.returns-in_default-take_u32
returns-in_default-take_u32 c =
    both_second_decides (label_at (drop c.args.at c.args.ours.now)) (label_at (drop c.args.there c.args.theirs.now)) (name_at (drop c.args.at c.args.ours.now)) (name_at (drop c.args.there c.args.theirs.now)) (list_at value_at) a_label label_cmp name_cmp (slice_cmp key_cmp) c.args.ours.now c.args.theirs.now c.in-Some.order c.in-Some.at c.in-Some.there None (label_halves (drop c.args.at c.args.ours.now) (drop c.args.there c.args.theirs.now)) (sym c.is_ne.ensures ∙ c.if-is_ne.false) c.in-Some.ensures
    (no_row value_at key_cmp (drop c.in-Some.at c.args.ours.now) (drop c.in-Some.there c.args.theirs.now) c.args.ours.now c.args.theirs.now c.in_default-take_u32.ensures.found)

pub returns-in_default-take_u32-2 : goal.returns-in_default-take_u32-2
returns-in_default-take_u32-2 c =
    both_second_decides (label_at (drop c.args.at c.args.ours.now)) (label_at (drop c.args.there c.args.theirs.now)) (name_at (drop c.args.at c.args.ours.now)) (name_at (drop c.args.there c.args.theirs.now)) (list_at value_at) a_label label_cmp name_cmp (slice_cmp key_cmp) c.args.ours.now c.args.theirs.now c.in-Some.order c.in-Some.at c.in-Some.there None (label_halves (drop c.args.at c.args.ours.now) (drop c.args.there c.args.theirs.now)) (sym c.is_ne.ensures ∙ c.if-is_ne.false) c.in-Some.ensures
    (no_other_row value_at key_cmp (drop c.in-Some.at c.args.ours.now) (drop c.in-Some.there c.args.theirs.now) c.args.ours.now c.args.theirs.now c.in_default-take_u32-2.ensures.found)

pub returns : goal.returns
returns c =
    both_second_decides (label_at (drop c.args.at c.args.ours.now)) (label_at (drop c.args.there c.args.theirs.now)) (name_at (drop c.args.at c.args.ours.now)) (name_at (drop c.args.there c.args.theirs.now)) (list_at value_at) a_label label_cmp name_cmp (slice_cmp key_cmp) c.args.ours.now c.args.theirs.now c.in-Some.order c.in-Some.at c.in-Some.there c.both_keys.result (label_halves (drop c.args.at c.args.ours.now) (drop c.args.there c.args.theirs.now)) (sym c.is_ne.ensures ∙ c.if-is_ne.false) c.in-Some.ensures
    (both_rows value_at key_cmp (drop c.in-Some.at c.args.ours.now) (drop c.in-Some.there c.args.theirs.now) (drop c.in-Some-take_u32.at c.args.ours.now) (drop c.in-Some-take_u32-2.there c.args.theirs.now) c.args.ours.now c.args.theirs.now c.in-Some-take_u32.count c.in-Some-take_u32-2.others c.both_keys.result c.in-Some-take_u32.ensures.found c.in-Some-take_u32-2.ensures.found c.both_keys.ensures)
