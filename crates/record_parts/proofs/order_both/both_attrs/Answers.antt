use Rattle.std.proofs.Common.{drop, None}
use Rattle.std.specs.Cmp.Lexicographic.{slice_cmp}
use Rattle.jsonml_tree.specs.Order.{attr_cmp}
use Rattle.record_parts.specs.Reading.{attrs_at}
use Rattle.record_parts.proofs.Both.{no_ours, no_theirs}
use Rattle.record_parts.proofs.BothOrders.{both_attr_rows}
use Rattle.record_parts.proofs.Compared.{attrs_none}
use Rattle.record_parts.proofs.order_both.both_attrs.Goals as goal

pub returns-in_default : goal.returns-in_default
returns-in_default c = no_ours (slice_cmp attr_cmp) (attrs_at (drop c.args.at c.args.ours.now)) (attrs_at (drop c.args.there c.args.theirs.now)) c.args.ours.now c.args.theirs.now (attrs_none (drop c.args.at c.args.ours.now) c.in_default.ensures.found)

pub returns-in_default-take_u32 : goal.returns-in_default-take_u32
returns-in_default-take_u32 c = no_theirs (slice_cmp attr_cmp) (attrs_at (drop c.args.at c.args.ours.now)) (attrs_at (drop c.args.there c.args.theirs.now)) c.args.ours.now c.args.theirs.now None (attrs_none (drop c.args.there c.args.theirs.now) c.in_default-take_u32.ensures.found)

pub returns : goal.returns
returns c =
    both_attr_rows (drop c.args.at c.args.ours.now) (drop c.args.there c.args.theirs.now) (drop c.in-Some.at c.args.ours.now) (drop c.in-Some-take_u32.there c.args.theirs.now) c.args.ours.now c.args.theirs.now c.in-Some.count c.in-Some-take_u32.others c.both_each_attr.result c.in-Some.ensures.found c.in-Some-take_u32.ensures.found c.both_each_attr.ensures
