use Rattle.std.proofs.Common.{drop, map, None}
use Rattle.std.specs.Cmp.Lexicographic.{slice_cmp}
use Rattle.jsonml_tree.specs.Order.{attr_cmp}
use Rattle.jsonml_tree.specs.LentAttrs.{lent_attr_view}
use Rattle.record_parts.specs.Reading.{attrs_at}
use Rattle.record_parts.proofs.Compared.{nothing, attrs_none, attrs_compare}
use Rattle.record_parts.proofs.order_lent.order_lent_attrs.Goals as goal

pub returns-in_default : goal.returns-in_default
returns-in_default c = nothing (λ xs. slice_cmp attr_cmp xs (map lent_attr_view c.args.others.now)) (attrs_at (drop c.args.at c.args.bytes.now)) c.args.bytes.now None (attrs_none (drop c.args.at c.args.bytes.now) c.in_default.ensures.found)

pub returns : goal.returns
returns c = attrs_compare (λ xs. slice_cmp attr_cmp xs (map lent_attr_view c.args.others.now)) c.in-Some.count (drop c.args.at c.args.bytes.now) (drop c.in-Some.at c.args.bytes.now) c.args.bytes.now c.order_lent_each_attr.result c.in-Some.ensures.found c.order_lent_each_attr.ensures
