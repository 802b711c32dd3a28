use Rattle.std.proofs.Common.{rules, drop, None}
use Rattle.keyed_tree.specs.View.{key_view}
use Rattle.record_parts.proofs.ValueOrders.{no_value_byte, of_value_kind, of_no_value_kind}
use Rattle.record_parts.proofs.order_values.order_value.Goals as goal

pub returns-in_default : goal.returns-in_default
returns-in_default c = no_value_byte (drop c.args.at c.args.bytes.now) c.args.bytes.now (key_view c.args.other.now) c.in_default.ensures.found

pub returns-in-0 : goal.returns-in-0
returns-in-0 c = of_value_kind 0 (drop c.args.at c.args.bytes.now) (drop c.in-Some.at c.args.bytes.now) c.args.bytes.now (key_view c.args.other.now) c.order_scalar_value.result (search rules) c.order_scalar_value.ensures

pub returns-in-1 : goal.returns-in-1
returns-in-1 c = of_value_kind 1 (drop c.args.at c.args.bytes.now) (drop c.in-Some.at c.args.bytes.now) c.args.bytes.now (key_view c.args.other.now) c.order_content_value.result (search rules) c.order_content_value.ensures

pub returns-in_default-kind : goal.returns-in_default-kind
returns-in_default-kind c =
    of_value_kind c.in-Some.kind (drop c.args.at c.args.bytes.now) (drop c.in-Some.at c.args.bytes.now) c.args.bytes.now (key_view c.args.other.now) None c.in-Some.ensures.found
    (of_no_value_kind c.in-Some.kind (drop c.in-Some.at c.args.bytes.now) c.args.bytes.now (key_view c.args.other.now) (search rules) (search rules))
