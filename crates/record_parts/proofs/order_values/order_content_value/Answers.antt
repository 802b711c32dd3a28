use Rattle.std.proofs.Common.{ap, drop, sym}
use Rattle.jsonml_tree.specs.View.{scalar_view, content_view}
use Rattle.keyed_tree.specs.View.{key_view}
use Rattle.record_parts.proofs.ValueOrders.{content_scalar, content_content}
use Rattle.record_parts.proofs.order_values.order_content_value.Goals as goal

pub returns-in-Scalar : goal.returns-in-Scalar
returns-in-Scalar c = content_scalar (drop c.args.at c.args.bytes.now) c.args.bytes.now c.args.at (key_view c.args.other.now) (scalar_view c.in-Scalar.field-0) (sym (ap key_view c.in-Scalar.is))

pub returns-in-Content : goal.returns-in-Content
returns-in-Content c = content_content (drop c.args.at c.args.bytes.now) c.args.bytes.now (key_view c.args.other.now) (content_view c.in-Content.other) c.order_content.result (sym (ap key_view c.in-Content.is)) c.order_content.ensures
