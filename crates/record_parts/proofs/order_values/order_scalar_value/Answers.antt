use Rattle.std.proofs.Common.{ap, drop, subst, sym}
use Rattle.jsonml_tree.specs.Order.{scalar_cmp}
use Rattle.jsonml_tree.specs.View.{scalar_view, content_view}
use Rattle.keyed_tree.specs.View.{key_view}
use Rattle.record_parts.specs.Compares.{Compares}
use Rattle.record_parts.specs.Reading.{scalar_at}
use Rattle.record_parts.proofs.ValueOrders.{scalar_scalar, scalar_content}
use Rattle.record_parts.proofs.order_values.order_scalar_value.Goals as goal

pub returns-in-Scalar : goal.returns-in-Scalar
returns-in-Scalar c =
    scalar_scalar (drop c.args.at c.args.bytes.now) c.args.bytes.now (key_view c.args.other.now) (scalar_view c.in-Scalar.other) c.order_scalar.result (sym (ap key_view c.in-Scalar.is))
    (subst (λ u. Compares (λ s. scalar_cmp s u) (scalar_at (drop c.args.at c.args.bytes.now)) c.args.bytes.now c.order_scalar.result) c.lend.ensures c.order_scalar.ensures)

pub returns-in-Content : goal.returns-in-Content
returns-in-Content c = scalar_content (drop c.args.at c.args.bytes.now) c.args.bytes.now c.args.at (key_view c.args.other.now) (content_view c.in-Content.field-0) (sym (ap key_view c.in-Content.is))
