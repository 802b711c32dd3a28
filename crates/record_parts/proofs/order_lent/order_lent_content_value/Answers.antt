use Rattle.std.proofs.Common.{ap, drop, sym}
use Rattle.jsonml_tree.specs.LentAttrs.{lent_scalar_view}
use Rattle.jsonml_tree.specs.LentView.{lent_content_view}
use Rattle.keyed_tree.specs.LentView.{lent_val_view}
use Rattle.record_parts.proofs.ValueOrders.{content_scalar, content_content}
use Rattle.record_parts.proofs.order_lent.order_lent_content_value.Goals as goal

pub returns-in-Scalar : goal.returns-in-Scalar
returns-in-Scalar c = content_scalar (drop c.args.at c.args.bytes.now) c.args.bytes.now c.args.at (lent_val_view c.args.other) (lent_scalar_view c.in-Scalar.field-0) (sym (ap lent_val_view c.in-Scalar.is))

pub returns-in-Content : goal.returns-in-Content
returns-in-Content c = content_content (drop c.args.at c.args.bytes.now) c.args.bytes.now (lent_val_view c.args.other) (lent_content_view c.in-Content.other) c.order_lent_content.result (sym (ap lent_val_view c.in-Content.is)) c.order_lent_content.ensures
