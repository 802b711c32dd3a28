use Rattle.std.proofs.Common.{drop, sym, subst}
use Rattle.jsonml_tree.specs.LentAttrs.{lent_scalar_view}
use Rattle.jsonml_tree.specs.Order.{scalar_cmp}
use Rattle.record_parts.specs.Compares.{Compares}
use Rattle.record_parts.specs.Reading.{scalar_of}
use Rattle.record_parts.proofs.TextOrders.{text_in_scalar, text_above_scalar, not_text}
use Rattle.record_parts.proofs.order_scalars.order_text_scalar.Goals as goal

pub returns-in-Text : goal.returns-in-Text
returns-in-Text c =
    subst (λ v. Compares (λ s. scalar_cmp s (lent_scalar_view v)) (scalar_of 5 (drop c.args.at c.args.bytes.now)) c.args.bytes.now c.order_text.result) (sym c.in-Text.is)
    (text_in_scalar (drop c.args.at c.args.bytes.now) c.args.bytes.now c.in-Text.other.now c.order_text.result c.order_text.ensures)

pub returns-in_default : goal.returns-in_default
returns-in_default c = text_above_scalar (drop c.args.at c.args.bytes.now) c.args.bytes.now c.args.at (lent_scalar_view c.args.other) (not_text c.args.other c.in_default.not-Text)
