use Rattle.std.proofs.Common.{◌≡◌, drop, Some, None, sym, subst}
use Rattle.jsonml_tree.specs.LentAttrs.{lent_scalar_view}
use Rattle.xa_fields.specs.Reading.{byte_at}
use Rattle.record_parts.specs.Reading.{scalar_of}
use Rattle.record_parts.proofs.Compared.{exactly, nothing}
use Rattle.record_parts.proofs.TextOrders.{by_scalar, scalar_fails, of_scalar_kind}
use Rattle.record_parts.proofs.order_scalars.order_scalar.Goals as goal

pub returns-in_default : goal.returns-in_default
returns-in_default c = scalar_fails (drop c.args.at c.args.bytes.now) c.args.bytes.now (lent_scalar_view c.args.other) c.in_default.ensures.found

pub returns-then-kind-eq5 : goal.returns-then-kind-eq5
returns-then-kind-eq5 c =
    of_scalar_kind 5 (drop c.args.at c.args.bytes.now) (drop c.in-Some.at c.args.bytes.now) c.args.bytes.now (lent_scalar_view c.args.other) c.order_text_scalar.result
    (subst (λ k. Some (k, drop c.in-Some.at c.args.bytes.now) ≡ byte_at (drop c.args.at c.args.bytes.now)) c.if-kind-eq5.true c.in-Some.ensures.found) c.order_text_scalar.ensures

pub returns-in_default-scalar_of_kind : goal.returns-in_default-scalar_of_kind
returns-in_default-scalar_of_kind c =
    of_scalar_kind c.in-Some.kind (drop c.args.at c.args.bytes.now) (drop c.in-Some.at c.args.bytes.now) c.args.bytes.now (lent_scalar_view c.args.other) None c.in-Some.ensures.found
    (nothing (by_scalar (lent_scalar_view c.args.other)) (scalar_of c.in-Some.kind (drop c.in-Some.at c.args.bytes.now)) c.args.bytes.now None (sym c.in_default-scalar_of_kind.ensures.found))

pub returns : goal.returns
returns c =
    of_scalar_kind c.in-Some.kind (drop c.args.at c.args.bytes.now) (drop c.in-Some.at c.args.bytes.now) c.args.bytes.now (lent_scalar_view c.args.other) (Some (c.order.result, c.in-Some-scalar_of_kind.at)) c.in-Some.ensures.found
    (exactly (by_scalar (lent_scalar_view c.args.other)) (scalar_of c.in-Some.kind (drop c.in-Some.at c.args.bytes.now)) c.args.bytes.now (lent_scalar_view c.in-Some-scalar_of_kind.scalar) c.in-Some-scalar_of_kind.at c.order.result c.in-Some-scalar_of_kind.ensures.found c.order.ensures)
