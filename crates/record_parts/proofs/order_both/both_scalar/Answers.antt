use Rattle.std.proofs.Common.{◌≡◌, drop, Some, None, subst}
use Rattle.jsonml_tree.specs.LentAttrs.{lent_scalar_view}
use Rattle.jsonml_tree.specs.Order.{scalar_cmp}
use Rattle.xa_fields.specs.Reading.{byte_at}
use Rattle.record_parts.specs.Reading.{scalar_at}
use Rattle.record_parts.proofs.Both.{no_theirs}
use Rattle.record_parts.proofs.BothOrders.{both_scalar_of_text, both_no_scalar_kind, both_scalar_lent, both_scalar_lent_none}
use Rattle.record_parts.proofs.TextOrders.{no_scalar}
use Rattle.record_parts.proofs.order_both.both_scalar.Goals as goal

pub returns-in_default : goal.returns-in_default
returns-in_default c = no_theirs scalar_cmp (scalar_at (drop c.args.at c.args.ours.now)) (scalar_at (drop c.args.there c.args.theirs.now)) c.args.ours.now c.args.theirs.now None (no_scalar (drop c.args.there c.args.theirs.now) c.in_default.ensures.found)

pub returns-then-kind-eq5 : goal.returns-then-kind-eq5
returns-then-kind-eq5 c =
    both_scalar_of_text (drop c.args.at c.args.ours.now) (drop c.args.there c.args.theirs.now) (drop c.in-Some.behind c.args.theirs.now) c.args.ours.now c.args.theirs.now c.both_text_scalar.result
    (subst (λ k. Some (k, drop c.in-Some.behind c.args.theirs.now) ≡ byte_at (drop c.args.there c.args.theirs.now)) c.if-kind-eq5.true c.in-Some.ensures.found) c.both_text_scalar.ensures

pub returns-in_default-scalar_of_kind : goal.returns-in_default-scalar_of_kind
returns-in_default-scalar_of_kind c = both_no_scalar_kind (drop c.args.at c.args.ours.now) (drop c.args.there c.args.theirs.now) (drop c.in-Some.behind c.args.theirs.now) c.args.ours.now c.args.theirs.now c.in-Some.kind None c.in-Some.ensures.found c.in_default-scalar_of_kind.ensures.found

pub returns-in_default-order_scalar : goal.returns-in_default-order_scalar
returns-in_default-order_scalar c =
    both_scalar_lent_none (drop c.args.at c.args.ours.now) (drop c.args.there c.args.theirs.now) (drop c.in-Some.behind c.args.theirs.now) (drop c.in-Some-scalar_of_kind.there c.args.theirs.now) c.args.ours.now c.args.theirs.now c.in-Some.kind (lent_scalar_view c.in-Some-scalar_of_kind.other) c.in-Some.ensures.found c.in-Some-scalar_of_kind.ensures.found c.in_default-order_scalar.ensures

pub returns : goal.returns
returns c =
    both_scalar_lent (drop c.args.at c.args.ours.now) (drop c.args.there c.args.theirs.now) (drop c.in-Some.behind c.args.theirs.now) c.args.ours.now c.args.theirs.now c.in-Some.kind (lent_scalar_view c.in-Some-scalar_of_kind.other) c.in-Some-order_scalar.order c.in-Some-order_scalar.at c.in-Some-scalar_of_kind.there c.in-Some.ensures.found c.in-Some-scalar_of_kind.ensures.found c.in-Some-order_scalar.ensures
