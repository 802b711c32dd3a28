use Rattle.std.proofs.Common.{◌≡◌, drop, Some, subst}
use Rattle.jsonml_tree.specs.Order.{scalar_cmp}
use Rattle.xa_fields.specs.Reading.{byte_at}
use Rattle.record_parts.specs.Reading.{scalar_at, scalar_of}
use Rattle.record_parts.proofs.Both.{no_ours}
use Rattle.record_parts.proofs.BothOrders.{both_text_scalars, both_below_text}
use Rattle.record_parts.proofs.TextOrders.{no_scalar}
use Rattle.record_parts.proofs.order_both.both_text_scalar.Goals as goal

pub returns-in_default : goal.returns-in_default
returns-in_default c = no_ours scalar_cmp (scalar_at (drop c.args.at c.args.ours.now)) (scalar_of 5 (drop c.args.there c.args.theirs.now)) c.args.ours.now c.args.theirs.now (no_scalar (drop c.args.at c.args.ours.now) c.in_default.ensures.found)

pub returns-then-kind-eq5 : goal.returns-then-kind-eq5
returns-then-kind-eq5 c =
    both_text_scalars (drop c.args.at c.args.ours.now) (drop c.in-Some.at c.args.ours.now) (drop c.args.there c.args.theirs.now) c.args.ours.now c.args.theirs.now c.both_text.result
    (subst (λ k. Some (k, drop c.in-Some.at c.args.ours.now) ≡ byte_at (drop c.args.at c.args.ours.now)) c.if-kind-eq5.true c.in-Some.ensures.found) c.both_text.ensures

pub returns : goal.returns
returns c = both_below_text c.in-Some.kind (drop c.args.at c.args.ours.now) (drop c.in-Some.at c.args.ours.now) (drop c.args.there c.args.theirs.now) c.args.ours.now c.args.theirs.now c.in-Some.at c.args.there c.in-Some.ensures.found c.if-kind-eq5.false
