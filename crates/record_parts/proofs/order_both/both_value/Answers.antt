use Rattle.std.proofs.Common.{◌≡◌, rules, drop, Some, None, subst}
use Rattle.std.specs.declared.cmp.Ordering.TheVariants.{Less, Greater}
use Rattle.keyed_tree.specs.Order.{key_cmp}
use Rattle.xa_fields.specs.Reading.{byte_at}
use Rattle.record_parts.specs.Reading.{value_at}
use Rattle.record_parts.proofs.Both.{no_ours, no_theirs}
use Rattle.record_parts.proofs.BothOrders.{both_no_value, both_no_other_value, both_value_kinds, both_scalar_values, both_content_values, both_scalar_content, both_content_scalar}
use Rattle.record_parts.proofs.Compared.{value_none}
use Rattle.record_parts.proofs.order_both.both_value.Goals as goal

pub returns-in_default : goal.returns-in_default
returns-in_default c = no_ours key_cmp (value_at (drop c.args.at c.args.ours.now)) (value_at (drop c.args.there c.args.theirs.now)) c.args.ours.now c.args.theirs.now (value_none (drop c.args.at c.args.ours.now) c.in_default.ensures.found)

pub returns-in_default-take_u8 : goal.returns-in_default-take_u8
returns-in_default-take_u8 c = no_theirs key_cmp (value_at (drop c.args.at c.args.ours.now)) (value_at (drop c.args.there c.args.theirs.now)) c.args.ours.now c.args.theirs.now None (value_none (drop c.args.there c.args.theirs.now) c.in_default-take_u8.ensures.found)

pub returns-in-0-eq0 : goal.returns-in-0-eq0
returns-in-0-eq0 c =
    both_value_kinds 0 0 (drop c.args.at c.args.ours.now) (drop c.args.there c.args.theirs.now) (drop c.in-Some.at c.args.ours.now) (drop c.in-Some-take_u8.there c.args.theirs.now) c.args.ours.now c.args.theirs.now c.both_scalar.result
    (subst (λ k. Some (k, drop c.in-Some.at c.args.ours.now) ≡ byte_at (drop c.args.at c.args.ours.now)) c.in-0-eq0.is-0 c.in-Some.ensures.found) (subst (λ k. Some (k, drop c.in-Some-take_u8.there c.args.theirs.now) ≡ byte_at (drop c.args.there c.args.theirs.now)) c.in-0-eq0.is-1 c.in-Some-take_u8.ensures.found)
    (both_scalar_values (drop c.in-Some.at c.args.ours.now) (drop c.in-Some-take_u8.there c.args.theirs.now) c.args.ours.now c.args.theirs.now c.both_scalar.result c.both_scalar.ensures)

pub returns-in-0-eq1 : goal.returns-in-0-eq1
returns-in-0-eq1 c =
    both_value_kinds 0 1 (drop c.args.at c.args.ours.now) (drop c.args.there c.args.theirs.now) (drop c.in-Some.at c.args.ours.now) (drop c.in-Some-take_u8.there c.args.theirs.now) c.args.ours.now c.args.theirs.now (Some (Less, c.in-Some.at, c.in-Some-take_u8.there))
    (subst (λ k. Some (k, drop c.in-Some.at c.args.ours.now) ≡ byte_at (drop c.args.at c.args.ours.now)) c.in-0-eq1.is-0 c.in-Some.ensures.found) (subst (λ k. Some (k, drop c.in-Some-take_u8.there c.args.theirs.now) ≡ byte_at (drop c.args.there c.args.theirs.now)) c.in-0-eq1.is-1 c.in-Some-take_u8.ensures.found)
    (both_scalar_content (drop c.in-Some.at c.args.ours.now) (drop c.in-Some-take_u8.there c.args.theirs.now) c.args.ours.now c.args.theirs.now c.in-Some.at c.in-Some-take_u8.there)

pub returns-in-1-eq0 : goal.returns-in-1-eq0
returns-in-1-eq0 c =
    both_value_kinds 1 0 (drop c.args.at c.args.ours.now) (drop c.args.there c.args.theirs.now) (drop c.in-Some.at c.args.ours.now) (drop c.in-Some-take_u8.there c.args.theirs.now) c.args.ours.now c.args.theirs.now (Some (Greater, c.in-Some.at, c.in-Some-take_u8.there))
    (subst (λ k. Some (k, drop c.in-Some.at c.args.ours.now) ≡ byte_at (drop c.args.at c.args.ours.now)) c.in-1-eq0.is-0 c.in-Some.ensures.found) (subst (λ k. Some (k, drop c.in-Some-take_u8.there c.args.theirs.now) ≡ byte_at (drop c.args.there c.args.theirs.now)) c.in-1-eq0.is-1 c.in-Some-take_u8.ensures.found)
    (both_content_scalar (drop c.in-Some.at c.args.ours.now) (drop c.in-Some-take_u8.there c.args.theirs.now) c.args.ours.now c.args.theirs.now c.in-Some.at c.in-Some-take_u8.there)

pub returns-in-1-eq1 : goal.returns-in-1-eq1
returns-in-1-eq1 c =
    both_value_kinds 1 1 (drop c.args.at c.args.ours.now) (drop c.args.there c.args.theirs.now) (drop c.in-Some.at c.args.ours.now) (drop c.in-Some-take_u8.there c.args.theirs.now) c.args.ours.now c.args.theirs.now c.both_content.result
    (subst (λ k. Some (k, drop c.in-Some.at c.args.ours.now) ≡ byte_at (drop c.args.at c.args.ours.now)) c.in-1-eq1.is-0 c.in-Some.ensures.found) (subst (λ k. Some (k, drop c.in-Some-take_u8.there c.args.theirs.now) ≡ byte_at (drop c.args.there c.args.theirs.now)) c.in-1-eq1.is-1 c.in-Some-take_u8.ensures.found)
    (both_content_values (drop c.in-Some.at c.args.ours.now) (drop c.in-Some-take_u8.there c.args.theirs.now) c.args.ours.now c.args.theirs.now c.both_content.result c.both_content.ensures)

pub returns-in_default-2 : goal.returns-in_default-2
returns-in_default-2 c = both_no_other_value c.in-Some-take_u8.other (drop c.args.at c.args.ours.now) (drop c.args.there c.args.theirs.now) (drop c.in-Some-take_u8.there c.args.theirs.now) c.args.ours.now c.args.theirs.now c.in-Some-take_u8.ensures.found (search rules) (search rules)

pub returns-in_default-2-2 : goal.returns-in_default-2-2
returns-in_default-2-2 c = both_no_other_value c.in-Some-take_u8.other (drop c.args.at c.args.ours.now) (drop c.args.there c.args.theirs.now) (drop c.in-Some-take_u8.there c.args.theirs.now) c.args.ours.now c.args.theirs.now c.in-Some-take_u8.ensures.found (search rules) (search rules)

pub returns-in_default-2-3 : goal.returns-in_default-2-3
returns-in_default-2-3 c = both_no_value c.in-Some.kind (drop c.args.at c.args.ours.now) (drop c.args.there c.args.theirs.now) (drop c.in-Some.at c.args.ours.now) c.args.ours.now c.args.theirs.now c.in-Some.ensures.found (search rules) (search rules)
