use Rattle.std.proofs.Common.{◌≡◌, rules, drop, Some, None, subst}
use Rattle.std.specs.declared.cmp.Ordering.TheVariants.{Less, Greater}
use Rattle.keyed_tree.specs.Order.{name_cmp}
use Rattle.xa_fields.specs.Reading.{byte_at}
use Rattle.record_parts.specs.Reading.{name_at}
use Rattle.record_parts.proofs.Both.{no_ours, no_theirs}
use Rattle.record_parts.proofs.BothOrders.{both_no_name, both_no_other_name, both_name_kinds, both_attr_names, both_tag_names, both_attr_tag, both_tag_attr}
use Rattle.record_parts.proofs.TextOrders.{no_name}
use Rattle.record_parts.proofs.order_both.both_name.Goals as goal

pub returns-in_default : goal.returns-in_default
returns-in_default c = no_ours name_cmp (name_at (drop c.args.at c.args.ours.now)) (name_at (drop c.args.there c.args.theirs.now)) c.args.ours.now c.args.theirs.now (no_name (drop c.args.at c.args.ours.now) c.in_default.ensures.found)

pub returns-in_default-take_u8 : goal.returns-in_default-take_u8
returns-in_default-take_u8 c = no_theirs name_cmp (name_at (drop c.args.at c.args.ours.now)) (name_at (drop c.args.there c.args.theirs.now)) c.args.ours.now c.args.theirs.now None (no_name (drop c.args.there c.args.theirs.now) c.in_default-take_u8.ensures.found)

pub returns-in-0-eq0 : goal.returns-in-0-eq0
returns-in-0-eq0 c =
    both_name_kinds 0 0 (drop c.args.at c.args.ours.now) (drop c.args.there c.args.theirs.now) (drop c.in-Some.at c.args.ours.now) (drop c.in-Some-take_u8.there c.args.theirs.now) c.args.ours.now c.args.theirs.now c.both_text.result
    (subst (λ k. Some (k, drop c.in-Some.at c.args.ours.now) ≡ byte_at (drop c.args.at c.args.ours.now)) c.in-0-eq0.is-0 c.in-Some.ensures.found) (subst (λ k. Some (k, drop c.in-Some-take_u8.there c.args.theirs.now) ≡ byte_at (drop c.args.there c.args.theirs.now)) c.in-0-eq0.is-1 c.in-Some-take_u8.ensures.found)
    (both_attr_names (drop c.in-Some.at c.args.ours.now) (drop c.in-Some-take_u8.there c.args.theirs.now) c.args.ours.now c.args.theirs.now c.both_text.result c.both_text.ensures)

pub returns-in-1-eq1 : goal.returns-in-1-eq1
returns-in-1-eq1 c =
    both_name_kinds 1 1 (drop c.args.at c.args.ours.now) (drop c.args.there c.args.theirs.now) (drop c.in-Some.at c.args.ours.now) (drop c.in-Some-take_u8.there c.args.theirs.now) c.args.ours.now c.args.theirs.now c.both_text-in-1-eq1.result
    (subst (λ k. Some (k, drop c.in-Some.at c.args.ours.now) ≡ byte_at (drop c.args.at c.args.ours.now)) c.in-1-eq1.is-0 c.in-Some.ensures.found) (subst (λ k. Some (k, drop c.in-Some-take_u8.there c.args.theirs.now) ≡ byte_at (drop c.args.there c.args.theirs.now)) c.in-1-eq1.is-1 c.in-Some-take_u8.ensures.found)
    (both_tag_names (drop c.in-Some.at c.args.ours.now) (drop c.in-Some-take_u8.there c.args.theirs.now) c.args.ours.now c.args.theirs.now c.both_text-in-1-eq1.result c.both_text-in-1-eq1.ensures)

pub returns-in-0-eq1 : goal.returns-in-0-eq1
returns-in-0-eq1 c =
    both_name_kinds 0 1 (drop c.args.at c.args.ours.now) (drop c.args.there c.args.theirs.now) (drop c.in-Some.at c.args.ours.now) (drop c.in-Some-take_u8.there c.args.theirs.now) c.args.ours.now c.args.theirs.now (Some (Less, c.in-Some.at, c.in-Some-take_u8.there))
    (subst (λ k. Some (k, drop c.in-Some.at c.args.ours.now) ≡ byte_at (drop c.args.at c.args.ours.now)) c.in-0-eq1.is-0 c.in-Some.ensures.found) (subst (λ k. Some (k, drop c.in-Some-take_u8.there c.args.theirs.now) ≡ byte_at (drop c.args.there c.args.theirs.now)) c.in-0-eq1.is-1 c.in-Some-take_u8.ensures.found)
    (both_attr_tag (drop c.in-Some.at c.args.ours.now) (drop c.in-Some-take_u8.there c.args.theirs.now) c.args.ours.now c.args.theirs.now c.in-Some.at c.in-Some-take_u8.there)

pub returns-in-1-eq0 : goal.returns-in-1-eq0
returns-in-1-eq0 c =
    both_name_kinds 1 0 (drop c.args.at c.args.ours.now) (drop c.args.there c.args.theirs.now) (drop c.in-Some.at c.args.ours.now) (drop c.in-Some-take_u8.there c.args.theirs.now) c.args.ours.now c.args.theirs.now (Some (Greater, c.in-Some.at, c.in-Some-take_u8.there))
    (subst (λ k. Some (k, drop c.in-Some.at c.args.ours.now) ≡ byte_at (drop c.args.at c.args.ours.now)) c.in-1-eq0.is-0 c.in-Some.ensures.found) (subst (λ k. Some (k, drop c.in-Some-take_u8.there c.args.theirs.now) ≡ byte_at (drop c.args.there c.args.theirs.now)) c.in-1-eq0.is-1 c.in-Some-take_u8.ensures.found)
    (both_tag_attr (drop c.in-Some.at c.args.ours.now) (drop c.in-Some-take_u8.there c.args.theirs.now) c.args.ours.now c.args.theirs.now c.in-Some.at c.in-Some-take_u8.there)

pub returns-in_default-2 : goal.returns-in_default-2
returns-in_default-2 c = both_no_other_name c.in-Some-take_u8.other (drop c.args.at c.args.ours.now) (drop c.args.there c.args.theirs.now) (drop c.in-Some-take_u8.there c.args.theirs.now) c.args.ours.now c.args.theirs.now c.in-Some-take_u8.ensures.found (search rules) (search rules)

pub returns-in_default-2-2 : goal.returns-in_default-2-2
returns-in_default-2-2 c = both_no_other_name c.in-Some-take_u8.other (drop c.args.at c.args.ours.now) (drop c.args.there c.args.theirs.now) (drop c.in-Some-take_u8.there c.args.theirs.now) c.args.ours.now c.args.theirs.now c.in-Some-take_u8.ensures.found (search rules) (search rules)

pub returns-in_default-2-3 : goal.returns-in_default-2-3
returns-in_default-2-3 c = both_no_name c.in-Some.kind (drop c.args.at c.args.ours.now) (drop c.args.there c.args.theirs.now) (drop c.in-Some.at c.args.ours.now) c.args.ours.now c.args.theirs.now c.in-Some.ensures.found (search rules) (search rules)
