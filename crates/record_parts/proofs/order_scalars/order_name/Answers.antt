use Rattle.std.proofs.Common.{rules, ◌≡◌, drop, Some, sym, subst}
use Rattle.std.specs.declared.cmp.Ordering.TheVariants.{Less, Greater}
use Rattle.keyed_tree.specs.LentView.{shown_name}
use Rattle.keyed_tree.specs.Order.{name_cmp}
use Rattle.xa_fields.specs.Reading.{byte_at}
use Rattle.record_parts.specs.Compares.{Compares}
use Rattle.record_parts.specs.Reading.{name_at}
use Rattle.record_parts.proofs.TextOrders.{name_fails, of_no_name_kind, attr_attr, attr_tag, tag_attr, tag_tag}
use Rattle.record_parts.proofs.order_scalars.order_name.Goals as goal

pub returns-in_default : goal.returns-in_default
returns-in_default c = name_fails (drop c.args.at c.args.bytes.now) c.args.bytes.now (shown_name c.args.other) c.in_default.ensures.found

pub returns-in-0-Attr : goal.returns-in-0-Attr
returns-in-0-Attr c =
    let kind = subst (λ k. Some (k, drop c.in-Some.at c.args.bytes.now) ≡ byte_at (drop c.args.at c.args.bytes.now)) c.in-0-Attr.is-0 c.in-Some.ensures.found in
    subst (λ m. Compares (λ n. name_cmp n (shown_name m)) (name_at (drop c.args.at c.args.bytes.now)) c.args.bytes.now c.order_text.result) (sym c.in-0-Attr.is-1)
    (attr_attr (drop c.args.at c.args.bytes.now) (drop c.in-Some.at c.args.bytes.now) c.args.bytes.now c.in-0-Attr.other.now c.order_text.result kind c.order_text.ensures)

pub returns-in-0-Tag : goal.returns-in-0-Tag
returns-in-0-Tag c =
    let kind = subst (λ k. Some (k, drop c.in-Some.at c.args.bytes.now) ≡ byte_at (drop c.args.at c.args.bytes.now)) c.in-0-Tag.is-0 c.in-Some.ensures.found in
    subst (λ m. Compares (λ n. name_cmp n (shown_name m)) (name_at (drop c.args.at c.args.bytes.now)) c.args.bytes.now (Some (Less, c.in-Some.at))) (sym c.in-0-Tag.is-1)
    (attr_tag (drop c.args.at c.args.bytes.now) (drop c.in-Some.at c.args.bytes.now) c.args.bytes.now c.in-0-Tag.field-0-1.now c.in-Some.at kind)

pub returns-in-1-Attr : goal.returns-in-1-Attr
returns-in-1-Attr c =
    let kind = subst (λ k. Some (k, drop c.in-Some.at c.args.bytes.now) ≡ byte_at (drop c.args.at c.args.bytes.now)) c.in-1-Attr.is-0 c.in-Some.ensures.found in
    subst (λ m. Compares (λ n. name_cmp n (shown_name m)) (name_at (drop c.args.at c.args.bytes.now)) c.args.bytes.now (Some (Greater, c.in-Some.at))) (sym c.in-1-Attr.is-1)
    (tag_attr (drop c.args.at c.args.bytes.now) (drop c.in-Some.at c.args.bytes.now) c.args.bytes.now c.in-1-Attr.field-0-1.now c.in-Some.at kind)

pub returns-in-1-Tag : goal.returns-in-1-Tag
returns-in-1-Tag c =
    let kind = subst (λ k. Some (k, drop c.in-Some.at c.args.bytes.now) ≡ byte_at (drop c.args.at c.args.bytes.now)) c.in-1-Tag.is-0 c.in-Some.ensures.found in
    subst (λ m. Compares (λ n. name_cmp n (shown_name m)) (name_at (drop c.args.at c.args.bytes.now)) c.args.bytes.now c.order_text-in-1-Tag.result) (sym c.in-1-Tag.is-1)
    (tag_tag (drop c.args.at c.args.bytes.now) (drop c.in-Some.at c.args.bytes.now) c.args.bytes.now c.in-1-Tag.other.now c.order_text-in-1-Tag.result kind c.order_text-in-1-Tag.ensures)

pub returns-in_default-2 : goal.returns-in_default-2
returns-in_default-2 c = of_no_name_kind c.in-Some.kind (drop c.args.at c.args.bytes.now) (drop c.in-Some.at c.args.bytes.now) c.args.bytes.now (shown_name c.args.other) c.in-Some.ensures.found (search rules) (search rules)
