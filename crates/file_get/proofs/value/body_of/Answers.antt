use Rattle.std.proofs.Common.{◌≡◌, ℕ, List, drop, Some, None, rules, sym, ap, ◌∙◌, arith}
use Rattle.xa_fields.specs.Reading.{byte_at}
use Rattle.jsonml_tree.specs.LentAttrs.{lent_scalar_view}
use Rattle.file_get.specs.LeafBodies.{body_found, whole_inside}
use Rattle.file_get.proofs.Bodies.{behind-kind, no-kind, no-scalar, scalar-more, scalar-whole, content-whole, other-kind}
use Rattle.file_get.proofs.value.body_of.Goals as goal

pub returns-in_err-kind : goal.returns-in_err-kind
returns-in_err-kind c = (let none : c.from_residual.result ≡ None = search rules in ap body_found none ∙ sym (no-kind c.args.bytes.now c.args.bytes.now (sym c.in_err-kind.ensures.found)))

pub returns-in_err-value-in-0 : goal.returns-in_err-value-in-0
returns-in_err-value-in-0 c =
    let bytes = c.args.bytes.now in
    let rest : List ℕ = drop c.in_ok-kind.at bytes in
    let none : c.from_residual-in_err-value-in-0.result ≡ None = search rules in
    let kind : byte_at bytes ≡ Some (0, rest) = sym c.in_ok-kind.ensures.found ∙ ap (λ (n : ℕ). Some (n, rest)) c.in-0.is in
    ap body_found none ∙ sym (no-scalar bytes rest kind (sym c.in_err-value-in-0.ensures.found))

pub returns-then-behind-bytes : goal.returns-then-behind-bytes
returns-then-behind-bytes c =
    let bytes = c.args.bytes.now in
    let rest : List ℕ = drop c.in_ok-kind.at bytes in
    let v = c.in_ok-value-in-0 in
    let kind : byte_at bytes ≡ Some (0, rest) = sym c.in_ok-kind.ensures.found ∙ ap (λ (n : ℕ). Some (n, rest)) c.in-0.is in
    sym (scalar-more bytes rest (lent_scalar_view v.value) v.behind bytes kind (sym v.ensures.found) c.if-behind-bytes.true)

pub returns-else-behind-bytes : goal.returns-else-behind-bytes
returns-else-behind-bytes c =
    let bytes = c.args.bytes.now in
    let rest : List ℕ = drop c.in_ok-kind.at bytes in
    let v = c.in_ok-value-in-0 in
    let kind : byte_at bytes ≡ Some (0, rest) = sym c.in_ok-kind.ensures.found ∙ ap (λ (n : ℕ). Some (n, rest)) c.in-0.is in
    sym (scalar-whole bytes rest (lent_scalar_view v.value) v.behind bytes kind (sym v.ensures.found) c.if-behind-bytes.false)

pub returns-in-1 : goal.returns-in-1
returns-in-1 c =
    let bytes = c.args.bytes.now in
    let rest : List ℕ = drop c.in_ok-kind.at bytes in
    let kind : byte_at bytes ≡ Some (1, rest) = sym c.in_ok-kind.ensures.found ∙ ap (λ (n : ℕ). Some (n, rest)) c.in-1.is in
    ap whole_inside (behind-kind c.in_ok-kind.at bytes) ∙ content-whole bytes rest kind

pub returns-in_default : goal.returns-in_default
returns-in_default c =
    let bytes = c.args.bytes.now in
    sym (other-kind bytes (drop c.in_ok-kind.at bytes) c.in_ok-kind.kind (sym c.in_ok-kind.ensures.found) (grind (arith)))
