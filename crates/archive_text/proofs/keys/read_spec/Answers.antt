use Rattle.std.proofs.Common.{◌∙◌}
use Rattle.archive_text.proofs.Found.{hands_on}
use Rattle.archive_text.proofs.keys.read_spec.Goals as goal

pub returns-in_err-spec-clause-found : goal.returns-in_err-spec-clause-found
returns-in_err-spec-clause-found c = λ rules lines l rest closes short other h. (
    let text = c.as_bytes.ensures.value ∙ (c.in_ok-text.ensures.found lines l rest other h).0 in
    hands_on _ _ c.from_residual-in_err-spec.result c.in_err-spec.field-0.0 c.from_residual-in_err-spec.ensures.1 (c.in_err-spec.ensures rules (rw text closes) (rw text short)))
