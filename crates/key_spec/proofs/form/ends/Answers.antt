use Rattle.std.proofs.Common.{◌≡◌, ℕ, List, Some, None, sym, ap, ◌∙◌, Bor, option_map, option_and_then}
use Rattle.key_spec.specs.Form.{tokens, behind}
use Rattle.key_spec.proofs.FormLemmas.{is_end-neither, is_end-both}
use Rattle.key_spec.proofs.form.ends.Goals as goal

pub returns-in_default : goal.returns-in_default
returns-in_default c =
    let none : option_and_then (behind 41) (behind 41 (tokens c.args.line.now)) ≡ None = sym c.behind_both.ensures ∙ ap (option_map (λ (r : Bor (List ℕ)). tokens r.now)) c.in_default.is in
    sym (is_end-neither (tokens c.args.line.now) none)

pub returns : goal.returns
returns c =
    let line = c.args.line.now in
    let rest = c.in-Some.rest.now in
    let both : option_and_then (behind 41) (behind 41 (tokens line)) ≡ Some (tokens rest) = sym c.behind_both.ensures ∙ ap (option_map (λ (r : Bor (List ℕ)). tokens r.now)) c.in-Some.is in
    c.is_empty.ensures ∙ sym (is_end-both (tokens line) rest c.trimmed.result.now both c.trimmed.ensures)
