use Rattle.std.proofs.Common.{◌≡◌, ◌-◌, List, ℕ, take, drop, subst}
use Rattle.jsonml_tree.specs.LentAttrs.{lent_scalar_view}
use Rattle.jsonml_print.specs.Printed.{scalar_text}
use Rattle.jsonml_text.proofs.Words.{HasScalar-word}
use Rattle.jsonml_text.proofs.word.read_word.Goals as goal

pub returns-clause-scalar : goal.returns-clause-scalar
returns-clause-scalar c =
    let d = c.args.text.now in
    let end = c.word_end-end in
    let x = lent_scalar_view c.in_ok-scalar.scalar in
    let written : take (end.result - c.args.at) (drop c.args.at d) ≡ scalar_text x =
    subst (λ (l : List ℕ). take (end.result - c.args.at) (drop c.args.at l) ≡ scalar_text x) c.as_bytes.ensures.value c.in_ok-scalar.ensures.text in
    HasScalar-word d c.args.at end.result c.skip_blanks.result x end.ensures.later written c.in_ok-scalar.ensures.word c.in_ok-scalar.ensures.in_range end.ensures.ended c.skip_blanks.ensures.same c.skip_blanks.ensures.later c.skip_blanks.ensures.within
