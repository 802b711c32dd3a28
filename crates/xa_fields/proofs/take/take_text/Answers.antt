use Rattle.std.proofs.Common.{◌++◌, length, sym, ap, ◌∙◌}
use Rattle.std.specs.Prelude.{option_map}
use Rattle.std.proofs.lemmas.List.{take_rest}
use Rattle.xa_fields.proofs.Fields.{text_stands, not_none}
use Rattle.xa_fields.proofs.take.take_text.Goals as goal

pub returns-in_err-text-clause-again : goal.returns-in_err-text-clause-again
returns-in_err-text-clause-again c = λ text rest h e.
    let number = c.take_u32.ensures.again (length text) (text ++ rest) h.short e in
    let stands = text_stands c.args.bytes.now text rest c.args.at c.in_ok-len.len c.in_ok-len.start h e (sym c.in_ok-len.was ∙ number) in
    let answer = simp take_rest at c.as_text.ensures in
    let none = c.in_err-text.was in
    absurd (not_none _ _ stands (ap (option_map (λ s. s.now)) (sym none) ∙ answer))
