use Rattle.std.proofs.Common.{◌≡◌, inl, true, false, refl, sym, ◌∙◌}
use Rattle.xarch_run.specs.Lines.{is_blank}
use Rattle.xarch_run.proofs.TurnLemmas.{runs-blank, runs-ended, runs-unread}
use Rattle.xarch_run.proofs.turn.run_line.Goals as goal

pub returns-then-is_blank-clause-runs : goal.returns-then-is_blank-clause-runs
returns-then-is_blank-clause-runs g c = λ bytes s.
    let blank : is_blank bytes ≡ true = sym s.blank ∙ sym c.is_blank.ensures ∙ c.if-is_blank.true in
    runs-blank _ _ _ _ _ bytes blank refl

pub returns-in-Ok-clause-runs : goal.returns-in-Ok-clause-runs
returns-in-Ok-clause-runs g c = λ bytes s.
    let other : is_blank bytes ≡ false = sym s.blank ∙ sym c.is_blank.ensures ∙ c.if-is_blank.false in
    runs-ended _ _ _ _ _ _ _ _ _ _ _ _ _ bytes c.in-Ok.status c.end_line.result c.take_line.ensures.err_later c.end_line.ensures.err_later other c.in-Ok.ensures.never_input_fault
    (c.in-Ok.ensures.takes bytes s) c.end_line.ensures.ends

pub returns-in-Err-clause-runs : goal.returns-in-Err-clause-runs
returns-in-Err-clause-runs g c = λ bytes s.
    let other : is_blank bytes ≡ false = sym s.blank ∙ sym c.is_blank.ensures ∙ c.if-is_blank.false in
    (other, inl (runs-unread _ _ _ _ _ _ _ _ _ _ c.say.result c.in-Err.ensures.no_words c.say.ensures.status c.say.ensures.line))
