use Rattle.std.proofs.Common.{◌++◌, ap, ◌∙◌, arith}
use Rattle.record_cursor.proofs.Headers.{joined}
use Rattle.record_cursor.proofs.front.read_rest.Goals as goal

pub returns-in-Ok-join-clause-told : goal.returns-in-Ok-join-clause-told
returns-in-Ok-join-clause-told g c = λ end bytes tells fits is. (
    let there = c.in-Ok.ensures.told end bytes tells (omega (arith, c.requires.first, fits)) in
    c.in-Ok-join.ensures ∙ ap (λ bs. c.args.front.now ++ bs) c.as_slice.ensures.value ∙ joined bytes c.args.front.now c.fill.new.self c.args.first is there (omega (arith, c.requires.first)))

pub returns-clause-told : goal.returns-clause-told
returns-clause-told g c = λ end bytes tells fits is. c.in-Err.ensures.told end bytes tells (omega (arith, c.requires.first, fits))
