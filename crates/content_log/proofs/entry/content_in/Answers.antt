use Rattle.std.proofs.Common.{◌≡◌, ℕ, ◌-◌, List, length, take, drop, Some, sym, subst, arith}
use Rattle.std.proofs.lemmas.List.{take_all, length-drop}
use Rattle.content_log.specs.Entries.{ContentIs}
use Rattle.content_log.proofs.Entering.{content-told}
use Rattle.content_log.proofs.entry.content_in.Goals as goal

pub returns-in-Some-eq1-default : goal.returns-in-Some-eq1-default
returns-in-Some-eq1-default c = λ b is e. (
    let i = c.in-Some-eq1-default in
    let value = c.args.value.now in
    let rest : List ℕ = drop i.at value in
    let whole : take (length value - i.at) rest ≡ rest = take_all (length value - i.at) rest (omega (arith, length-drop i.at value)) in
    subst (λ (bs : List ℕ). ContentIs b (Some bs)) (sym whole) ((content-told b value i.field-0-0 rest is e (sym i.ensures.found)).0 (let test = i.field-0-0-test in grind (arith))))
