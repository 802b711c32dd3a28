use Rattle.std.proofs.Common.{◌≡◌, ℕ, ◌-◌, true, length, take, drop, Some, None, rules, sym, ap, ◌∙◌, arith}
use Rattle.std.specs.Int.{w64}
use Rattle.std.specs.Str.{bytes_eq}
use Rattle.xa_fields.specs.Reading.{number_at}
use Rattle.version_notes.specs.Notes.{mark}
use Rattle.version_notes.proofs.Endings.{ending_spelled, parts_none, parts_over, parts_some}
use Rattle.version_notes.proofs.parts.Parts.by_ending.Goals as goal

pub returns-in_default-clause-told : goal.returns-in_default-clause-told
returns-in_default-clause-told c = λ bytes size is. (
    let end = c.args.ending.now in
    let marked : bytes_eq mark (drop (length end - 8) end) ≡ true = search rules in
    let number : number_at w64 (take (length end - 8) end) ≡ None = search rules in
    parts_none bytes end is marked number)

pub returns-in-Some-checked_sub-clause-told : goal.returns-in-Some-checked_sub-clause-told
returns-in-Some-checked_sub-clause-told c = λ bytes size is. (
    let end = c.args.ending.now in
    let marked : bytes_eq mark (drop (length end - 8) end) ≡ true = search rules in
    let number = sym c.in-Some.ensures.found in
    let core = c.in-Some-checked_sub.ensures in
    let spelled = ending_spelled end _ c.in-Some.notes (λ i. omega (arith, c.type_inv.ending i)) (omega (arith, c.requires)) marked number in
    let some = parts_some bytes end is c.in-Some.notes _ marked number spelled (omega (arith, size, core.0)) in
    some ∙ ap (λ (k : ℕ). Some (record { core = k; notes = Some c.in-Some.notes })) (omega (arith, size, core.1)))

pub returns-in-None-clause-told : goal.returns-in-None-clause-told
returns-in-None-clause-told c = λ bytes size is. (
    let end = c.args.ending.now in
    let marked : bytes_eq mark (drop (length end - 8) end) ≡ true = search rules in
    let number = sym c.in-Some.ensures.found in
    let over = c.in-None.ensures in
    parts_over bytes end is c.in-Some.notes _ marked number (omega (arith, size, over)))
