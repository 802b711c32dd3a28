use Rattle.std.proofs.Common.{◌≡◌, ℕ, ◌+◌, ◌<◌, IfErr, rules, length, take, drop, length-take-le, ap, subst, ◌∙◌, arith}
use Rattle.std.specs.FinMap as map
use Rattle.xa_outside.specs.Folder.{bytes_or_none}
use Rattle.record_cursor.specs.Faults.{IfDamage}
use Rattle.record_cursor.specs.declared.fault.CursorFault.{CursorFault}
use Rattle.record_cursor.proofs.Fills.{whole-front, filled-by, filled-from, front-within}
use Rattle.record_cursor.proofs.fill.fill_first.Goals as goal

pub returns-clause-told : goal.returns-clause-told
returns-clause-told g c = λ end bytes tells fits. (
    let told = g.F.Folder.files c.args.folder.now in
    let name = c.args.name.now in
    let file = bytes_or_none (map.get tells.0 name) in
    let within = front-within told name bytes end tells in
    let count = length (take c.args.size c.args.room.now) in
    let size : count ≡ c.args.size = length-take-le c.args.size c.args.room.now c.requires.within in
    filled-by c.fill_part.result _ _ (length file < c.args.at + count)
    (λ there. whole-front c.args.size c.fill_part.new.out _ (search rules) ∙ filled-from told name bytes end c.args.at count c.fill_part.new.out tells (omega (arith, size, fits)) there ∙ ap (λ n. take n (drop c.args.at bytes)) size)
    (λ short. omega (arith, short, within, fits, size))
    (c.fill_part.ensures.told tells.0 tells.1) (c.fill_part.ensures.damage tells.0 tells.1))

pub returns-clause-damage : goal.returns-clause-damage
returns-clause-damage g c = λ files is. (
    let file = bytes_or_none (map.get files c.args.name.now) in
    let size : length (take c.args.size c.args.room.now) ≡ c.args.size = length-take-le c.args.size c.args.room.now c.requires.within in
    subst (λ (n : ℕ). IfErr c.fill_part.result (λ (e : CursorFault). IfDamage e (length file < c.args.at + n))) size (c.fill_part.ensures.damage files is))
