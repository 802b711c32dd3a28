use Rattle.std.proofs.Common.{rules, take, drop, ap, ◌∙◌}
use Rattle.record_cursor.proofs.Fills.{whole-front, filled-from, never-short}
use Rattle.record_cursor.proofs.buffer.fill_long.Goals as goal

pub returns-in-Ok-clause-told : goal.returns-in-Ok-clause-told
returns-in-Ok-clause-told g c = λ end bytes tells fits. (
    let there = filled-from (g.F.Folder.files c.args.folder.now) c.args.name.now bytes end c.args.at _ c.fill_part.new.out tells (search rules) (c.in-Ok.ensures.told tells.0 tells.1) in
    whole-front _ c.fill_part.new.out _ (search rules) ∙ there ∙ ap (λ n. take n (drop c.args.at bytes)) (search rules))

pub returns-in-Err-clause-told : goal.returns-in-Err-clause-told
returns-in-Err-clause-told g c = λ end bytes tells fits. (
    never-short (g.F.Folder.files c.args.folder.now) c.args.name.now bytes end c.args.at _ c.in-Err.fault tells (search rules) (c.in-Err.ensures.damage tells.0 tells.1))
