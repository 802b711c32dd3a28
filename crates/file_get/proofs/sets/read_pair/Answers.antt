use Rattle.std.proofs.Common.{◌≡◌, ℕ, ◌∙◌, refl}
use Rattle.record_cursor.proofs.Fills.{filled-from, never-short}
use Rattle.file_get.proofs.Openings.{filled-some}
use Rattle.file_get.proofs.sets.read_pair.Goals as goal

pub returns-in-Ok-clause-told : goal.returns-in-Ok-clause-told
returns-in-Ok-clause-told g c = λ last bytes p tells fits stands first ordered end. (
    let read = filled-from (g.F.Folder.files c.args.folder.now) c.args.ask.now.name.now bytes last c.args.at 8 c.fill_part.new.out tells fits (c.in-Ok.ensures.told tells.0 tells.1) in
    filled-some c.pair_of.result _ c.ok_or.result p (λ (q : ℕ × ℕ). q ≡ p) c.ok_or.ensures.value (c.pair_of.ensures.told p first ordered end (read ∙ stands)) refl)

pub returns-in-Err-clause-told : goal.returns-in-Err-clause-told
returns-in-Err-clause-told g c = λ last bytes p tells fits stands first ordered end. (
    never-short (g.F.Folder.files c.args.folder.now) c.args.ask.now.name.now bytes last c.args.at 8 c.in-Err.fault tells fits (c.in-Err.ensures.damage tells.0 tells.1))
