use Rattle.std.proofs.Common.{◌≡◌, length, refl, ◌∙◌, arith}
use Rattle.timestamp_tree.proofs.Trees.{length-set_bytes}
use Rattle.record_cursor.proofs.Fills.{filled-from, never-short}
use Rattle.file_get.proofs.Openings.{filled-some}
use Rattle.file_get.proofs.Bodies.{count-stands, set-few}
use Rattle.file_get.proofs.body.read_count.Goals as goal

pub returns-in-Ok-clause-told : goal.returns-in-Ok-clause-told
returns-in-Ok-clause-told g c = λ last bytes s tells within stands fits is. (
    let long = length-set_bytes s in
    let four = filled-from (g.F.Folder.files c.args.folder.now) c.args.ask.now.name.now bytes last c.args.at 4 c.fill_part.new.out tells (omega (arith, fits, long, within)) (c.in-Ok.ensures.told tells.0 tells.1) in
    let read = four ∙ count-stands bytes c.args.at s stands in
    let found = c.count_within.ensures.told (length s) (set-few s is) (omega (arith, fits, long)) read in
    filled-some c.count_within.result _ c.ok_or.result (length s) (λ n. n ≡ length s) c.ok_or.ensures.value found refl)

pub returns-in-Err-clause-told : goal.returns-in-Err-clause-told
returns-in-Err-clause-told g c = λ last bytes s tells within stands fits is. (
    never-short (g.F.Folder.files c.args.folder.now) c.args.ask.now.name.now bytes last c.args.at 4 c.in-Err.fault tells (omega (arith, fits, length-set_bytes s, within)) (c.in-Err.ensures.damage tells.0 tells.1))
