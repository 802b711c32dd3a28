use Rattle.std.proofs.Common.{◌≡◌, ◌-◌, None, Option, drop, sym, subst, ◌∙◌, arith}
use Rattle.xa_outside.specs.Folder.{Files}
use Rattle.xa_outside.specs.NumberLaws.{PullsAtMost-more, PullsAtMost-trans}
use Rattle.record_format.specs.Fronts.{fixed}
use Rattle.record_cursor.specs.Moves.{TellsFront}
use Rattle.record_cursor.proofs.Fills.{damage-map}
use Rattle.record_cursor.specs.Fixed.{count_in}
use Rattle.record_cursor.proofs.fixed.read_fixed.Goals as goal

pub returns-in-Ok-read_count-clause-pulls : goal.returns-in-Ok-read_count-clause-pulls
returns-in-Ok-read_count-clause-pulls g c =
    let n = g.F.Folder.numbers in
    PullsAtMost-trans 10 4 (n c.args.folder.now) (n c.read_first.new.folder) (n c.read_count.new.folder) c.in-Ok.ensures.pulls c.read_count.ensures.pulls

pub returns-in-Ok-read_count-clause-inside : goal.returns-in-Ok-read_count-clause-inside
returns-in-Ok-read_count-clause-inside g c =
    let n = g.F.Folder.numbers in
    let fits = c.in-Ok.ensures.within in
    let least = fits.0 in
    let most = fits.1 in
    PullsAtMost-more 14 c.args.size (n c.args.folder.now) (n c.read_count.new.folder) (omega (arith, least, most))
    (PullsAtMost-trans 10 4 (n c.args.folder.now) (n c.read_first.new.folder) (n c.read_count.new.folder) c.in-Ok.ensures.pulls c.read_count.ensures.pulls)

pub returns-in-Ok-read_count-clause-told : goal.returns-in-Ok-read_count-clause-told
returns-in-Ok-read_count-clause-told g c = λ bytes tells. (
    let ends = c.in-Ok.ensures.told bytes tells in
    let fits = c.in-Ok.ensures.within in
    let least = fits.0 in
    let most = fits.1 in
    let later = subst (λ (t : Option Files). TellsFront t c.args.name.now c.args.size bytes) (sym c.in-Ok.ensures.reads.same_files) tells in
    ends.counted ∙ c.in-Ok-read_count.ensures.told c.args.size bytes later (omega (arith, least, most)))

pub returns-in-Err-read_count-clause-pulls : goal.returns-in-Err-read_count-clause-pulls
returns-in-Err-read_count-clause-pulls g c =
    let n = g.F.Folder.numbers in
    PullsAtMost-trans 10 4 (n c.args.folder.now) (n c.read_first.new.folder) (n c.read_count.new.folder) c.in-Ok.ensures.pulls c.read_count.ensures.pulls

pub returns-in-Err-read_count-clause-inside : goal.returns-in-Err-read_count-clause-inside
returns-in-Err-read_count-clause-inside g c =
    let n = g.F.Folder.numbers in
    let fits = c.in-Ok.ensures.within in
    let least = fits.0 in
    let most = fits.1 in
    PullsAtMost-more 14 c.args.size (n c.args.folder.now) (n c.read_count.new.folder) (omega (arith, least, most))
    (PullsAtMost-trans 10 4 (n c.args.folder.now) (n c.read_first.new.folder) (n c.read_count.new.folder) c.in-Ok.ensures.pulls c.read_count.ensures.pulls)

pub returns-in-Err-read_count-clause-told : goal.returns-in-Err-read_count-clause-told
returns-in-Err-read_count-clause-told g c = λ bytes tells. (
    let ends = c.in-Ok.ensures.told bytes tells in
    let fits = c.in-Ok.ensures.within in
    let least = fits.0 in
    let most = fits.1 in
    let later = subst (λ (t : Option Files). TellsFront t c.args.name.now c.args.size bytes) (sym c.in-Ok.ensures.reads.same_files) tells in
    damage-map c.in-Err-read_count.fault (count_in (drop (c.in-Ok.first - 4) bytes) ≡ None) (fixed bytes ≡ None) (λ e. ends.counted ∙ e)
    (c.in-Err-read_count.ensures.told c.args.size bytes later (omega (arith, least, most))))
