use Rattle.std.proofs.Common.{refl, ap}
use Rattle.record_cursor.specs.View.{PlainCursor, shown_item}
use Rattle.record_writer.specs.Data.{PlainWriter}
use Rattle.record_copy.specs.Faults.{of_cursor}
use Rattle.record_copy.specs.Reads.{FinishRead}
use Rattle.record_copy.specs.State.{State, beside}
use Rattle.record_copy.proofs.Passing.{Nexts, nexts, stays-by, at-err}
use Rattle.record_copy.proofs.Reading.{finish-failed, finish-read, finish-damage}
use Rattle.record_copy.proofs.finish.read_finish.Given.{Over}
use Rattle.record_copy.proofs.finish.read_finish.Goals.{In_ok-next}
use Rattle.record_copy.proofs.finish.read_finish.Goals as goal

abbrev at : (g : Over) → g.row.F.Denot → PlainCursor → PlainWriter → State
at g = (let f = g.F.Folder in beside f.files f.draft f.numbers f.faults)

-- the item that was given
read : (g : Over) (c : In_ok-next g) (w : PlainWriter) → Nexts (at g c.args.folder.now c.args.cursor.now w) (at g c.next.new.folder c.next.follows.lender-at-none w) c.in_ok-next.field-0
read g c w =
    let i = c.in_ok-next in
    nexts (at g c.args.folder.now c.args.cursor.now w) (at g c.next.new.folder c.next.follows.lender-at-none w) c.next.result i.field-0 (g.met.F.Folder.metered c.next.new.folder) i.was i.ensures.files i.ensures.draft refl i.ensures.numbers i.ensures.later
    c.next.follows.holds-at-none

pub returns-in_err-next : goal.returns-in_err-next
returns-in_err-next g c w n =
    let e = c.in_err-next in
    let s = at g c.args.folder.now c.args.cursor.now w in
    let t = at g c.next.new.folder c.next.follows.lender-at-none w in
    let stays = stays-by s t c.next.result e.field-0.0 e.was e.ensures.files e.ensures.draft e.ensures.pulls e.ensures.later e.ensures.cause e.ensures.undamaged c.next.follows.holds-at-none in
    at-err c.from_residual.result (of_cursor e.field-0.0) c.from_residual.ensures.1 (λ r. FinishRead n s t r) (finish-failed n s t e.field-0.0 c.requires.within stays)

pub returns-in-Finish : goal.returns-in-Finish
returns-in-Finish g c w n =
    let s = at g c.args.folder.now c.args.cursor.now w in
    let t = at g c.next.new.folder c.next.follows.lender-at-none w in
    finish-read n s t c.in_ok-next.field-0 (ap shown_item c.in-Finish.is) (read g (goal.at.returns-in-Finish g c).In_ok-next w)

pub returns-in_default : goal.returns-in_default
returns-in_default g c w n =
    let s = at g c.args.folder.now c.args.cursor.now w in
    let t = at g c.next.new.folder c.next.follows.lender-at-none w in
    finish-damage n s t c.in_ok-next.field-0 c.in_default.not-Finish (read g (goal.at.returns-in_default g c).In_ok-next w)
