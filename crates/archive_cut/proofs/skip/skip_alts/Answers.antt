use Rattle.std.proofs.Common.{None, refl, ap}
use Rattle.record_cursor.specs.View.{PlainCursor, shown_item}
use Rattle.record_parts.specs.ShownViews.{shown_stamp, shown_body}
use Rattle.record_writer.specs.Data.{PlainWriter}
use Rattle.record_copy.specs.State.{State, beside}
use Rattle.record_copy.proofs.Passing.{Nexts, nexts, stays-by, passes-none, at-err}
use Rattle.archive_cut.specs.Skipped.{AltsSkipped, ended_by}
use Rattle.archive_cut.proofs.Skips.{skip-start, skip-on, skip-ended, skip-failed, skip-damage}
use Rattle.archive_cut.proofs.skip.skip_alts.Given.{Over}
use Rattle.archive_cut.proofs.skip.skip_alts.Goals.{In_ok-next}
use Rattle.archive_cut.proofs.skip.skip_alts.Goals as goal

abbrev at : (g : Over) → g.row.F.Denot → PlainCursor → PlainWriter → State
at g = (let f = g.F.Folder in beside f.files f.draft f.numbers f.faults)

-- the item that was given
read : (g : Over) (c : In_ok-next g) (w : PlainWriter) → Nexts (at g c.loop.folder c.loop.cursor w) (at g c.next.new.folder c.next.follows.lender-at-none w) c.in_ok-next.field-0
read g c w =
    let l = c.loop in
    let i = c.in_ok-next in
    nexts (at g l.folder l.cursor w) (at g c.next.new.folder c.next.follows.lender-at-none w) c.next.result i.field-0 (g.met.F.Folder.metered c.next.new.folder) i.was i.ensures.files i.ensures.draft refl i.ensures.numbers i.ensures.later
    c.next.follows.holds-at-none

pub loop-init : goal.loop-init
loop-init g c = λ w. skip-start (at g c.args.folder.now c.args.cursor.now w) (passes-none (at g c.args.folder.now c.args.cursor.now w) None (g.met.F.Folder.metered c.args.folder.now) c.requires.within (λ e. absurd cc))

pub returns-in_err-next : goal.returns-in_err-next
returns-in_err-next g c w =
    let l = c.loop in
    let e = c.in_err-next in
    let r = at g c.args.folder.now c.args.cursor.now w in
    let s = at g l.folder l.cursor w in
    let t = at g c.next.new.folder c.next.follows.lender-at-none w in
    let stays = stays-by s t c.next.result e.field-0.0 e.was e.ensures.files e.ensures.draft e.ensures.pulls e.ensures.later e.ensures.cause e.ensures.undamaged c.next.follows.holds-at-none in
    at-err c.from_residual.result e.field-0.0 c.from_residual.ensures.1 (λ z. AltsSkipped r t (ended_by z)) (skip-failed r s t e.field-0.0 (l.invariant w) stays)

pub loop-preserved : goal.loop-preserved
loop-preserved g c w =
    let l = c.loop in
    let a = c.in-Alt in
    skip-on (at g c.args.folder.now c.args.cursor.now w) (at g l.folder l.cursor w) (at g c.next.new.folder c.next.follows.lender-at-none w) c.in_ok-next.field-0 (shown_stamp a.stamp) (shown_body a.body) (ap shown_item a.is) (l.invariant w)
    (read g (goal.at.loop-preserved g c).In_ok-next w)

pub returns-in-LeafEnd : goal.returns-in-LeafEnd
returns-in-LeafEnd g c w =
    let l = c.loop in
    skip-ended (at g c.args.folder.now c.args.cursor.now w) (at g l.folder l.cursor w) (at g c.next.new.folder c.next.follows.lender-at-none w) c.in_ok-next.field-0 (ap shown_item c.in-LeafEnd.is) (l.invariant w)
    (read g (goal.at.returns-in-LeafEnd g c).In_ok-next w)

pub returns-in_default : goal.returns-in_default
returns-in_default g c w =
    let l = c.loop in
    let d = c.in_default in
    skip-damage (at g c.args.folder.now c.args.cursor.now w) (at g l.folder l.cursor w) (at g c.next.new.folder c.next.follows.lender-at-none w) c.in_ok-next.field-0 d.not-Alt d.not-LeafEnd (l.invariant w)
    (read g (goal.at.returns-in_default g c).In_ok-next w)
