use Rattle.std.proofs.Common.{ℕ, ◌*◌, ◌-◌, ◌<◌, Bool, None, Some, Ok, refl, ap, subst, arith}
use Rattle.record_cursor.specs.View.{PlainCursor, shown_item}
use Rattle.record_parts.specs.ShownViews.{shown_label, shown_stamp}
use Rattle.record_writer.specs.Data.{PlainWriter}
use Rattle.record_copy.specs.State.{State, beside}
use Rattle.record_copy.proofs.Passing.{Nexts, nexts, stays-by, at-err, nobody}
use Rattle.archive_cut.specs.Skipped.{RowSkipped, ChildSkipped, ended_by}
use Rattle.archive_cut.proofs.Skips.{child-failed, child-ended, child-damage, child-inner, child-leaf, row-start, row-on, row-done, row-fault}
use Rattle.archive_cut.proofs.skip.+skip.Given.{Over}
use Rattle.archive_cut.proofs.skip.+skip.Goals.{skip_child-In_ok-next}
use Rattle.archive_cut.proofs.skip.+skip.Goals as goal

abbrev at : (g : Over) → g.row.F.Denot → PlainCursor → PlainWriter → State
at g = (let f = g.F.Folder in beside f.files f.draft f.numbers f.faults)

-- the item that was given
read : (g : Over) (t : ℕ) (c : skip_child-In_ok-next g t) (w : PlainWriter) → Nexts (at g c.args.folder.now c.args.cursor.now w) (at g c.next.new.folder c.next.follows.lender-at-none w) c.in_ok-next.field-0
read g t c w =
    let i = c.in_ok-next in
    nexts (at g c.args.folder.now c.args.cursor.now w) (at g c.next.new.folder c.next.follows.lender-at-none w) c.next.result i.field-0 (g.met.F.Folder.metered c.next.new.folder) i.was i.ensures.files i.ensures.draft refl i.ensures.numbers i.ensures.later
    c.next.follows.holds-at-none

pub skip_child-returns-in_err-next : goal.skip_child-returns-in_err-next
skip_child-returns-in_err-next g t c w =
    let e = c.in_err-next in
    let s = at g c.args.folder.now c.args.cursor.now w in
    let p = at g c.next.new.folder c.next.follows.lender-at-none w in
    let stays = stays-by s p c.next.result e.field-0.0 e.was e.ensures.files e.ensures.draft e.ensures.pulls e.ensures.later e.ensures.cause e.ensures.undamaged c.next.follows.holds-at-none in
    at-err c.from_residual.result e.field-0.0 c.from_residual.ensures.1 (λ z. ChildSkipped s p z) (child-failed s p e.field-0.0 c.requires.within stays)

pub skip_child-returns-in_err-skip_row-in-Inner : goal.skip_child-returns-in_err-skip_row-in-Inner
skip_child-returns-in_err-skip_row-in-Inner g t c w =
    let z = goal.at.skip_child-returns-in_err-skip_row-in-Inner g t c in
    let s = at g c.args.folder.now c.args.cursor.now w in
    let p = at g c.next.new.folder c.next.follows.lender-at-none w in
    let u = at g c.skip_row.new.folder c.skip_row.new.cursor w in
    let i = c.in-Inner in
    let e = c.in_err-skip_row-in-Inner in
    let r = c.from_residual-in_err-skip_row-in-Inner in
    at-err r.result e.field-0.0 r.ensures.1 (λ d. ChildSkipped s u d) (child-inner s p u c.in_ok-next.field-0 (Some e.field-0.0) (shown_label i.label) (shown_stamp i.stamp) (ap shown_item i.is) (read g t z.In_ok-next w) (e.ensures w))

pub skip_child-returns-in_err-skip_alts-in-Leaf : goal.skip_child-returns-in_err-skip_alts-in-Leaf
skip_child-returns-in_err-skip_alts-in-Leaf g t c w =
    let z = goal.at.skip_child-returns-in_err-skip_alts-in-Leaf g t c in
    let s = at g c.args.folder.now c.args.cursor.now w in
    let p = at g c.next.new.folder c.next.follows.lender-at-none w in
    let u = at g c.skip_alts.new.folder c.skip_alts.new.cursor w in
    let i = c.in-Leaf in
    let e = c.in_err-skip_alts-in-Leaf in
    let r = c.from_residual-in_err-skip_alts-in-Leaf in
    at-err r.result e.field-0.0 r.ensures.1 (λ d. ChildSkipped s u d) (child-leaf s p u c.in_ok-next.field-0 (Some e.field-0.0) (shown_label i.label) (shown_stamp i.stamp) (ap shown_item i.is) (read g t z.In_ok-next w) (e.ensures w))

pub skip_child-returns-in-End : goal.skip_child-returns-in-End
skip_child-returns-in-End g t c w =
    child-ended (at g c.args.folder.now c.args.cursor.now w) (at g c.next.new.folder c.next.follows.lender-at-none w) c.in_ok-next.field-0 _ (ap shown_item c.in-End.is) (read g t (goal.at.skip_child-returns-in-End g t c).In_ok-next w)

pub skip_child-returns-in_default : goal.skip_child-returns-in_default
skip_child-returns-in_default g t c w =
    let d = c.in_default in
    child-damage (at g c.args.folder.now c.args.cursor.now w) (at g c.next.new.folder c.next.follows.lender-at-none w) c.in_ok-next.field-0 d.not-Inner d.not-Leaf d.not-End (read g t (goal.at.skip_child-returns-in_default g t c).In_ok-next w)

pub skip_child-returns-in_ok-skip_row-in-Inner : goal.skip_child-returns-in_ok-skip_row-in-Inner
skip_child-returns-in_ok-skip_row-in-Inner g t c w =
    let z = goal.at.skip_child-returns-in_ok-skip_row-in-Inner g t c in
    let s = at g c.args.folder.now c.args.cursor.now w in
    let p = at g c.next.new.folder c.next.follows.lender-at-none w in
    let u = at g c.skip_row.new.folder c.skip_row.new.cursor w in
    let i = c.in-Inner in
    child-inner s p u c.in_ok-next.field-0 None (shown_label i.label) (shown_stamp i.stamp) (ap shown_item i.is) (read g t z.In_ok-next w) (c.in_ok-skip_row-in-Inner.ensures w)

pub skip_child-returns-in_ok-skip_alts-in-Leaf : goal.skip_child-returns-in_ok-skip_alts-in-Leaf
skip_child-returns-in_ok-skip_alts-in-Leaf g t c w =
    let z = goal.at.skip_child-returns-in_ok-skip_alts-in-Leaf g t c in
    let s = at g c.args.folder.now c.args.cursor.now w in
    let p = at g c.next.new.folder c.next.follows.lender-at-none w in
    let u = at g c.skip_alts.new.folder c.skip_alts.new.cursor w in
    let i = c.in-Leaf in
    child-leaf s p u c.in_ok-next.field-0 None (shown_label i.label) (shown_stamp i.stamp) (ap shown_item i.is) (read g t z.In_ok-next w) (c.in_ok-skip_alts-in-Leaf.ensures w)

pub skip_row-skip_child-requires : goal.skip_row-skip_child-requires
skip_row-skip_child-requires g t c κs within' =
    let l = c.loop in
    let on = l.invariant nobody in
    let onward = on.onward in
    let long = on.same_length in
    let within = on.within in
    let less : 2 * (l.cursor.length - l.cursor.at) < t = omega (arith, onward, long, within, c.decreases) in
    (less, (within', within))

pub skip_row-loop-init : goal.skip_row-loop-init
skip_row-loop-init g t c w = row-start (at g c.args.folder.now c.args.cursor.now w) c.requires.within

pub skip_row-returns-in_err-skip_child : goal.skip_row-returns-in_err-skip_child
skip_row-returns-in_err-skip_child g t c w =
    let l = c.loop in
    let on = l.invariant w in
    let s = at g c.args.folder.now c.args.cursor.now w in
    let m = at g l.folder l.cursor w in
    let u = at g c.skip_child.new.folder c.skip_child.new.cursor w in
    let e = c.in_err-skip_child in
    at-err c.from_residual.result e.field-0.0 c.from_residual.ensures.1 (λ z. RowSkipped s u (ended_by z)) (on.rest u (Some e.field-0.0) (row-fault m u e.field-0.0 (e.ensures w)))

pub skip_row-loop-smaller : goal.skip_row-loop-smaller
skip_row-loop-smaller g t c =
    let h = c.in_ok-skip_child.ensures nobody in
    let passes = h.passes in
    let onward = h.onward in
    let long = passes.same_length in
    let within = passes.within in
    omega (arith, onward, long, within)

pub skip_row-loop-preserved : goal.skip_row-loop-preserved
skip_row-loop-preserved g t c w =
    let l = c.loop in
    let s = at g c.args.folder.now c.args.cursor.now w in
    let m = at g l.folder l.cursor w in
    let u = at g c.skip_child.new.folder c.skip_child.new.cursor w in
    row-on s m u (l.invariant w) (subst (λ (more : Bool). ChildSkipped m u (Ok more)) c.if-branch.true (c.in_ok-skip_child.ensures w))

pub skip_row-returns : goal.skip_row-returns
skip_row-returns g t c w =
    let l = c.loop in
    let on = l.invariant w in
    let m = at g l.folder l.cursor w in
    let u = at g c.skip_child.new.folder c.skip_child.new.cursor w in
    on.rest u None (row-done m u (subst (λ (more : Bool). ChildSkipped m u (Ok more)) c.if-branch.false (c.in_ok-skip_child.ensures w)))
