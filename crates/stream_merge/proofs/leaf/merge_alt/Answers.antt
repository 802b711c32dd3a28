use Rattle.std.proofs.Common.{Ok, Err, refl, ap}
use Rattle.archive_tree.specs.View.{stamp_view}
use Rattle.record_cursor.specs.View.{PlainCursor, shown_item}
use Rattle.record_parts.specs.ShownViews.{shown_body}
use Rattle.record_writer.specs.Data.{call_alt}
use Rattle.record_writer.specs.declared.writer.Writer.{Writer}
use Rattle.record_copy.specs.State.{State, state}
use Rattle.stream_merge.proofs.OneAlt.{alt-handed, alt-failed, alt-stopped, alt-sent, alt-unsent, alt-end, alt-other}
use Rattle.stream_merge.proofs.States.{Nexts, call-sends, nexts, stays-by}
use Rattle.stream_merge.proofs.leaf.merge_alt.Given.{Over}
use Rattle.stream_merge.proofs.leaf.merge_alt.Goals.{In_ok-stamp}
use Rattle.stream_merge.proofs.leaf.merge_alt.Goals as goal

abbrev at : (g : Over) → g.row.F.Denot → PlainCursor → Writer → State
at g = (let f = g.F.Folder in state f.files f.draft f.numbers f.faults)

-- the item was given
read : (g : Over) (c : In_ok-stamp g) → Nexts (at g c.args.folder.now c.args.cursor.now c.args.writer.now) (at g c.next.new.folder c.next.follows.lender-at-none c.args.writer.now) c.in_ok-stamp.field-0
read g c =
    let i = c.in_ok-stamp in
    let e = i.ensures in
    nexts (at g c.args.folder.now c.args.cursor.now c.args.writer.now) (at g c.next.new.folder c.next.follows.lender-at-none c.args.writer.now) c.next.result i.field-0 (g.met.F.Folder.metered c.next.new.folder) i.was e.files e.draft refl e.numbers e.later e.reads
    c.next.follows.holds-at-none

pub returns-in_err-stamp : goal.returns-in_err-stamp
returns-in_err-stamp g c =
    let i = c.in_err-stamp in
    let e = i.ensures in
    let s = at g c.args.folder.now c.args.cursor.now c.args.writer.now in
    let t = at g c.next.new.folder c.next.follows.lender-at-none c.args.writer.now in
    alt-handed _ _ {s = s} {t = t} c.from_residual.ensures.1
    (alt-failed _ _ c.requires.within (stays-by s t c.next.result i.field-0.0 i.was e.files e.draft e.pulls e.later e.cause e.undamaged e.reads c.next.follows.holds-at-none))

pub returns-in_err-stamp-in-Alt : goal.returns-in_err-stamp-in-Alt
returns-in_err-stamp-in-Alt g c =
    let e = c.in_err-stamp-in-Alt.ensures in
    alt-handed _ _ c.from_residual-in_err-stamp-in-Alt.ensures.1 (alt-stopped _ _ (ap shown_item c.in-Alt.is) (read g (goal.at.returns-in_err-stamp-in-Alt g c).In_ok-stamp) e.inside e.damage)

pub returns-in_err-written-in-Alt : goal.returns-in_err-written-in-Alt
returns-in_err-written-in-Alt g c =
    let f = g.F.Folder in
    let read = read g (goal.at.returns-in_err-written-in-Alt g c).In_ok-stamp in
    let goes = read.goes in
    let turned = c.in_ok-stamp-in-Alt in
    let e = c.in_err-written-in-Alt in
    let sent = call-sends f.files f.draft f.numbers f.faults c.next.new.folder c.alt-written.new.folder c.next.follows.lender-at-none c.args.writer.now c.alt-written.new.self (call_alt (stamp_view turned.stamp) (shown_body c.in-Alt.old)) (Err e.field-0.0)
    (g.met.F.Folder.metered c.next.new.folder) goes.within e.ensures.folder e.ensures.after e.ensures.too_long in
    alt-handed _ _ c.from_residual-in_err-written-in-Alt.ensures.1
    (alt-unsent _ _ c.same_lent-same.result (ap shown_item c.in-Alt.is) c.bytes-spelled.ensures.fits read c.same_lent-same.ensures turned.ensures.stamp turned.ensures.no_shorter sent)

pub returns-in_ok-written-in-Alt : goal.returns-in_ok-written-in-Alt
returns-in_ok-written-in-Alt g c =
    let f = g.F.Folder in
    let read = read g (goal.at.returns-in_ok-written-in-Alt g c).In_ok-stamp in
    let goes = read.goes in
    let turned = c.in_ok-stamp-in-Alt in
    let e = c.in_ok-written-in-Alt in
    let sent = call-sends f.files f.draft f.numbers f.faults c.next.new.folder c.alt-written.new.folder c.next.follows.lender-at-none c.args.writer.now c.alt-written.new.self (call_alt (stamp_view turned.stamp) (shown_body c.in-Alt.old)) (Ok e.field-0)
    (g.met.F.Folder.metered c.next.new.folder) goes.within e.ensures.folder e.ensures.after e.ensures.too_long in
    alt-sent _ _ c.requires.leaf (ap shown_item c.in-Alt.is) c.bytes-spelled.ensures.fits read c.same_lent-same.ensures turned.ensures.stamp turned.ensures.no_shorter sent

pub returns-in-LeafEnd : goal.returns-in-LeafEnd
returns-in-LeafEnd g c = alt-end _ _ c.requires.leaf (ap shown_item c.in-LeafEnd.is) (read g (goal.at.returns-in-LeafEnd g c).In_ok-stamp)

pub returns-in_default : goal.returns-in_default
returns-in_default g c = alt-other _ _ c.in_default.not-Alt c.in_default.not-LeafEnd (read g (goal.at.returns-in_default g c).In_ok-stamp)
