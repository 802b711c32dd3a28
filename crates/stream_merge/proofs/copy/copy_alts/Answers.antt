use Rattle.std.proofs.Common.{Option, Some, refl, ap, subst}
use Rattle.record_cursor.specs.View.{PlainCursor, shown_item}
use Rattle.record_parts.specs.ShownViews.{shown_stamp, shown_body}
use Rattle.record_writer.specs.Data.{call_end_leaf}
use Rattle.record_writer.specs.declared.writer.Writer.{Writer}
use Rattle.stream_merge.specs.Copied.{AltsCopied}
use Rattle.stream_merge.specs.Passes.{fault_of, of_cursor}
use Rattle.record_copy.specs.State.{State, state}
use Rattle.stream_merge.specs.declared.fault.MergeFault.{MergeFault}
use Rattle.stream_merge.specs.declared.fault.MergeFault.TheVariants.{Damage}
use Rattle.stream_merge.proofs.States.{written, Nexts, nexts, stays-by, call-sends}
use Rattle.stream_merge.proofs.Copies.{alts-start, alts-failed, alts-fail, alts-on, alts-close, alts-damage}
use Rattle.stream_merge.proofs.Handed.{at-err, called}
use Rattle.stream_merge.proofs.copy.copy_alts.Given.{Over}
use Rattle.stream_merge.proofs.copy.copy_alts.Goals.{In_ok-stamp}
use Rattle.stream_merge.proofs.copy.copy_alts.Goals as goal

abbrev at : (g : Over) → g.row.F.Denot → PlainCursor → Writer → State
at g = (let f = g.F.Folder in state f.files f.draft f.numbers f.faults)

-- the item that was given
read : (g : Over) (c : In_ok-stamp g) → Nexts (at g c.loop-stamp.folder c.loop-stamp.cursor c.loop-stamp.writer) (at g c.next.new.folder c.next.follows.lender-at-none c.loop-stamp.writer) c.in_ok-stamp.field-0
read g c =
    let l = c.loop-stamp in
    let i = c.in_ok-stamp in
    nexts (at g l.folder l.cursor l.writer) (at g c.next.new.folder c.next.follows.lender-at-none l.writer) c.next.result i.field-0 (g.met.F.Folder.metered c.next.new.folder) i.was i.ensures.files i.ensures.draft refl i.ensures.numbers i.ensures.later i.ensures.reads
    c.next.follows.holds-at-none

pub loop-stamp-init : goal.loop-stamp-init
loop-stamp-init g c = alts-start (at g c.args.folder.now c.args.cursor.now c.args.writer.now) c.requires.within c.requires.leaf

pub returns-in_err-stamp : goal.returns-in_err-stamp
returns-in_err-stamp g c =
    let l = c.loop-stamp in
    let e = c.in_err-stamp in
    let s = at g l.folder l.cursor l.writer in
    let t = at g c.next.new.folder c.next.follows.lender-at-none l.writer in
    let stays = stays-by s t c.next.result e.field-0.0 e.was e.ensures.files e.ensures.draft e.ensures.pulls e.ensures.later e.ensures.cause e.ensures.undamaged e.ensures.reads c.next.follows.holds-at-none in
    at-err c.from_residual.result (of_cursor e.field-0.0) c.from_residual.ensures.1 (λ r. AltsCopied (at g c.args.folder.now c.args.cursor.now c.args.writer.now) t (fault_of r))
    (l.invariant.rest t (Some (of_cursor e.field-0.0)) (alts-failed s t e.field-0.0 l.invariant.within stays))

pub returns-in_err-copy_alt-in-Alt : goal.returns-in_err-copy_alt-in-Alt
returns-in_err-copy_alt-in-Alt g c =
    let l = c.loop-stamp in
    let a = c.in-Alt in
    let e = c.in_err-copy_alt-in-Alt in
    let s = at g l.folder l.cursor l.writer in
    let k : PlainCursor = c.next.follows.lender-at-none in
    let t = at g c.next.new.folder k l.writer in
    let u = at g c.copy_alt.new.folder k c.copy_alt.new.writer in
    let gave = read g (goal.at.returns-in_err-copy_alt-in-Alt g c).In_ok-stamp in
    let goes = gave.goes in
    at-err c.from_residual-in_err-copy_alt-in-Alt.result e.field-0.0 c.from_residual-in_err-copy_alt-in-Alt.ensures.1 (λ r. AltsCopied (at g c.args.folder.now c.args.cursor.now c.args.writer.now) u (fault_of r))
    (l.invariant.rest u (Some e.field-0.0) (alts-fail s t u c.in_ok-stamp.field-0 (shown_stamp a.stamp) (shown_body a.body) (ap shown_item a.is) gave e.ensures.fits e.field-0.0 (e.ensures.sends k goes.within)))

pub loop-stamp-preserved : goal.loop-stamp-preserved
loop-stamp-preserved g c =
    let l = c.loop-stamp in
    let a = c.in-Alt in
    let k : PlainCursor = c.next.follows.lender-at-none in
    let gave = read g (goal.at.loop-stamp-preserved g c).In_ok-stamp in
    let goes = gave.goes in
    alts-on (at g l.folder l.cursor l.writer) (at g c.next.new.folder k l.writer) (at g c.copy_alt.new.folder k c.copy_alt.new.writer) c.in_ok-stamp.field-0 (shown_stamp a.stamp) (shown_body a.body) (ap shown_item a.is) gave c.in_ok-copy_alt-in-Alt.ensures.fits
    (at g c.args.folder.now c.args.cursor.now c.args.writer.now) l.invariant (c.in_ok-copy_alt-in-Alt.ensures.sends k goes.within)

pub returns-in-LeafEnd : goal.returns-in-LeafEnd
returns-in-LeafEnd g c =
    let f = g.F.Folder in
    let l = c.loop-stamp in
    let e = c.end_leaf.ensures in
    let k : PlainCursor = c.next.follows.lender-at-none in
    let t = at g c.next.new.folder k l.writer in
    let u = at g c.end_leaf.new.folder k c.end_leaf.new.self in
    let gave = read g (goal.at.returns-in-LeafEnd g c).In_ok-stamp in
    let goes = gave.goes in
    let sent = call-sends f.files f.draft f.numbers f.faults c.next.new.folder c.end_leaf.new.folder k l.writer c.end_leaf.new.self call_end_leaf c.end_leaf.result gave.meter goes.within e.folder e.after e.too_long in
    subst (λ (o : Option MergeFault). AltsCopied (at g c.args.folder.now c.args.cursor.now c.args.writer.now) u o) (called c.end_leaf.result c.written.result c.written.ensures)
    (l.invariant.rest u (written c.end_leaf.result) (alts-close (at g l.folder l.cursor l.writer) t u c.in_ok-stamp.field-0 (written c.end_leaf.result) (ap shown_item c.in-LeafEnd.is) gave sent))

pub returns-in_default : goal.returns-in_default
returns-in_default g c =
    let l = c.loop-stamp in
    let d = c.in_default in
    let s = at g l.folder l.cursor l.writer in
    let t = at g c.next.new.folder c.next.follows.lender-at-none l.writer in
    l.invariant.rest t (Some Damage) (alts-damage s t c.in_ok-stamp.field-0 d.not-Alt d.not-LeafEnd (read g (goal.at.returns-in_default g c).In_ok-stamp))
