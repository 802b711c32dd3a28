use Rattle.std.proofs.Common.{None, refl, sym, ap, subst}
use Rattle.std.specs.Result.{result_map_both}
use Rattle.version_set.specs.View.{pairs_of}
use Rattle.record_cursor.specs.View.{PlainCursor, shown_item}
use Rattle.record_writer.specs.Data.{PlainWriter}
use Rattle.record_copy.specs.Faults.{of_cursor}
use Rattle.record_copy.specs.State.{State, beside}
use Rattle.record_copy.specs.declared.fault.CopyFault.TheVariants.{Memory}
use Rattle.record_copy.proofs.Passing.{Nexts, nexts, stays-by, passes-none, at-err}
use Rattle.archive_cut.specs.Leaves.{AltsRead}
use Rattle.archive_cut.proofs.Leaving.{ReadOn, read-start, read-on, read-ended, read-failed, read-memory, read-damage}
use Rattle.archive_cut.proofs.leaf.read_alts.Given.{Over}
use Rattle.archive_cut.proofs.leaf.read_alts.Goals.{In_ok-stamp}
use Rattle.archive_cut.proofs.leaf.read_alts.Goals as goal

abbrev at : (g : Over) → g.row.F.Denot → PlainCursor → PlainWriter → State
at g = (let f = g.F.Folder in beside f.files f.draft f.numbers f.faults)

-- the item that was given
read : (g : Over) (c : In_ok-stamp g) (w : PlainWriter) → Nexts (at g c.loop-held.folder c.loop-held.cursor w) (at g c.next.new.folder c.next.follows.lender-at-none w) c.in_ok-stamp.field-0
read g c w =
    let l = c.loop-held in
    let i = c.in_ok-stamp in
    nexts (at g l.folder l.cursor w) (at g c.next.new.folder c.next.follows.lender-at-none w) c.next.result i.field-0 (g.met.F.Folder.metered c.next.new.folder) i.was i.ensures.files i.ensures.draft refl i.ensures.numbers i.ensures.later
    c.next.follows.holds-at-none

pub loop-held-init : goal.loop-held-init
loop-held-init g c w =
    let win = c.args.window.now in
    let s = at g c.args.folder.now c.args.cursor.now w in
    subst (λ hs. ReadOn win.first win.last (pairs_of c.args.now.now) s s hs) (sym c.new-held.ensures.items)
    (read-start win.first win.last (pairs_of c.args.now.now) s (passes-none s None (g.met.F.Folder.metered c.args.folder.now) c.requires.within (λ e. absurd cc)))

pub returns-in_err-stamp : goal.returns-in_err-stamp
returns-in_err-stamp g c w =
    let l = c.loop-held in
    let e = c.in_err-stamp in
    let win = c.args.window.now in
    let now = pairs_of c.args.now.now in
    let r = at g c.args.folder.now c.args.cursor.now w in
    let s = at g l.folder l.cursor w in
    let t = at g c.next.new.folder c.next.follows.lender-at-none w in
    let stays = stays-by s t c.next.result e.field-0.0 e.was e.ensures.files e.ensures.draft e.ensures.pulls e.ensures.later e.ensures.cause e.ensures.undamaged c.next.follows.holds-at-none in
    at-err c.from_residual.result (of_cursor e.field-0.0) c.from_residual.ensures.1 (λ z. AltsRead win.first win.last now r t (result_map_both (λ v. v.items) (λ f. f) z)) (read-failed win.first win.last now r s t e.field-0.0 l.held.items (l.invariant w) stays)

pub loop-held-preserved : goal.loop-held-preserved
loop-held-preserved g c w =
    let l = c.loop-held in
    let a = c.in-Alt in
    let win = c.args.window.now in
    read-on win.first win.last (pairs_of c.args.now.now) (at g c.args.folder.now c.args.cursor.now w) (at g l.folder l.cursor w) (at g c.next.new.folder c.next.follows.lender-at-none w) c.in_ok-stamp.field-0 _ l.held.items c.hold.new.held.items (ap shown_item a.is) c.bytes-spelled.ensures.fits (l.invariant w)
    (read g (goal.at.loop-held-preserved g c).In_ok-stamp w) c.in_ok-hold-in-Alt.ensures

pub returns-in_err-hold-in-Alt : goal.returns-in_err-hold-in-Alt
returns-in_err-hold-in-Alt g c w =
    let l = c.loop-held in
    let win = c.args.window.now in
    let now = pairs_of c.args.now.now in
    let r = at g c.args.folder.now c.args.cursor.now w in
    let s = at g l.folder l.cursor w in
    let t = at g c.next.new.folder c.next.follows.lender-at-none w in
    let f = c.from_residual-in_err-hold-in-Alt in
    at-err f.result Memory f.ensures.1 (λ z. AltsRead win.first win.last now r t (result_map_both (λ v. v.items) (λ d. d) z)) (read-memory win.first win.last now r s t c.in_ok-stamp.field-0 l.held.items (l.invariant w) (read g (goal.at.returns-in_err-hold-in-Alt g c).In_ok-stamp w))

pub returns-in-LeafEnd : goal.returns-in-LeafEnd
returns-in-LeafEnd g c w =
    let l = c.loop-held in
    let win = c.args.window.now in
    read-ended win.first win.last (pairs_of c.args.now.now) (at g c.args.folder.now c.args.cursor.now w) (at g l.folder l.cursor w) (at g c.next.new.folder c.next.follows.lender-at-none w) c.in_ok-stamp.field-0 l.held.items (ap shown_item c.in-LeafEnd.is) (l.invariant w)
    (read g (goal.at.returns-in-LeafEnd g c).In_ok-stamp w)

pub returns-in_default : goal.returns-in_default
returns-in_default g c w =
    let l = c.loop-held in
    let d = c.in_default in
    let win = c.args.window.now in
    read-damage win.first win.last (pairs_of c.args.now.now) (at g c.args.folder.now c.args.cursor.now w) (at g l.folder l.cursor w) (at g c.next.new.folder c.next.follows.lender-at-none w) c.in_ok-stamp.field-0 l.held.items d.not-Alt d.not-LeafEnd (l.invariant w)
    (read g (goal.at.returns-in_default g c).In_ok-stamp w)
