use Rattle.std.proofs.Common.{◌≡◌, ℕ, ◌<◌, ◌*◌, ◌+◌, ◌-◌, Option, Some, None, Ok, Bool, refl, sym, ap, subst, ◌∙◌, arith}
use Rattle.archive_tree.specs.View.{stamp_view}
use Rattle.version_set.specs.View.{pairs_of}
use Rattle.record_cursor.specs.View.{PlainCursor, shown_item}
use Rattle.record_parts.specs.Shapes.{FitsLabel}
use Rattle.record_parts.specs.ShownViews.{shown_label, shown_stamp}
use Rattle.record_writer.specs.Data.{call_end_inner}
use Rattle.record_writer.specs.View.{writer_view}
use Rattle.record_writer.specs.declared.writer.Writer.{Writer}
use Rattle.stream_merge.specs.Copied.{RowCopied, InsideCopied, BegunCopied, ChildCopied}
use Rattle.stream_merge.specs.Meets.{IsOpen}
use Rattle.stream_merge.specs.Passes.{fault_of, of_cursor}
use Rattle.record_copy.specs.State.{State, state}
use Rattle.stream_merge.specs.declared.begin.Kind.{Kind}
use Rattle.stream_merge.specs.declared.fault.MergeFault.{MergeFault}
use Rattle.stream_merge.proofs.States.{written, Nexts, nexts, stays-by, call-sends}
use Rattle.stream_merge.proofs.CopiedRows.{row-start, row-on, row-done, row-fault, inside-fault, inside-close}
use Rattle.stream_merge.proofs.ChildCopies.{Opener, opening, opening-smaller, begun-part, begun-open, begun-writer, child-failed, child-fails, child-part-fails, child-copied, child-ended, child-damage}
use Rattle.stream_merge.proofs.Handed.{at-err, called}
use Rattle.stream_merge.proofs.Puts.{set-of}
use Rattle.stream_merge.proofs.copy.+copy.Given.{Over}
use Rattle.stream_merge.proofs.copy.+copy.Goals.{copy_child-In_ok-label, copy_child-Joined-branch-2, copy_child-in-Inner, copy_child-in-Leaf}
use Rattle.stream_merge.proofs.copy.+copy.Goals as goal

abbrev at : (g : Over) → g.row.F.Denot → PlainCursor → Writer → State
at g = (let f = g.F.Folder in state f.files f.draft f.numbers f.faults)

-- ---- a node

-- the item that was given
read : (g : Over) (t : ℕ) (c : copy_child-In_ok-label g t) → Nexts (at g c.args.folder.now c.args.cursor.now c.args.writer.now) (at g c.next.new.folder c.next.follows.lender-at-none c.args.writer.now) c.in_ok-label.field-0
read g t c =
    let i = c.in_ok-label in
    nexts (at g c.args.folder.now c.args.cursor.now c.args.writer.now) (at g c.next.new.folder c.next.follows.lender-at-none c.args.writer.now) c.next.result i.field-0 (g.met.F.Folder.metered c.next.new.folder) i.was i.ensures.files i.ensures.draft refl i.ensures.numbers
    i.ensures.later i.ensures.reads c.next.follows.holds-at-none

pub copy_child-returns-in_err-label : goal.copy_child-returns-in_err-label
copy_child-returns-in_err-label g t c =
    let q = pairs_of c.args.set.now in
    let e = c.in_err-label in
    let s = at g c.args.folder.now c.args.cursor.now c.args.writer.now in
    let p = at g c.next.new.folder c.next.follows.lender-at-none c.args.writer.now in
    let stays = stays-by s p c.next.result e.field-0.0 e.was e.ensures.files e.ensures.draft e.ensures.pulls e.ensures.later e.ensures.cause e.ensures.undamaged e.ensures.reads c.next.follows.holds-at-none in
    at-err c.from_residual.result (of_cursor e.field-0.0) c.from_residual.ensures.1 (λ r. ChildCopied q s p r) (child-failed q s p e.field-0.0 c.requires.within stays)

-- it opens a node
opens : (g : Over) (t : ℕ) (c : copy_child-Joined-branch-2 g t) → shown_item c.in_ok-label.field-0 ≡ opening c.match-branch-2.kind.0 (shown_label c.match-branch-2.kind.1) (shown_stamp c.match-branch-2.kind.2)
opens g t c =
    elim c.match-branch-2.branch [
      | copy_child-in-Inner w ↦ ap shown_item w.in-Inner.is ∙ sym (ap (λ k. opening k.0 (shown_label k.1) (shown_stamp k.2)) w.kind-is)
      | copy_child-in-Leaf w ↦ ap shown_item w.in-Leaf.is ∙ sym (ap (λ k. opening k.0 (shown_label k.1) (shown_stamp k.2)) w.kind-is)
    ]

abbrev opener : (g : Over) (t : ℕ) (c : copy_child-Joined-branch-2 g t) → Nexts (at g c.args.folder.now c.args.cursor.now c.args.writer.now) (at g c.next.new.folder c.next.follows.lender-at-none c.args.writer.now) c.in_ok-label.field-0
    → FitsLabel (shown_label c.match-branch-2.kind.1) → Opener c.match-branch-2.kind.0 (at g c.args.folder.now c.args.cursor.now c.args.writer.now) (at g c.next.new.folder c.next.follows.lender-at-none c.args.writer.now)
opener g t c read fits = (let k = c.match-branch-2.kind in record { item = c.in_ok-label.field-0; label = shown_label k.1; stamp = shown_stamp k.2; shown = opens g t c; fits = fits; read = read })

pub copy_child-returns-in_err-stamp : goal.copy_child-returns-in_err-stamp
copy_child-returns-in_err-stamp g t c =
    let z = goal.at.copy_child-returns-in_err-stamp g t c in
    let q = pairs_of c.args.set.now in
    let k : PlainCursor = c.next.follows.lender-at-none in
    let s = at g c.args.folder.now c.args.cursor.now c.args.writer.now in
    let p = at g c.next.new.folder k c.args.writer.now in
    let u = at g c.copy_opening.new.folder k c.copy_opening.new.writer in
    let gave = read g t z.In_ok-label in
    let goes = gave.goes in
    let o = opener g t z.Joined-branch-2 gave c.in_err-stamp.ensures.fits in
    let e = c.in_err-stamp in
    let r = c.from_residual-in_err-stamp in
    at-err r.result e.field-0.0 r.ensures.1 (λ d. ChildCopied q s u d) (child-fails c.match-branch-2.kind.0 q s p u o e.field-0.0 (e.ensures.sends k goes.within))

pub copy_child-copy_begun-copied-requires : goal.copy_child-copy_begun-copied-requires
copy_child-copy_begun-copied-requires g t c κs within =
    let z = goal.at.copy_child-copy_begun-copied-requires g t c in
    let q = pairs_of c.args.set.now in
    let k : PlainCursor = c.next.follows.lender-at-none in
    let s = at g c.args.folder.now c.args.cursor.now c.args.writer.now in
    let p = at g c.next.new.folder k c.args.writer.now in
    let u = at g c.copy_opening.new.folder k c.copy_opening.new.writer in
    let kind = c.match-branch-2.kind.0 in
    let gave = read g t z.In_ok-label in
    let goes = gave.goes in
    let o = opener g t z.Joined-branch-2 gave c.in_ok-stamp.ensures.fits in
    let opens = begun-writer kind q s p u o c.requires.no_leaf (c.in_ok-stamp.ensures.sends k goes.within) in
    let small = opening-smaller kind (g.F.Folder.files c.args.folder.now) c.args.cursor.now k o.item o.label o.stamp o.shown goes in
    let less : 4 * (k.length - k.at) + 3 < t = omega (arith, small, c.decreases) in
    (less, (within, (goes.within, begun-open kind s.writer u.writer opens)))

pub copy_child-returns-in_err-copied : goal.copy_child-returns-in_err-copied
copy_child-returns-in_err-copied g t c =
    let z = goal.at.copy_child-returns-in_err-copied g t c in
    let q = pairs_of c.args.set.now in
    let k : PlainCursor = c.next.follows.lender-at-none in
    let s = at g c.args.folder.now c.args.cursor.now c.args.writer.now in
    let p = at g c.next.new.folder k c.args.writer.now in
    let u = at g c.copy_opening.new.folder k c.copy_opening.new.writer in
    let v = at g c.copy_begun-copied.new.folder c.copy_begun-copied.new.cursor c.copy_begun-copied.new.writer in
    let kind = c.match-branch-2.kind.0 in
    let gave = read g t z.In_ok-label in
    let goes = gave.goes in
    let o = opener g t z.Joined-branch-2 gave c.in_ok-stamp.ensures.fits in
    let stamp = c.in_ok-stamp in
    let own = pairs_of c.effective.result.now in
    let set = set-of (stamp_view stamp.stamp) o.stamp q own stamp.ensures.stamp c.effective.ensures.pairs in
    let e = c.in_err-copied in
    let r = c.from_residual-in_err-copied in
    at-err r.result e.field-0.0 r.ensures.1 (λ d. ChildCopied q s v d)
    (child-part-fails kind q s p u o v (stamp.ensures.sends k goes.within) e.field-0.0 (begun-part kind q own o.label o.stamp u v (Some e.field-0.0) set e.ensures))

pub copy_child-returns : goal.copy_child-returns
copy_child-returns g t c =
    let z = goal.at.copy_child-returns g t c in
    let q = pairs_of c.args.set.now in
    let k : PlainCursor = c.next.follows.lender-at-none in
    let s = at g c.args.folder.now c.args.cursor.now c.args.writer.now in
    let p = at g c.next.new.folder k c.args.writer.now in
    let u = at g c.copy_opening.new.folder k c.copy_opening.new.writer in
    let v = at g c.copy_begun-copied.new.folder c.copy_begun-copied.new.cursor c.copy_begun-copied.new.writer in
    let kind = c.match-branch-2.kind.0 in
    let gave = read g t z.In_ok-label in
    let goes = gave.goes in
    let o = opener g t z.Joined-branch-2 gave c.in_ok-stamp.ensures.fits in
    let stamp = c.in_ok-stamp in
    let own = pairs_of c.effective.result.now in
    let set = set-of (stamp_view stamp.stamp) o.stamp q own stamp.ensures.stamp c.effective.ensures.pairs in
    child-copied kind q s p u o v (stamp.ensures.sends k goes.within) c.requires.no_leaf (begun-part kind q own o.label o.stamp u v None set c.in_ok-copied.ensures)

pub copy_child-returns-in-End : goal.copy_child-returns-in-End
copy_child-returns-in-End g t c =
    let s = at g c.args.folder.now c.args.cursor.now c.args.writer.now in
    let p = at g c.next.new.folder c.next.follows.lender-at-none c.args.writer.now in
    child-ended (pairs_of c.args.set.now) s p c.in_ok-label.field-0 _ c.requires.no_leaf (ap shown_item c.in-End.is) (read g t (goal.at.copy_child-returns-in-End g t c).In_ok-label)

pub copy_child-returns-in_default : goal.copy_child-returns-in_default
copy_child-returns-in_default g t c =
    let d = c.in_default in
    let s = at g c.args.folder.now c.args.cursor.now c.args.writer.now in
    let p = at g c.next.new.folder c.next.follows.lender-at-none c.args.writer.now in
    child-damage (pairs_of c.args.set.now) s p c.in_ok-label.field-0 d.not-Inner d.not-Leaf d.not-End (read g t (goal.at.copy_child-returns-in_default g t c).In_ok-label)

-- ---- the inside of a node

pub copy_begun-copy_inner-requires : goal.copy_begun-copy_inner-requires
copy_begun-copy_inner-requires g t c κs within =
    let r = c.requires in
    let stands = subst (λ (k : Kind). IsOpen k (writer_view c.args.writer.now)) c.in-Inner.is r.stands in
    let less : 4 * (c.args.cursor.now.length - c.args.cursor.now.at) + 2 < t = omega (arith, c.decreases) in
    (less, (within, (r.within, stands)))

pub copy_begun-copy_alts-requires : goal.copy_begun-copy_alts-requires
copy_begun-copy_alts-requires g t c =
    let r = c.requires in
    record { within = r.within; leaf = subst (λ (k : Kind). IsOpen k (writer_view c.args.writer.now)) c.in-Leaf.is r.stands }

pub copy_begun-returns-in-Inner : goal.copy_begun-returns-in-Inner
copy_begun-returns-in-Inner g t c =
    let s = at g c.args.folder.now c.args.cursor.now c.args.writer.now in
    let v = at g c.copy_inner.new.folder c.copy_inner.new.cursor c.copy_inner.new.writer in
    subst (λ (k : Kind). BegunCopied k (pairs_of c.args.set.now) s v (fault_of c.copy_inner.result)) (sym c.in-Inner.is) c.copy_inner.ensures

pub copy_begun-returns-in-Leaf : goal.copy_begun-returns-in-Leaf
copy_begun-returns-in-Leaf g t c =
    let s = at g c.args.folder.now c.args.cursor.now c.args.writer.now in
    let v = at g c.copy_alts.new.folder c.copy_alts.new.cursor c.copy_alts.new.writer in
    subst (λ (k : Kind). BegunCopied k (pairs_of c.args.set.now) s v (fault_of c.copy_alts.result)) (sym c.in-Leaf.is) c.copy_alts.ensures

pub copy_inner-returns-in_err-copy_row : goal.copy_inner-returns-in_err-copy_row
copy_inner-returns-in_err-copy_row g t c =
    let q = pairs_of c.args.set.now in
    let s = at g c.args.folder.now c.args.cursor.now c.args.writer.now in
    let m = at g c.copy_row.new.folder c.copy_row.new.cursor c.copy_row.new.writer in
    let e = c.in_err-copy_row in
    at-err c.from_residual.result e.field-0.0 c.from_residual.ensures.1 (λ r. InsideCopied q s m (fault_of r)) (inside-fault q s m e.field-0.0 e.ensures)

pub copy_inner-returns : goal.copy_inner-returns
copy_inner-returns g t c =
    let f = g.F.Folder in
    let q = pairs_of c.args.set.now in
    let s = at g c.args.folder.now c.args.cursor.now c.args.writer.now in
    let m = at g c.copy_row.new.folder c.copy_row.new.cursor c.copy_row.new.writer in
    let u = at g c.end_inner.new.folder c.copy_row.new.cursor c.end_inner.new.self in
    let row : RowCopied q s m None = c.in_ok-copy_row.ensures in
    let passes = row.passes in
    let e = c.end_inner.ensures in
    subst (λ (o : Option MergeFault). InsideCopied q s u o) (called c.end_inner.result c.written.result c.written.ensures)
    (inside-close q s m u (written c.end_inner.result) c.requires.begun row
    (call-sends f.files f.draft f.numbers f.faults c.copy_row.new.folder c.end_inner.new.folder c.copy_row.new.cursor c.copy_row.new.writer c.end_inner.new.self call_end_inner c.end_inner.result (g.met.F.Folder.metered c.copy_row.new.folder) passes.within e.folder e.after e.too_long))

-- ---- a row

pub copy_row-loop-init : goal.copy_row-loop-init
copy_row-loop-init g t c = row-start (pairs_of c.args.set.now) (at g c.args.folder.now c.args.cursor.now c.args.writer.now) c.requires.within c.requires.no_leaf

pub copy_row-returns-in_err-copy_child : goal.copy_row-returns-in_err-copy_child
copy_row-returns-in_err-copy_child g t c =
    let q = pairs_of c.args.set.now in
    let s = at g c.args.folder.now c.args.cursor.now c.args.writer.now in
    let l = c.loop in
    let u = at g c.copy_child.new.folder c.copy_child.new.cursor c.copy_child.new.writer in
    let e = c.in_err-copy_child in
    at-err c.from_residual.result e.field-0.0 c.from_residual.ensures.1 (λ r. RowCopied q s u (fault_of r)) (l.invariant.rest u (Some e.field-0.0) (row-fault q (at g l.folder l.cursor l.writer) u e.field-0.0 e.ensures))

pub copy_row-loop-preserved : goal.copy_row-loop-preserved
copy_row-loop-preserved g t c =
    let q = pairs_of c.args.set.now in
    let s = at g c.args.folder.now c.args.cursor.now c.args.writer.now in
    let l = c.loop in
    let m = at g l.folder l.cursor l.writer in
    let u = at g c.copy_child.new.folder c.copy_child.new.cursor c.copy_child.new.writer in
    row-on q s m u l.invariant (subst (λ (more : Bool). ChildCopied q m u (Ok more)) c.if-branch.true c.in_ok-copy_child.ensures)

pub copy_row-returns : goal.copy_row-returns
copy_row-returns g t c =
    let q = pairs_of c.args.set.now in
    let l = c.loop in
    let m = at g l.folder l.cursor l.writer in
    let u = at g c.copy_child.new.folder c.copy_child.new.cursor c.copy_child.new.writer in
    l.invariant.rest u None (row-done q m u (subst (λ (more : Bool). ChildCopied q m u (Ok more)) c.if-branch.false c.in_ok-copy_child.ensures))
