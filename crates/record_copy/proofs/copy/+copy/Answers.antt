use Rattle.std.proofs.Common.{◌≡◌, ◌≢◌, ℕ, ◌<◌, ◌*◌, ◌+◌, ◌-◌, Option, Some, None, Ok, Bool, refl, sym, subst, arith}
use Rattle.archive_tree.specs.View.{stamp_view}
use Rattle.version_set.specs.View.{pairs_of}
use Rattle.record_cursor.specs.View.{PlainCursor}
use Rattle.record_writer.specs.Data.{call_end_inner}
use Rattle.record_writer.specs.View.{writer_view}
use Rattle.record_writer.specs.declared.writer.Writer.{Writer}
use Rattle.record_copy.specs.Copied.{RowCopied, InsideCopied, BegunCopied, NodeCopied, ChildCopied}
use Rattle.record_copy.specs.Faults.{fault_of}
use Rattle.record_copy.specs.Parts.{head_view}
use Rattle.record_copy.specs.Passes.{IsOpen}
use Rattle.record_copy.specs.Reads.{HeadRead}
use Rattle.record_copy.specs.State.{State, state}
use Rattle.record_copy.specs.declared.parts.Head.{Head}
use Rattle.record_copy.specs.declared.kind.Kind.{Kind}
use Rattle.record_copy.specs.declared.fault.CopyFault.{CopyFault}
use Rattle.record_copy.proofs.Passing.{at-err}
use Rattle.record_copy.proofs.Running.{written, called, call-sends}
use Rattle.record_copy.proofs.Copying.{own-is, smaller, node-fault, node-open, node-copied, child-failed, child-ended, child-copied, row-start, row-on, row-done, row-fault, inside-fault, inside-close}
use Rattle.record_copy.proofs.copy.+copy.Given.{Over}
use Rattle.record_copy.proofs.copy.+copy.Goals as goal

abbrev at : (g : Over) → g.row.F.Denot → PlainCursor → Writer → State
at g = (let f = g.F.Folder in state f.files f.draft f.numbers f.faults)

-- ---- a node whose head was read

pub copy_node-returns-in_err-begin_node : goal.copy_node-returns-in_err-begin_node
copy_node-returns-in_err-begin_node g t c =
    let n = c.args.raise.now.by in
    let h = head_view c.args.head.now in
    let st = stamp_view c.args.stamp.now in
    let set = pairs_of c.args.set.now in
    let k = c.args.cursor.now in
    let s = at g c.args.folder.now k c.args.writer.now in
    let m = at g c.begin_node.new.folder k c.begin_node.new.writer in
    let e = c.in_err-begin_node in
    at-err c.from_residual.result e.field-0.0 c.from_residual.ensures.1 (λ r. NodeCopied n h st set s m (fault_of r)) (node-fault n h st set s m e.field-0.0 (e.ensures k c.requires.within))

pub copy_node-copy_begun-requires : goal.copy_node-copy_begun-requires
copy_node-copy_begun-requires g t c κs within =
    let n = c.args.raise.now.by in
    let h = head_view c.args.head.now in
    let st = stamp_view c.args.stamp.now in
    let set = pairs_of c.args.set.now in
    let k = c.args.cursor.now in
    let s = at g c.args.folder.now k c.args.writer.now in
    let m = at g c.begin_node.new.folder k c.begin_node.new.writer in
    let less : 5 * (k.length - k.at) + 3 < t = omega (arith, c.decreases) in
    (less, (within, (c.requires.within, node-open n h st set s m (c.in_ok-begin_node.ensures k c.requires.within) c.requires.no_leaf)))

pub copy_node-returns : goal.copy_node-returns
copy_node-returns g t c =
    let n = c.args.raise.now.by in
    let h = head_view c.args.head.now in
    let st = stamp_view c.args.stamp.now in
    let set = pairs_of c.args.set.now in
    let k = c.args.cursor.now in
    let s = at g c.args.folder.now k c.args.writer.now in
    let m = at g c.begin_node.new.folder k c.begin_node.new.writer in
    let u = at g c.copy_begun.new.folder c.copy_begun.new.cursor c.copy_begun.new.writer in
    node-copied n h st set s m u (fault_of c.copy_begun.result) (c.in_ok-begin_node.ensures k c.requires.within) c.copy_begun.ensures

-- ---- the inside of a node

pub copy_begun-copy_inner-requires : goal.copy_begun-copy_inner-requires
copy_begun-copy_inner-requires g t c κs within =
    let r = c.requires in
    let stands = subst (λ (k : Kind). IsOpen k (writer_view c.args.writer.now)) c.in-Inner.is r.stands in
    let less : 5 * (c.args.cursor.now.length - c.args.cursor.now.at) + 2 < t = omega (arith, c.decreases) in
    (less, (within, (r.within, stands)))

pub copy_begun-copy_alternatives-requires : goal.copy_begun-copy_alternatives-requires
copy_begun-copy_alternatives-requires g t c =
    let r = c.requires in
    record { within = r.within; leaf = subst (λ (k : Kind). IsOpen k (writer_view c.args.writer.now)) c.in-Leaf.is r.stands }

pub copy_begun-returns-in-Inner : goal.copy_begun-returns-in-Inner
copy_begun-returns-in-Inner g t c =
    let s = at g c.args.folder.now c.args.cursor.now c.args.writer.now in
    let v = at g c.copy_inner.new.folder c.copy_inner.new.cursor c.copy_inner.new.writer in
    subst (λ (k : Kind). BegunCopied k c.args.raise.now.by (pairs_of c.args.set.now) s v (fault_of c.copy_inner.result)) (sym c.in-Inner.is) c.copy_inner.ensures

pub copy_begun-returns-in-Leaf : goal.copy_begun-returns-in-Leaf
copy_begun-returns-in-Leaf g t c =
    let s = at g c.args.folder.now c.args.cursor.now c.args.writer.now in
    let v = at g c.copy_alternatives.new.folder c.copy_alternatives.new.cursor c.copy_alternatives.new.writer in
    subst (λ (k : Kind). BegunCopied k c.args.raise.now.by (pairs_of c.args.set.now) s v (fault_of c.copy_alternatives.result)) (sym c.in-Leaf.is) c.copy_alternatives.ensures

pub copy_inner-returns-in_err-copy_row : goal.copy_inner-returns-in_err-copy_row
copy_inner-returns-in_err-copy_row g t c =
    let n = c.args.raise.now.by in
    let q = pairs_of c.args.set.now in
    let s = at g c.args.folder.now c.args.cursor.now c.args.writer.now in
    let m = at g c.copy_row.new.folder c.copy_row.new.cursor c.copy_row.new.writer in
    let e = c.in_err-copy_row in
    at-err c.from_residual.result e.field-0.0 c.from_residual.ensures.1 (λ r. InsideCopied n q s m (fault_of r)) (inside-fault n q s m e.field-0.0 e.ensures)

pub copy_inner-returns : goal.copy_inner-returns
copy_inner-returns g t c =
    let f = g.F.Folder in
    let n = c.args.raise.now.by in
    let q = pairs_of c.args.set.now in
    let s = at g c.args.folder.now c.args.cursor.now c.args.writer.now in
    let m = at g c.copy_row.new.folder c.copy_row.new.cursor c.copy_row.new.writer in
    let u = at g c.end_inner.new.folder c.copy_row.new.cursor c.end_inner.new.self in
    let row : RowCopied n q s m None = c.in_ok-copy_row.ensures in
    let run = row.run in
    let passes = run.passes in
    let e = c.end_inner.ensures in
    subst (λ (o : Option CopyFault). InsideCopied n q s u o) (called c.end_inner.result c.written.result c.written.ensures)
    (inside-close n q s m u (written c.end_inner.result) c.requires.begun row
    (call-sends f.files f.draft f.numbers f.faults c.copy_row.new.folder c.end_inner.new.folder c.copy_row.new.cursor c.copy_row.new.writer c.end_inner.new.self call_end_inner c.end_inner.result (g.met.F.Folder.metered c.copy_row.new.folder) passes.within e.folder e.after e.too_long))

-- ---- a row

pub copy_row-loop-init : goal.copy_row-loop-init
copy_row-loop-init g t c = row-start c.args.raise.now.by (pairs_of c.args.set.now) (at g c.args.folder.now c.args.cursor.now c.args.writer.now) c.requires.within c.requires.no_leaf

pub copy_row-returns-in_err-copy_child : goal.copy_row-returns-in_err-copy_child
copy_row-returns-in_err-copy_child g t c =
    let n = c.args.raise.now.by in
    let q = pairs_of c.args.set.now in
    let s = at g c.args.folder.now c.args.cursor.now c.args.writer.now in
    let l = c.loop in
    let u = at g c.copy_child.new.folder c.copy_child.new.cursor c.copy_child.new.writer in
    let e = c.in_err-copy_child in
    at-err c.from_residual.result e.field-0.0 c.from_residual.ensures.1 (λ r. RowCopied n q s u (fault_of r)) (l.invariant.rest u (Some e.field-0.0) (row-fault n q (at g l.folder l.cursor l.writer) u e.field-0.0 e.ensures))

pub copy_row-loop-preserved : goal.copy_row-loop-preserved
copy_row-loop-preserved g t c =
    let n = c.args.raise.now.by in
    let q = pairs_of c.args.set.now in
    let s = at g c.args.folder.now c.args.cursor.now c.args.writer.now in
    let l = c.loop in
    let m = at g l.folder l.cursor l.writer in
    let u = at g c.copy_child.new.folder c.copy_child.new.cursor c.copy_child.new.writer in
    row-on n q s m u l.invariant (subst (λ (more : Bool). ChildCopied n q m u (Ok more)) c.if-branch.true c.in_ok-copy_child.ensures)

pub copy_row-returns : goal.copy_row-returns
copy_row-returns g t c =
    let n = c.args.raise.now.by in
    let q = pairs_of c.args.set.now in
    let l = c.loop in
    let m = at g l.folder l.cursor l.writer in
    let u = at g c.copy_child.new.folder c.copy_child.new.cursor c.copy_child.new.writer in
    l.invariant.rest u None (row-done n q m u (subst (λ (more : Bool). ChildCopied n q m u (Ok more)) c.if-branch.false c.in_ok-copy_child.ensures))

-- ---- the next node of a row

-- what was read is this one
one : (s t : State) (o : Option Head) (h : Head) (n : ℕ) → o ≡ Some h → HeadRead n s t (Ok o) → HeadRead n s t (Ok (Some h))
one s t o h n is read = subst (λ (z : Option Head). HeadRead n s t (Ok z)) is read

no-more : (o : Option Head) → ((h : Head) → o ≢ Some h) → o ≡ None
no-more None h = refl
no-more (Some a) h = absurd (h a refl)

pub copy_child-returns-in_err-head : goal.copy_child-returns-in_err-head
copy_child-returns-in_err-head g t c =
    let n = c.args.raise.now.by in
    let q = pairs_of c.args.set.now in
    let s = at g c.args.folder.now c.args.cursor.now c.args.writer.now in
    let p = at g c.read_head.new.folder c.read_head.new.cursor c.args.writer.now in
    let e = c.in_err-head in
    at-err c.from_residual.result e.field-0.0 c.from_residual.ensures.1 (λ r. ChildCopied n q s p r) (child-failed n q s p refl e.field-0.0 (e.ensures (writer_view c.args.writer.now)))

pub copy_child-returns-in_default : goal.copy_child-returns-in_default
copy_child-returns-in_default g t c =
    let n = c.args.raise.now.by in
    let q = pairs_of c.args.set.now in
    let s = at g c.args.folder.now c.args.cursor.now c.args.writer.now in
    let p = at g c.read_head.new.folder c.read_head.new.cursor c.args.writer.now in
    let o = c.in_ok-head in
    let read : HeadRead n s p (Ok None) = subst (λ (z : Option Head). HeadRead n s p (Ok z)) (no-more o.field-0 c.in_default.not-Some) (o.ensures (writer_view c.args.writer.now)) in
    child-ended n q s p refl c.requires.no_leaf read

pub copy_child-copy_node-requires : goal.copy_child-copy_node-requires
copy_child-copy_node-requires g t c κs within =
    let n = c.args.raise.now.by in
    let k = c.read_head.new.cursor in
    let s = at g c.args.folder.now c.args.cursor.now c.args.writer.now in
    let p = at g c.read_head.new.folder k c.args.writer.now in
    let o = c.in_ok-head in
    let read = one s p o.field-0 c.in-Some.head n c.in-Some.is (o.ensures (writer_view c.args.writer.now)) in
    let passes = read.passes in
    let small = smaller n s p c.in-Some.head read in
    let less : 5 * (k.length - k.at) + 4 < t = omega (arith, small, c.decreases) in
    (less, (within, (passes.within, c.requires.no_leaf)))

pub copy_child-returns-in_err-copy_node : goal.copy_child-returns-in_err-copy_node
copy_child-returns-in_err-copy_node g t c =
    let n = c.args.raise.now.by in
    let q = pairs_of c.args.set.now in
    let s = at g c.args.folder.now c.args.cursor.now c.args.writer.now in
    let p = at g c.read_head.new.folder c.read_head.new.cursor c.args.writer.now in
    let u = at g c.copy_node.new.folder c.copy_node.new.cursor c.copy_node.new.writer in
    let o = c.in_ok-head in
    let h = c.in-Some.head in
    let read = one s p o.field-0 h n c.in-Some.is (o.ensures (writer_view c.args.writer.now)) in
    let own = pairs_of c.effective-own.result.now in
    let is = own-is (stamp_view h.stamp) q own c.effective-own.ensures.pairs in
    let e = c.in_err-copy_node in
    let r = c.from_residual-in_err-copy_node in
    at-err r.result e.field-0.0 r.ensures.1 (λ d. ChildCopied n q s u d) (child-copied n q s p refl h read own is u (Some e.field-0.0) e.ensures)

pub copy_child-returns : goal.copy_child-returns
copy_child-returns g t c =
    let n = c.args.raise.now.by in
    let q = pairs_of c.args.set.now in
    let s = at g c.args.folder.now c.args.cursor.now c.args.writer.now in
    let p = at g c.read_head.new.folder c.read_head.new.cursor c.args.writer.now in
    let u = at g c.copy_node.new.folder c.copy_node.new.cursor c.copy_node.new.writer in
    let o = c.in_ok-head in
    let h = c.in-Some.head in
    let read = one s p o.field-0 h n c.in-Some.is (o.ensures (writer_view c.args.writer.now)) in
    let own = pairs_of c.effective-own.result.now in
    let is = own-is (stamp_view h.stamp) q own c.effective-own.ensures.pairs in
    child-copied n q s p refl h read own is u None c.in_ok-copy_node.ensures
