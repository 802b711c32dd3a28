use Rattle.std.proofs.Common.{◌≡◌, ◌<◌, ◌*◌, ◌+◌, ◌-◌, ℕ, List, Option, Some, None, refl, sym, ap, subst, ◌∙◌, arith}
use Rattle.std.specs.Option.{option_map}
use Rattle.keyed_tree.specs.Data.{PlainKeyed, inner, leaf, kids_from, label_of}
use Rattle.keyed_tree.specs.LentView.{lent_val_view}
use Rattle.keyed_parts.specs.View.{kid_view, kids_view}
use Rattle.record_cursor.specs.View.{PlainCursor, shown_item}
use Rattle.record_parts.specs.ShownViews.{shown_label, shown_stamp}
use Rattle.record_writer.specs.Data.{call_end_inner}
use Rattle.record_writer.specs.View.{writer_view}
use Rattle.record_writer.specs.declared.writer.Writer.{Writer}
use Rattle.stream_merge.specs.Meets.{IsOpen}
use Rattle.stream_merge.specs.Passes.{fault_of, of_cursor}
use Rattle.stream_merge.specs.RowMerged.{RowMerged, ChildMerged, InsideMerged, BegunMerged}
use Rattle.record_copy.specs.State.{State, state}
use Rattle.stream_merge.specs.View.{PlainInherited, inherited_view, own_view}
use Rattle.stream_merge.specs.declared.begin.Kind.{Kind}
use Rattle.stream_merge.specs.declared.fault.MergeFault.{MergeFault}
use Rattle.stream_merge.proofs.States.{written, Nexts, nexts, stays-by, call-sends}
use Rattle.stream_merge.proofs.Handed.{at-err, called}
use Rattle.stream_merge.proofs.ChildCopies.{opening, opening-smaller, begun-open}
use Rattle.stream_merge.proofs.MergedRows.{merge-start, merge-more, merge-done, merge-fault}
use Rattle.stream_merge.proofs.MergedNodes.{child-failed, child-damage, child-unended, child-ended, child-unbegun, child-unmerged, child-merged, begun-number, begun-kid, begun-alone, kid-shaped, inside-row-fails, inside-row-closed, inside-misfit, inside-alone}
use Rattle.stream_merge.proofs.merge.+merge.Given.{Over}
use Rattle.stream_merge.proofs.merge.+merge.Goals.{merge_child-In_ok-label, merge_child-Joined-branch-2, merge_child-in-Inner, merge_child-in-Leaf}
use Rattle.stream_merge.proofs.merge.+merge.Goals as goal

abbrev at : (g : Over) → g.row.F.Denot → PlainCursor → Writer → State
at g = (let f = g.F.Folder in state f.files f.draft f.numbers f.faults)

-- ---- a node

-- the item that was given
read : (g : Over) (t : ℕ) (c : merge_child-In_ok-label g t) → Nexts (at g c.args.folder.now c.args.cursor.now c.args.writer.now) (at g c.next.new.folder c.next.follows.lender-at-none c.args.writer.now) c.in_ok-label.field-0
read g t c =
    let i = c.in_ok-label in
    nexts (at g c.args.folder.now c.args.cursor.now c.args.writer.now) (at g c.next.new.folder c.next.follows.lender-at-none c.args.writer.now) c.next.result i.field-0 (g.met.F.Folder.metered c.next.new.folder) i.was i.ensures.files i.ensures.draft refl i.ensures.numbers
    i.ensures.later i.ensures.reads c.next.follows.holds-at-none

-- it opens a node
opens : (g : Over) (t : ℕ) (c : merge_child-Joined-branch-2 g t) → shown_item c.in_ok-label.field-0 ≡ opening c.match-branch-2.kind.0 (shown_label c.match-branch-2.kind.1) (shown_stamp c.match-branch-2.kind.2)
opens g t c =
    elim c.match-branch-2.branch [
      | merge_child-in-Inner w ↦ ap shown_item w.in-Inner.is ∙ sym (ap (λ k. opening k.0 (shown_label k.1) (shown_stamp k.2)) w.kind-is)
      | merge_child-in-Leaf w ↦ ap shown_item w.in-Leaf.is ∙ sym (ap (λ k. opening k.0 (shown_label k.1) (shown_stamp k.2)) w.kind-is)
    ]

pub merge_child-returns-in_err-label : goal.merge_child-returns-in_err-label
merge_child-returns-in_err-label g t c =
    let h : PlainInherited = inherited_view c.args.from.now in
    let cs : List PlainKeyed = kids_view c.args.kids in
    let s = at g c.args.folder.now c.args.cursor.now c.args.writer.now in
    let p = at g c.next.new.folder c.next.follows.lender-at-none c.args.writer.now in
    let e = c.in_err-label in
    let stays = stays-by s p c.next.result e.field-0.0 e.was e.ensures.files e.ensures.draft e.ensures.pulls e.ensures.later e.ensures.cause e.ensures.undamaged e.ensures.reads c.next.follows.holds-at-none in
    at-err c.from_residual.result (of_cursor e.field-0.0) c.from_residual.ensures.1 (ChildMerged h cs s p) (child-failed h cs s p e.field-0.0 c.requires.within stays)

pub merge_child-returns-in_err-put_started-in-End : goal.merge_child-returns-in_err-put_started-in-End
merge_child-returns-in_err-put_started-in-End g t c =
    let h : PlainInherited = inherited_view c.args.from.now in
    let cs : List PlainKeyed = kids_view c.args.kids in
    let d : PlainCursor = c.next.follows.lender-at-none in
    let s = at g c.args.folder.now c.args.cursor.now c.args.writer.now in
    let p = at g c.next.new.folder d c.args.writer.now in
    let u = at g c.put_started.new.folder d c.put_started.new.writer in
    let gave = read g t (goal.at.merge_child-returns-in_err-put_started-in-End g t c).In_ok-label in
    let goes = gave.goes in
    let a = c.in-End in
    let e = c.in_err-put_started-in-End in
    let r = c.from_residual-in_err-put_started-in-End in
    at-err r.result e.field-0.0 r.ensures.1 (ChildMerged h cs s u) (child-unended h cs s p u c.in_ok-label.field-0 a.length gave (ap shown_item a.is) e.field-0.0 (e.ensures.sends d goes.within))

pub merge_child-returns-in-End : goal.merge_child-returns-in-End
merge_child-returns-in-End g t c =
    let h : PlainInherited = inherited_view c.args.from.now in
    let cs : List PlainKeyed = kids_view c.args.kids in
    let d : PlainCursor = c.next.follows.lender-at-none in
    let s = at g c.args.folder.now c.args.cursor.now c.args.writer.now in
    let p = at g c.next.new.folder d c.args.writer.now in
    let u = at g c.put_started.new.folder d c.put_started.new.writer in
    let gave = read g t (goal.at.merge_child-returns-in-End g t c).In_ok-label in
    let goes = gave.goes in
    let a = c.in-End in
    child-ended h cs s p u c.in_ok-label.field-0 a.length gave (ap shown_item a.is) c.requires.no_leaf (c.in_ok-put_started-in-End.ensures.sends d goes.within)

pub merge_child-returns-in_default : goal.merge_child-returns-in_default
merge_child-returns-in_default g t c =
    let h : PlainInherited = inherited_view c.args.from.now in
    let cs : List PlainKeyed = kids_view c.args.kids in
    let s = at g c.args.folder.now c.args.cursor.now c.args.writer.now in
    let p = at g c.next.new.folder c.next.follows.lender-at-none c.args.writer.now in
    let a = c.in_default in
    child-damage h cs s p c.in_ok-label.field-0 a.not-Inner a.not-Leaf a.not-End (read g t (goal.at.merge_child-returns-in_default g t c).In_ok-label)

pub merge_child-returns-in_err-begun : goal.merge_child-returns-in_err-begun
merge_child-returns-in_err-begun g t c =
    let h : PlainInherited = inherited_view c.args.from.now in
    let cs : List PlainKeyed = kids_view c.args.kids in
    let d : PlainCursor = c.next.follows.lender-at-none in
    let s = at g c.args.folder.now c.args.cursor.now c.args.writer.now in
    let p = at g c.next.new.folder d c.args.writer.now in
    let u = at g c.begin_beside.new.folder d c.begin_beside.new.writer in
    let here = goal.at.merge_child-returns-in_err-begun g t c in
    let gave = read g t here.In_ok-label in
    let goes = gave.goes in
    let k = c.match-branch-2.kind in
    let e = c.in_err-begun in
    let r = c.from_residual-in_err-begun in
    at-err r.result e.field-0.0 r.ensures.1 (ChildMerged h cs s u) (child-unbegun h cs (shown_label k.1) (shown_stamp k.2) k.0 s p u c.in_ok-label.field-0 gave (opens g t here.Joined-branch-2) e.field-0.0 (e.ensures.begins d goes.within))

pub merge_child-merge_begun-merged-requires : goal.merge_child-merge_begun-merged-requires
merge_child-merge_begun-merged-requires g t c κs within =
    let h : PlainInherited = inherited_view c.args.from.now in
    let cs : List PlainKeyed = kids_view c.args.kids in
    let d : PlainCursor = c.next.follows.lender-at-none in
    let here = goal.at.merge_child-merge_begun-merged-requires g t c in
    let gave = read g t here.In_ok-label in
    let goes = gave.goes in
    let k = c.match-branch-2.kind in
    let b = c.in_ok-begun in
    let kid : Option PlainKeyed = option_map kid_view b.begun.kid in
    let own : PlainInherited = own_view b.begun.own in
    let l = shown_label k.1 in
    let st = shown_stamp k.2 in
    let began = b.ensures.begins d goes.within in
    let known = b.ensures.begun in
    let smaller = opening-smaller k.0 (g.F.Folder.files c.args.folder.now) c.args.cursor.now d c.in_ok-label.field-0 l st (opens g t here.Joined-branch-2) goes in
    let less : 4 * (d.length - d.at) + 3 < t = omega (arith, smaller, c.decreases) in (
      less,
      (
        within,
        (
          goes.within,
          (
            begun-open k.0 (writer_view c.args.writer.now) (writer_view c.begin_beside.new.writer) began.begins,
            (
              begun-number h l st cs kid (kids_view b.begun.rest) own known c.requires.number,
              (begun-kid h l st cs kid (kids_view b.begun.rest) own known c.requires.ordered c.requires.shaped, begun-alone h l st cs kid (kids_view b.begun.rest) own known),
            ),
          ),
        ),
      ),
    )

pub merge_child-returns-in_err-merged : goal.merge_child-returns-in_err-merged
merge_child-returns-in_err-merged g t c =
    let h : PlainInherited = inherited_view c.args.from.now in
    let cs : List PlainKeyed = kids_view c.args.kids in
    let d : PlainCursor = c.next.follows.lender-at-none in
    let s = at g c.args.folder.now c.args.cursor.now c.args.writer.now in
    let p = at g c.next.new.folder d c.args.writer.now in
    let u = at g c.begin_beside.new.folder d c.begin_beside.new.writer in
    let here = goal.at.merge_child-returns-in_err-merged g t c in
    let gave = read g t here.In_ok-label in
    let goes = gave.goes in
    let k = c.match-branch-2.kind in
    let b = c.in_ok-begun in
    let kid : Option PlainKeyed = option_map kid_view b.begun.kid in
    let own : PlainInherited = own_view b.begun.own in
    let v = at g c.merge_begun-merged.new.folder c.merge_begun-merged.new.cursor c.merge_begun-merged.new.writer in
    let e = c.in_err-merged in
    let r = c.from_residual-in_err-merged in
    at-err r.result e.field-0.0 r.ensures.1 (ChildMerged h cs s v)
    (child-unmerged h cs (shown_label k.1) (shown_stamp k.2) k.0 s p u c.in_ok-label.field-0 gave (opens g t here.Joined-branch-2) b.begun v (b.ensures.begins d goes.within) kid b.begun.rest own b.ensures.begun e.field-0.0 e.ensures)

pub merge_child-returns : goal.merge_child-returns
merge_child-returns g t c =
    let h : PlainInherited = inherited_view c.args.from.now in
    let cs : List PlainKeyed = kids_view c.args.kids in
    let d : PlainCursor = c.next.follows.lender-at-none in
    let s = at g c.args.folder.now c.args.cursor.now c.args.writer.now in
    let p = at g c.next.new.folder d c.args.writer.now in
    let u = at g c.begin_beside.new.folder d c.begin_beside.new.writer in
    let here = goal.at.merge_child-returns g t c in
    let gave = read g t here.In_ok-label in
    let goes = gave.goes in
    let k = c.match-branch-2.kind in
    let b = c.in_ok-begun in
    let kid : Option PlainKeyed = option_map kid_view b.begun.kid in
    let own : PlainInherited = own_view b.begun.own in
    let v = at g c.merge_begun-merged.new.folder c.merge_begun-merged.new.cursor c.merge_begun-merged.new.writer in
    child-merged h cs (shown_label k.1) (shown_stamp k.2) k.0 s p u c.in_ok-label.field-0 gave (opens g t here.Joined-branch-2) b.begun v (b.ensures.begins d goes.within) kid b.begun.rest own b.ensures.begun c.in_ok-merged.ensures

-- ---- the inside of a node

pub merge_begun-merge_inner-requires : goal.merge_begun-merge_inner-requires
merge_begun-merge_inner-requires g t c κs within =
    let r = c.requires in
    let stands = subst (λ (k : Kind). IsOpen k (writer_view c.args.writer.now)) c.in-Inner.is r.stands in
    let less : 4 * (c.args.cursor.now.length - c.args.cursor.now.at) + 2 < t = omega (arith, c.decreases) in
    (less, (within, (r.within, (stands.0, (stands.1, (r.number, (r.kid, r.alone)))))))

pub merge_begun-merge_leaf-requires : goal.merge_begun-merge_leaf-requires
merge_begun-merge_leaf-requires g t c =
    let r = c.requires in
    record { within = r.within; leaf = subst (λ (k : Kind). IsOpen k (writer_view c.args.writer.now)) c.in-Leaf.is r.stands; number = r.number; kid = kid-shaped (option_map kid_view c.args.begun.now.kid) r.kid }

pub merge_begun-returns-in-Inner : goal.merge_begun-returns-in-Inner
merge_begun-returns-in-Inner g t c =
    let s = at g c.args.folder.now c.args.cursor.now c.args.writer.now in
    let v = at g c.merge_inner.new.folder c.merge_inner.new.cursor c.merge_inner.new.writer in
    subst (λ (k : Kind). BegunMerged k (own_view c.args.begun.now.own) (option_map kid_view c.args.begun.now.kid) s v (fault_of c.merge_inner.result)) (sym c.in-Inner.is) c.merge_inner.ensures

pub merge_begun-returns-in-Leaf : goal.merge_begun-returns-in-Leaf
merge_begun-returns-in-Leaf g t c =
    let s = at g c.args.folder.now c.args.cursor.now c.args.writer.now in
    let v = at g c.merge_leaf.new.folder c.merge_leaf.new.cursor c.merge_leaf.new.writer in
    subst (λ (k : Kind). BegunMerged k (own_view c.args.begun.now.own) (option_map kid_view c.args.begun.now.kid) s v (fault_of c.merge_leaf.result)) (sym c.in-Leaf.is) c.merge_leaf.ensures

-- ---- the inside of an inner node

pub merge_inner-returns-in_err-merge_row-in-Kids : goal.merge_inner-returns-in_err-merge_row-in-Kids
merge_inner-returns-in_err-merge_row-in-Kids g t c =
    let own : PlainInherited = inherited_view c.get-own.result.now in
    let o : Option PlainKeyed = option_map kid_view c.args.begun.now.kid in
    let k : PlainKeyed = kid_view c.in-Some.kid in
    let cs : List PlainKeyed = kids_view c.in-Kids.kids in
    let is : o ≡ Some (inner (label_of k) (kids_from cs)) = ap (option_map kid_view) c.in-Some.is ∙ ap Some c.in-Kids.ensures in
    let s = at g c.args.folder.now c.args.cursor.now c.args.writer.now in
    let m = at g c.merge_row.new.folder c.merge_row.new.cursor c.merge_row.new.writer in
    let e = c.in_err-merge_row-in-Kids in
    let fails = inside-row-fails own o (label_of k) cs s m is e.field-0.0 e.ensures in
    at-err c.from_residual.result e.field-0.0 c.from_residual.ensures.1 (λ r. InsideMerged (own_view c.args.begun.now.own) o s m (fault_of r))
    (subst (λ (h : PlainInherited). InsideMerged h o s m (Some e.field-0.0)) c.get-own.ensures fails)

pub merge_inner-returns-in_ok-merge_row-in-Kids : goal.merge_inner-returns-in_ok-merge_row-in-Kids
merge_inner-returns-in_ok-merge_row-in-Kids g t c =
    let own : PlainInherited = inherited_view c.get-own.result.now in
    let o : Option PlainKeyed = option_map kid_view c.args.begun.now.kid in
    let k : PlainKeyed = kid_view c.in-Some.kid in
    let cs : List PlainKeyed = kids_view c.in-Kids.kids in
    let is : o ≡ Some (inner (label_of k) (kids_from cs)) = ap (option_map kid_view) c.in-Some.is ∙ ap Some c.in-Kids.ensures in
    let s = at g c.args.folder.now c.args.cursor.now c.args.writer.now in
    let m = at g c.merge_row.new.folder c.merge_row.new.cursor c.merge_row.new.writer in
    let u = at g c.end_inner.new.folder c.merge_row.new.cursor c.end_inner.new.self in
    let row = c.in_ok-merge_row-in-Kids.ensures in
    let before = row.passes in
    let f = g.F.Folder in
    let e = c.end_inner.ensures in
    let sent = call-sends f.files f.draft f.numbers f.faults c.merge_row.new.folder c.end_inner.new.folder c.merge_row.new.cursor c.merge_row.new.writer c.end_inner.new.self call_end_inner c.end_inner.result (g.met.F.Folder.metered c.merge_row.new.folder) before.within e.folder e.after e.too_long in
    let closed = inside-row-closed own o (label_of k) cs s m is u (written c.end_inner.result) c.requires.begun row sent in
    subst (λ (x : Option MergeFault). InsideMerged (own_view c.args.begun.now.own) o s u x) (called c.end_inner.result c.written.result c.written.ensures)
    (subst (λ (h : PlainInherited). InsideMerged h o s u (written c.end_inner.result)) c.get-own.ensures closed)

pub merge_inner-returns-in-Body : goal.merge_inner-returns-in-Body
merge_inner-returns-in-Body g t c =
    let o : Option PlainKeyed = option_map kid_view c.args.begun.now.kid in
    let k : PlainKeyed = kid_view c.in-Some.kid in
    let b = lent_val_view c.in-Body.field-0 in
    let s = at g c.args.folder.now c.args.cursor.now c.args.writer.now in
    let is : o ≡ Some (leaf (label_of k) b) = ap (option_map kid_view) c.in-Some.is ∙ ap Some c.in-Body.ensures in
    inside-misfit (own_view c.args.begun.now.own) o (label_of k) b s is (g.met.F.Folder.metered c.args.folder.now) c.requires.within

pub merge_inner-returns-in-None : goal.merge_inner-returns-in-None
merge_inner-returns-in-None g t c =
    let own : PlainInherited = inherited_view c.get-own.result.now in
    let o : Option PlainKeyed = option_map kid_view c.args.begun.now.kid in
    let s = at g c.args.folder.now c.args.cursor.now c.args.writer.now in
    let v = at g c.copy_inner.new.folder c.copy_inner.new.cursor c.copy_inner.new.writer in
    let none : o ≡ None = ap (option_map kid_view) c.in-None.is in
    let alone = subst (λ (h : PlainInherited). h.now ≡ h.before) (sym c.get-own.ensures) (c.requires.alone none) in
    subst (λ (h : PlainInherited). InsideMerged h o s v (fault_of c.copy_inner.result)) c.get-own.ensures (inside-alone own o s v (fault_of c.copy_inner.result) none alone c.copy_inner.ensures)

-- ---- a row

pub merge_row-loop-rest-init : goal.merge_row-loop-rest-init
merge_row-loop-rest-init g t c =
    let r = c.requires in
    merge-start (inherited_view c.args.from.now) (kids_view c.args.kids) (at g c.args.folder.now c.args.cursor.now c.args.writer.now) r.ascending r.ordered r.shaped r.within r.no_leaf

pub merge_row-merge_child-requires : goal.merge_row-merge_child-requires
merge_row-merge_child-requires g t c κs within =
    let l = c.loop-rest in
    let on = l.invariant in
    let onward = on.onward in
    let same = on.same_length in
    let less : 4 * (l.cursor.length - l.cursor.at) < t = omega (arith, onward, same, c.decreases) in (
      less,
      (within, (on.within, (on.no_leaf, (c.requires.number, (on.ascending, (on.ordered, on.shaped)))))),
    )

pub merge_row-loop-rest-preserved : goal.merge_row-loop-rest-preserved
merge_row-loop-rest-preserved g t c =
    let h : PlainInherited = inherited_view c.args.from.now in
    let cs : List PlainKeyed = kids_view c.args.kids in
    let s = at g c.args.folder.now c.args.cursor.now c.args.writer.now in
    let l = c.loop-rest in
    let p = at g l.folder l.cursor l.writer in
    let u = at g c.merge_child.new.folder c.merge_child.new.cursor c.merge_child.new.writer in
    let e = c.in_ok-rest in
    merge-more h cs (kids_view l.left) s p u l.invariant e.field-0 c.in-Some.rest c.in-Some.is e.ensures

pub merge_row-returns : goal.merge_row-returns
merge_row-returns g t c =
    let h : PlainInherited = inherited_view c.args.from.now in
    let cs : List PlainKeyed = kids_view c.args.kids in
    let s = at g c.args.folder.now c.args.cursor.now c.args.writer.now in
    let l = c.loop-rest in
    let p = at g l.folder l.cursor l.writer in
    let u = at g c.merge_child.new.folder c.merge_child.new.cursor c.merge_child.new.writer in
    let e = c.in_ok-rest in
    merge-done h cs (kids_view l.left) s p u l.invariant e.field-0 c.in_default.is e.ensures

pub merge_row-returns-in_err-rest : goal.merge_row-returns-in_err-rest
merge_row-returns-in_err-rest g t c =
    let h : PlainInherited = inherited_view c.args.from.now in
    let cs : List PlainKeyed = kids_view c.args.kids in
    let s = at g c.args.folder.now c.args.cursor.now c.args.writer.now in
    let l = c.loop-rest in
    let p = at g l.folder l.cursor l.writer in
    let u = at g c.merge_child.new.folder c.merge_child.new.cursor c.merge_child.new.writer in
    let e = c.in_err-rest in
    at-err c.from_residual.result e.field-0.0 c.from_residual.ensures.1 (λ r. RowMerged h cs s u (fault_of r)) (merge-fault h cs (kids_view l.left) s p u l.invariant e.field-0.0 e.ensures)
