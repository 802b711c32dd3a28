use Rattle.std.proofs.Common.{◌≡◌, ℕ, ◌-◌, Option, Some, None, Ok, refl, sym, ap, subst, ◌∙◌, arith}
use Rattle.std.specs.Prelude.{IsSome}
use Rattle.xa_fields.proofs.Fields.{some_is}
use Rattle.archive_tree.specs.View.{stamp_view}
use Rattle.keyed_tree.specs.Data.{PlainLabel}
use Rattle.record_parts.specs.ShownViews.{label_in, shown_label}
use Rattle.record_cursor.specs.Items.{inner_item}
use Rattle.record_cursor.specs.Places.{Standing, among_nodes, in_leaf}
use Rattle.record_cursor.specs.View.{PlainCursor}
use Rattle.record_cursor.specs.declared.fault.CursorFault.TheVariants.{Memory}
use Rattle.node_judge.specs.FrameView.{frame_view, kept_label}
use Rattle.node_judge.specs.Rows.{PlainFrame, inner_opened}
use Rattle.row_ends.specs.Kids.{with_kid}
use Rattle.row_ends.specs.KidsView.{kids_view}
use Rattle.node_walk.specs.Places.{IsAmongNodes, IsInLeaf}
use Rattle.node_walk.specs.Seen.{Seen, seen}
use Rattle.node_walk.specs.Walked.{NextRead, InRowJudged, InnerJudged, RowJudged}
use Rattle.node_walk.specs.declared.next.Next.{Next}
use Rattle.node_walk.specs.declared.rows.InRow.{InRow}
use Rattle.node_walk.proofs.InRowLaws.{moved-on, in-row-failed, in-row-end, leaf-inside, in-row-leaf, in-row-no-leaf, inner-inside, in-row-inner, in-row-no-inner}
use Rattle.node_walk.proofs.RowLaws.{RowOn, row-begins, row-failed, row-kept, row-not-kept, row-ended, row-not-ended}
use Rattle.node_walk.proofs.Inside.{inner-judged, inner-refused, inner-memory, opened-set}
use Rattle.node_walk.proofs.Steps.{at-err, reads-none}
use Rattle.node_walk.proofs.rows.+walk.Given.{Over}
use Rattle.node_walk.proofs.rows.+walk.Goals as goal

abbrev at : (g : Over) → g.row.F.Denot → PlainCursor → Seen
at g = (let f = g.F.Folder in seen f.files f.draft f.numbers f.faults)

-- what was read is this
read-as : (l : Option PlainLabel) (s t : Seen) (n m : Next) → n ≡ m → NextRead l s t (Ok n) → NextRead l s t (Ok m)
read-as l s t n m is h = subst (λ (x : Next). NextRead l s t (Ok x)) is h

judged-as : (f : PlainFrame) (l : Option PlainLabel) (s t : Seen) (n m : InRow) → n ≡ m → InRowJudged f l s t (Ok n) → InRowJudged f l s t (Ok m)
judged-as f l s t n m is h = subst (λ (x : InRow). InRowJudged f l s t (Ok x)) is h

-- the label that is kept
is-label : (l : Option PlainLabel) → IsSome l → l ≡ Some (label_in l)
is-label (Some l) h = refl
is-label None h = absurd cc

leaf-here : (p : Standing) (d : ℕ) → p ≡ in_leaf d → IsInLeaf p
leaf-here p d is = subst IsInLeaf (sym is) tt

among-here : (p : Standing) (d : ℕ) → p ≡ among_nodes d → IsAmongNodes p
among-here p d is = subst IsAmongNodes (sym is) tt

-- ---- what comes in a row

pub judge_in_row-returns-in_err-stamp : goal.judge_in_row-returns-in_err-stamp
judge_in_row-returns-in_err-stamp g t c =
    let f = frame_view c.args.frame.now in
    let l = kept_label c.next_in_row.new.label in
    let s = at g c.args.folder.now c.args.cursor.now in
    let m = at g c.next_in_row.new.folder c.next_in_row.new.cursor in
    let e = c.in_err-stamp in
    at-err c.from_residual.result e.field-0.0 c.from_residual.ensures.1 (λ r. InRowJudged f l s m r) (in-row-failed f l s c.requires.1.1.1.1.1.0 m e.field-0.0 e.ensures)

pub judge_in_row-returns-in-End : goal.judge_in_row-returns-in-End
judge_in_row-returns-in-End g t c =
    let f = frame_view c.args.frame.now in
    let l = kept_label c.next_in_row.new.label in
    let s = at g c.args.folder.now c.args.cursor.now in
    let m = at g c.next_in_row.new.folder c.next_in_row.new.cursor in
    let o = c.in_ok-stamp in
    let h = read-as l s m o.field-0 _ c.in-End.is o.ensures in
    in-row-end f l s c.requires.1.1.1.1.1.0 m c.in-End.length h.reads h.given

pub judge_in_row-judge_leaf-requires : goal.judge_in_row-judge_leaf-requires
judge_in_row-judge_leaf-requires g t c =
    let f = frame_view c.args.frame.now in
    let l = kept_label c.next_in_row.new.label in
    let s = at g c.args.folder.now c.args.cursor.now in
    let m = at g c.next_in_row.new.folder c.next_in_row.new.cursor in
    let o = c.in_ok-stamp in
    let h = read-as l s m o.field-0 _ c.in-Leaf.is o.ensures in
    let reads = h.reads in
    record {
      within = reads.within;
      inside = leaf-here m.cursor.standing _ (leaf-inside f l s c.requires.1.1.1.1.1.0 m reads h.labelled c.in-Leaf.stamp h.given);
      label = h.labelled;
    }

pub judge_in_row-returns-in_ok-judge_leaf-in-Leaf : goal.judge_in_row-returns-in_ok-judge_leaf-in-Leaf
judge_in_row-returns-in_ok-judge_leaf-in-Leaf g t c =
    let f = frame_view c.args.frame.now in
    let l = kept_label c.next_in_row.new.label in
    let s = at g c.args.folder.now c.args.cursor.now in
    let m = at g c.next_in_row.new.folder c.next_in_row.new.cursor in
    let u = at g c.judge_leaf.new.folder c.judge_leaf.new.cursor in
    let o = c.in_ok-stamp in
    let h = read-as l s m o.field-0 _ c.in-Leaf.is o.ensures in
    in-row-leaf f l s c.requires.1.1.1.1.1.0 m h.reads h.labelled c.in-Leaf.stamp h.given u (c.in_ok-judge_leaf-in-Leaf.ensures (label_in l) (is-label l h.labelled))

pub judge_in_row-returns-in_err-judge_leaf-in-Leaf : goal.judge_in_row-returns-in_err-judge_leaf-in-Leaf
judge_in_row-returns-in_err-judge_leaf-in-Leaf g t c =
    let f = frame_view c.args.frame.now in
    let l = kept_label c.next_in_row.new.label in
    let s = at g c.args.folder.now c.args.cursor.now in
    let m = at g c.next_in_row.new.folder c.next_in_row.new.cursor in
    let u = at g c.judge_leaf.new.folder c.judge_leaf.new.cursor in
    let o = c.in_ok-stamp in
    let h = read-as l s m o.field-0 _ c.in-Leaf.is o.ensures in
    let e = c.in_err-judge_leaf-in-Leaf in
    let r = c.from_residual-in_err-judge_leaf-in-Leaf in
    at-err r.result e.field-0.0 r.ensures.1 (λ q. InRowJudged f l s u q)
    (in-row-no-leaf f l s c.requires.1.1.1.1.1.0 m h.reads h.labelled c.in-Leaf.stamp h.given u e.field-0.0 (e.ensures (label_in l) (is-label l h.labelled)))

pub judge_in_row-judge_inner-requires : goal.judge_in_row-judge_inner-requires
judge_in_row-judge_inner-requires g t c =
    let f = frame_view c.args.frame.now in
    let l = kept_label c.next_in_row.new.label in
    let s = at g c.args.folder.now c.args.cursor.now in
    let m = at g c.next_in_row.new.folder c.next_in_row.new.cursor in
    let o = c.in_ok-stamp in
    let h = read-as l s m o.field-0 _ c.in-Inner.is o.ensures in
    let reads = h.reads in
    let among = c.requires.1.1.1.1.1.0 in
    let more = moved-on f l s among m reads (inner_item (label_in l) (stamp_view c.in-Inner.stamp)) (λ e. absurd cc) h.given in
    let within = reads.within in
    let same = reads.same_length in
    λ k lives. (
      omega (arith, more, within, same),
      (
        lives,
        (
          c.requires.1.1.1.0 ∙ sym reads.same_name,
          (within, (among-here m.cursor.standing _ (inner-inside f l s among m reads h.labelled c.in-Inner.stamp h.given), (c.requires.1.1.1.1.1.1, (h.labelled, h.stamped)))),
        ),
      ),
    )

pub judge_in_row-returns-in_ok-dir-in-Inner : goal.judge_in_row-returns-in_ok-dir-in-Inner
judge_in_row-returns-in_ok-dir-in-Inner g t c =
    let f = frame_view c.args.frame.now in
    let l = kept_label c.next_in_row.new.label in
    let s = at g c.args.folder.now c.args.cursor.now in
    let m = at g c.next_in_row.new.folder c.next_in_row.new.cursor in
    let u = at g c.judge_inner.new.folder c.judge_inner.new.cursor in
    let o = c.in_ok-stamp in
    let h = read-as l s m o.field-0 _ c.in-Inner.is o.ensures in
    let d = c.in_ok-dir-in-Inner in
    in-row-inner f l s c.requires.1.1.1.1.1.0 m h.reads h.labelled c.in-Inner.stamp h.given u d.dir (d.ensures (label_in l) (is-label l h.labelled))

pub judge_in_row-returns-in_err-dir-in-Inner : goal.judge_in_row-returns-in_err-dir-in-Inner
judge_in_row-returns-in_err-dir-in-Inner g t c =
    let f = frame_view c.args.frame.now in
    let l = kept_label c.next_in_row.new.label in
    let s = at g c.args.folder.now c.args.cursor.now in
    let m = at g c.next_in_row.new.folder c.next_in_row.new.cursor in
    let u = at g c.judge_inner.new.folder c.judge_inner.new.cursor in
    let o = c.in_ok-stamp in
    let h = read-as l s m o.field-0 _ c.in-Inner.is o.ensures in
    let e = c.in_err-dir-in-Inner in
    let r = c.from_residual-in_err-dir-in-Inner in
    at-err r.result e.field-0.0 r.ensures.1 (λ q. InRowJudged f l s u q)
    (in-row-no-inner f l s c.requires.1.1.1.1.1.0 m h.reads h.labelled c.in-Inner.stamp h.given u e.field-0.0 (e.ensures (label_in l) (is-label l h.labelled)))

-- ---- inside an inner node

pub judge_inner-returns-in_err-keys : goal.judge_inner-returns-in_err-keys
judge_inner-returns-in_err-keys g t c = λ l is. (
    let f = frame_view c.args.frame.now in
    let a = stamp_view c.args.stamp.now in
    let s = at g c.args.folder.now c.args.cursor.now in
    at-err c.from_residual.result Memory c.from_residual.ensures.1 (λ r. InnerJudged f l a s s r) (inner-memory f l a s (reads-none s c.requires.1.1.1.1.0 (g.met.F.Folder.metered c.args.folder.now))))

pub judge_inner-returns-in_err-below : goal.judge_inner-returns-in_err-below
judge_inner-returns-in_err-below g t c = λ l is. (
    let f = frame_view c.args.frame.now in
    let a = stamp_view c.args.stamp.now in
    let s = at g c.args.folder.now c.args.cursor.now in
    let r = c.from_residual-in_err-below in
    at-err r.result Memory r.ensures.1 (λ r. InnerJudged f l a s s r) (inner-memory f l a s (reads-none s c.requires.1.1.1.1.0 (g.met.F.Folder.metered c.args.folder.now))))

pub judge_inner-returns : goal.judge_inner-returns
judge_inner-returns g t c = λ l is. (
    let f = frame_view c.args.frame.now in
    let a = stamp_view c.args.stamp.now in
    let s = at g c.args.folder.now c.args.cursor.now in
    let same : shown_label c.lend-label.result ≡ l = some_is _ l (c.lend-label.ensures ∙ is) in
    inner-refused f l a s (reads-none s c.requires.1.1.1.1.0 (g.met.F.Folder.metered c.args.folder.now)) (rw c.in-None.is at c.in_ok-below.ensures ∙ ap (λ (m : PlainLabel). inner_opened f m a) same))

pub judge_inner-judge_row-requires : goal.judge_inner-judge_row-requires
judge_inner-judge_row-requires g t c =
    let f = frame_view c.args.frame.now in
    let a = stamp_view c.args.stamp.now in
    let r = c.requires.1.1.1 in
    λ k lives. (
      omega arith,
      (
        lives,
        (
          r.0,
          (r.1.0, (r.1.1.0, (opened-set f (frame_view c.in-Some.below) (shown_label c.lend-label.result) a (rw c.in-Some.is at c.in_ok-below.ensures) r.1.1.1.1.1 r.1.1.1.0, c.new-kids.ensures))),
        ),
      ),
    )

pub judge_inner-returns-in-Some : goal.judge_inner-returns-in-Some
judge_inner-returns-in-Some g t c = λ l is. (
    let f = frame_view c.args.frame.now in
    let a = stamp_view c.args.stamp.now in
    let s = at g c.args.folder.now c.args.cursor.now in
    let u = at g c.judge_row.new.folder c.judge_row.new.cursor in
    let same : shown_label c.lend-label.result ≡ l = some_is _ l (c.lend-label.ensures ∙ is) in
    inner-judged f l a s u (frame_view c.in-Some.below) (rw c.in-Some.is at c.in_ok-below.ensures ∙ ap (λ (m : PlainLabel). inner_opened f m a) same) (kids_view c.judge_row.new.kids) c.judge_row.result c.judge_row.ensures)

-- ---- a row

pub judge_row-loop-label-init : goal.judge_row-loop-label-init
judge_row-loop-label-init g t c =
    let s = at g c.args.folder.now c.args.cursor.now in
    row-begins (frame_view c.args.frame.now) s (kids_view c.args.kids.now) c.requires.1.1.1.1.1.1.1 c.requires.1.1.1.1.0 c.requires.1.1.1.1.1.0

pub judge_row-returns-in_err-stamp : goal.judge_row-returns-in_err-stamp
judge_row-returns-in_err-stamp g t c =
    let l = c.loop-label in
    let s0 = at g c.args.folder.now c.args.cursor.now in
    let s = at g l.folder l.cursor in
    let u = at g c.judge_in_row.new.folder c.judge_in_row.new.cursor in
    let f = frame_view c.args.frame.now in
    let e = c.in_err-stamp in
    at-err c.from_residual.result e.field-0.0 c.from_residual.ensures.1 (λ q. RowJudged f (kids_view l.kids) s0 u q)
    (row-failed f (frame_view l.frame) s0 s u (kids_view l.kids) l.invariant (kept_label c.judge_in_row.new.label) (kids_view l.kids) e.field-0.0 e.ensures)

pub judge_row-keep-requires : goal.judge_row-keep-requires
judge_row-keep-requires g t c =
    let l = c.loop-label in
    let size = l.invariant.size in
    let s = at g l.folder l.cursor in
    let u = at g c.judge_in_row.new.folder c.judge_in_row.new.cursor in
    let o = c.in_ok-stamp in
    let h = judged-as (frame_view l.frame) (kept_label c.judge_in_row.new.label) s u o.field-0 _ c.in-Kid.is o.ensures in
    let reads = h.reads in
    let onward = reads.onward in
    record { label = h.behind.0; short = omega (arith, size, onward, c.at.ensures, c.at-start.ensures) }

pub judge_row-returns-in_err-keep-in-Kid : goal.judge_row-returns-in_err-keep-in-Kid
judge_row-returns-in_err-keep-in-Kid g t c =
    let l = c.loop-label in
    let s0 = at g c.args.folder.now c.args.cursor.now in
    let s = at g l.folder l.cursor in
    let u = at g c.judge_in_row.new.folder c.judge_in_row.new.cursor in
    let f = frame_view c.args.frame.now in
    let label = kept_label c.judge_in_row.new.label in
    let o = c.in_ok-stamp in
    let e = c.in_err-keep-in-Kid in
    let r = c.from_residual-in_err-keep-in-Kid in
    at-err r.result e.field-0.0 r.ensures.1 (λ q. RowJudged f (kids_view c.keep.new.kids) s0 u q)
    (row-not-kept f (frame_view l.frame) s0 s u (kids_view l.kids) l.invariant label c.in-Kid.stamp c.in-Kid.dir (judged-as (frame_view l.frame) label s u o.field-0 _ c.in-Kid.is o.ensures) (kids_view c.keep.new.kids) e.field-0.0 e.ensures.inside e.ensures.full)

pub judge_row-loop-label-preserved : goal.judge_row-loop-label-preserved
judge_row-loop-label-preserved g t c =
    let l = c.loop-label in
    let s0 = at g c.args.folder.now c.args.cursor.now in
    let s = at g l.folder l.cursor in
    let u = at g c.judge_in_row.new.folder c.judge_in_row.new.cursor in
    let f = frame_view c.args.frame.now in
    let row = frame_view l.frame in
    let label = kept_label c.judge_in_row.new.label in
    let o = c.in_ok-stamp in
    let k = c.in_ok-keep-in-Kid.ensures in
    let v = c.in-Kid.stamp in
    let dir = c.in-Kid.dir in
    let h = judged-as row label s u o.field-0 _ c.in-Kid.is o.ensures in
    let kept = k.kids ∙ (λ i. with_kid (kids_view l.kids) (c.at.ensures i - c.at-start.ensures i) dir (stamp_view v)) in
    subst (λ (z : PlainFrame). RowOn f z s0 u (kids_view c.keep.new.kids)) (sym (k.frame (label_in label) (is-label label h.behind.0)))
    (row-kept f row s0 s u (kids_view l.kids) l.invariant label v dir h (kids_view c.keep.new.kids) kept k.few)

pub judge_row-loop-label-smaller : goal.judge_row-loop-label-smaller
judge_row-loop-label-smaller g t c =
    let l = c.loop-label in
    let s = at g l.folder l.cursor in
    let u = at g c.judge_in_row.new.folder c.judge_in_row.new.cursor in
    let o = c.in_ok-stamp in
    let h = judged-as (frame_view l.frame) (kept_label c.judge_in_row.new.label) s u o.field-0 _ c.in-Kid.is o.ensures in
    let reads = h.reads in
    let more = h.behind.2 in
    let inside = reads.within in
    let same = reads.same_length in
    omega (arith, more, inside, same)

pub judge_row-judge_end-requires : goal.judge_row-judge_end-requires
judge_row-judge_end-requires g t c =
    let l = c.loop-label in
    let s = at g l.folder l.cursor in
    let u = at g c.judge_in_row.new.folder c.judge_in_row.new.cursor in
    let o = c.in_ok-stamp in
    let h = judged-as (frame_view l.frame) (kept_label c.judge_in_row.new.label) s u o.field-0 _ c.in-End.is o.ensures in
    let moved = h.behind.moved in
    let reads = h.reads in
    record { named = c.requires.1.1.1.0 ∙ sym l.invariant.on.same_name ∙ sym reads.same_name; fits = omega (arith, moved); within = reads.within }

pub judge_row-returns-in_err-judge_end-in-End : goal.judge_row-returns-in_err-judge_end-in-End
judge_row-returns-in_err-judge_end-in-End g t c =
    let l = c.loop-label in
    let s0 = at g c.args.folder.now c.args.cursor.now in
    let s = at g l.folder l.cursor in
    let m = at g c.judge_in_row.new.folder c.judge_in_row.new.cursor in
    let u = at g c.judge_end.new.folder c.judge_in_row.new.cursor in
    let f = frame_view c.args.frame.now in
    let row = frame_view l.frame in
    let label = kept_label c.judge_in_row.new.label in
    let o = c.in_ok-stamp in
    let e = c.in_err-judge_end-in-End in
    let r = c.from_residual-in_err-judge_end-in-End in
    at-err r.result e.field-0.0 r.ensures.1 (λ q. RowJudged f (kids_view l.kids) s0 u q)
    (row-not-ended f row s0 s m (kids_view l.kids) l.invariant label c.in-End.length (judged-as row label s m o.field-0 _ c.in-End.is o.ensures) u refl e.field-0.0 e.ensures)

pub judge_row-returns-in-End : goal.judge_row-returns-in-End
judge_row-returns-in-End g t c =
    let l = c.loop-label in
    let s0 = at g c.args.folder.now c.args.cursor.now in
    let s = at g l.folder l.cursor in
    let m = at g c.judge_in_row.new.folder c.judge_in_row.new.cursor in
    let u = at g c.judge_end.new.folder c.judge_in_row.new.cursor in
    let f = frame_view c.args.frame.now in
    let row = frame_view l.frame in
    let label = kept_label c.judge_in_row.new.label in
    let o = c.in_ok-stamp in
    row-ended f row s0 s m (kids_view l.kids) l.invariant label c.in-End.length (judged-as row label s m o.field-0 _ c.in-End.is o.ensures) u refl c.requires.1.1.1.1.1.1.0 c.in_ok-judge_end-in-End.ensures
