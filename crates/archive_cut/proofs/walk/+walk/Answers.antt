use Rattle.std.proofs.Common.{◌≡◌, ℕ, ◌<◌, ◌*◌, ◌+◌, ◌-◌, Option, Some, None, Result, Ok, Err, Bool, refl, sym, ap, subst, ◌∙◌, arith}
use Rattle.std.specs.Option.{option_map}
use Rattle.std.specs.Result.{result_map_both}
use Rattle.record_cursor.specs.declared.fault.CursorFault.{CursorFault}
use Rattle.record_copy.specs.Faults.{fault_of, of_cursor}
use Rattle.record_copy.specs.Parts.{opening_of}
use Rattle.record_copy.specs.State.{State, state}
use Rattle.record_copy.specs.declared.fault.CopyFault.{CopyFault}
use Rattle.record_copy.specs.declared.fault.CopyFault.TheVariants.{Memory}
use Rattle.record_copy.proofs.Passing.{Nexts, nexts, stays-by, at-err}
use Rattle.record_copy.proofs.Reading.{Opener}
use Rattle.record_copy.proofs.Running.{written, called, call-sends}
use Rattle.archive_cut.specs.Skipped.{ended_by}
use Rattle.archive_cut.specs.Walked.{RowCut, InsideCut, OpenedCut, Gone, ChildCut}
use Rattle.archive_cut.proofs.Walking.{canonical-own, smaller, child-failed, child-ended, child-damage, child-memory, child-open_fault, child-opened, opened-stands, opened-left, row-start, row-on, row-done, row-fault, inside-fault, inside-close}
use Rattle.archive_cut.proofs.walk.+walk.Given.{Over}
use Rattle.archive_cut.proofs.walk.+walk.Goals.{cut_child-In_ok-label, cut_child-Joined-branch-2, cut_child-in-Inner, cut_child-in-Leaf}
use Rattle.archive_cut.proofs.walk.+walk.Goals as goal
use Rattle.archive_tree.specs.View.{stamp_view}
use Rattle.version_set.specs.View.{pairs_of}
use Rattle.record_cursor.specs.View.{PlainCursor, shown_item}
use Rattle.record_parts.specs.ShownViews.{shown_label, shown_stamp}
use Rattle.record_writer.specs.Data.{call_end_inner}
use Rattle.record_writer.specs.View.{writer_view}
use Rattle.record_writer.specs.declared.writer.Writer.{Writer}

abbrev at : (g : Over) → g.row.F.Denot → PlainCursor → Writer → State
at g = (let f = g.F.Folder in state f.files f.draft f.numbers f.faults)

-- ---- a node

-- the item that was given
read : (g : Over) (t : ℕ) (c : cut_child-In_ok-label g t) → Nexts (at g c.args.folder.now c.args.cursor.now c.args.writer.now) (at g c.next.new.folder c.next.follows.lender-at-none c.args.writer.now) c.in_ok-label.field-0
read g t c =
    let i = c.in_ok-label in
    nexts (at g c.args.folder.now c.args.cursor.now c.args.writer.now) (at g c.next.new.folder c.next.follows.lender-at-none c.args.writer.now) c.next.result i.field-0 (g.met.F.Folder.metered c.next.new.folder) i.was i.ensures.files i.ensures.draft refl i.ensures.numbers
    i.ensures.later c.next.follows.holds-at-none

pub cut_child-returns-in_err-label : goal.cut_child-returns-in_err-label
cut_child-returns-in_err-label g t c =
    let w = c.args.window.now in
    let q = pairs_of c.args.before.now in
    let e = c.in_err-label in
    let s = at g c.args.folder.now c.args.cursor.now c.args.writer.now in
    let p = at g c.next.new.folder c.next.follows.lender-at-none c.args.writer.now in
    let stays = stays-by s p c.next.result e.field-0.0 e.was e.ensures.files e.ensures.draft e.ensures.pulls e.ensures.later e.ensures.cause e.ensures.undamaged c.next.follows.holds-at-none in
    at-err c.from_residual.result (of_cursor e.field-0.0) c.from_residual.ensures.1 (λ r. ChildCut w.first w.last q s p r) (child-failed w.first w.last q s p e.field-0.0 c.requires.within refl stays)

pub cut_child-returns-in-End : goal.cut_child-returns-in-End
cut_child-returns-in-End g t c =
    let w = c.args.window.now in
    let s = at g c.args.folder.now c.args.cursor.now c.args.writer.now in
    let p = at g c.next.new.folder c.next.follows.lender-at-none c.args.writer.now in
    child-ended w.first w.last (pairs_of c.args.before.now) s p c.in_ok-label.field-0 _ (ap shown_item c.in-End.is) c.requires.no_leaf (read g t (goal.at.cut_child-returns-in-End g t c).In_ok-label)

pub cut_child-returns-in_default : goal.cut_child-returns-in_default
cut_child-returns-in_default g t c =
    let w = c.args.window.now in
    let d = c.in_default in
    let s = at g c.args.folder.now c.args.cursor.now c.args.writer.now in
    let p = at g c.next.new.folder c.next.follows.lender-at-none c.args.writer.now in
    child-damage w.first w.last (pairs_of c.args.before.now) s p c.in_ok-label.field-0 d.not-Inner d.not-Leaf d.not-End (read g t (goal.at.cut_child-returns-in_default g t c).In_ok-label)

-- it opens a node
opens : (g : Over) (t : ℕ) (c : cut_child-Joined-branch-2 g t) → shown_item c.in_ok-label.field-0 ≡ opening_of c.match-branch-2.kind.0 (shown_label c.match-branch-2.kind.1) (shown_stamp c.match-branch-2.kind.2)
opens g t c =
    elim c.match-branch-2.branch [
      | cut_child-in-Inner w ↦ ap shown_item w.in-Inner.is ∙ sym (ap (λ k. opening_of k.0 (shown_label k.1) (shown_stamp k.2)) w.kind-is)
      | cut_child-in-Leaf w ↦ ap shown_item w.in-Leaf.is ∙ sym (ap (λ k. opening_of k.0 (shown_label k.1) (shown_stamp k.2)) w.kind-is)
    ]

abbrev opener : (g : Over) (t : ℕ) (c : cut_child-Joined-branch-2 g t) → Nexts (at g c.args.folder.now c.args.cursor.now c.args.writer.now) (at g c.next.new.folder c.next.follows.lender-at-none c.args.writer.now) c.in_ok-label.field-0
    → Opener c.match-branch-2.kind.0 (at g c.args.folder.now c.args.cursor.now c.args.writer.now) (at g c.next.new.folder c.next.follows.lender-at-none c.args.writer.now)
opener g t c read = (let k = c.match-branch-2.kind in record { item = c.in_ok-label.field-0; label = shown_label k.1; stamp = shown_stamp k.2; shown = opens g t c; read = read })

pub cut_child-returns-in_err-old : goal.cut_child-returns-in_err-old
cut_child-returns-in_err-old g t c =
    let z = goal.at.cut_child-returns-in_err-old g t c in
    let w = c.args.window.now in
    let q = pairs_of c.args.before.now in
    let s = at g c.args.folder.now c.args.cursor.now c.args.writer.now in
    let p = at g c.next.new.folder c.next.follows.lender-at-none c.args.writer.now in
    let o = opener g t z.Joined-branch-2 (read g t z.In_ok-label) in
    let r = c.from_residual-in_err-old in
    at-err r.result Memory r.ensures.1 (λ d. ChildCut w.first w.last q s p d) (child-memory w.first w.last q c.match-branch-2.kind.0 s p p o)

-- the opener with the stamp that was copied
abbrev stored : {kind : _} {s p : State} → (o : Opener kind s p) (st : _) → st ≡ o.stamp → Opener kind s p
stored {kind = kind} o st is = record { item = o.item; label = o.label; stamp = st; shown = o.shown ∙ ap (opening_of kind o.label) (sym is); read = o.read }

pub cut_child-returns-in_err-new : goal.cut_child-returns-in_err-new
cut_child-returns-in_err-new g t c =
    let z = goal.at.cut_child-returns-in_err-new g t c in
    let w = c.args.window.now in
    let before = c.args.before.now in
    let q = pairs_of before in
    let k : PlainCursor = c.next.follows.lender-at-none in
    let s = at g c.args.folder.now c.args.cursor.now c.args.writer.now in
    let p = at g c.next.new.folder k c.args.writer.now in
    let u = at g c.open_node.new.folder k c.open_node.new.writer in
    let gave = read g t z.In_ok-label in
    let goes = gave.goes in
    let old = c.in_ok-old in
    let o = stored (opener g t z.Joined-branch-2 gave) (stamp_view old.old) old.ensures in
    let e = c.in_err-new in
    let r = c.from_residual-in_err-new in
    at-err r.result e.field-0.0 r.ensures.1 (λ d. ChildCut w.first w.last q s u d)
    (child-open_fault w.first w.last q c.match-branch-2.kind.0 s p u o before.canonical (canonical-own old.old before) c.bytes-spelled.ensures.fits (pairs_of c.args.now.now) c.requires.left e.field-0.0 (e.ensures.sends k goes.within))

pub cut_child-cut_opened-requires : goal.cut_child-cut_opened-requires
cut_child-cut_opened-requires g t c κs within =
    let z = goal.at.cut_child-cut_opened-requires g t c in
    let w = c.args.window.now in
    let before = c.args.before.now in
    let q = pairs_of before in
    let now = pairs_of c.args.now.now in
    let k : PlainCursor = c.next.follows.lender-at-none in
    let s = at g c.args.folder.now c.args.cursor.now c.args.writer.now in
    let p = at g c.next.new.folder k c.args.writer.now in
    let u = at g c.open_node.new.folder k c.open_node.new.writer in
    let kind = c.match-branch-2.kind.0 in
    let gave = read g t z.In_ok-label in
    let goes = gave.goes in
    let old = c.in_ok-old in
    let new = c.in_ok-new in
    let o = stored (opener g t z.Joined-branch-2 gave) (stamp_view old.old) old.ensures in
    let own = canonical-own old.old before in
    let small = smaller kind s p o in
    let less : 4 * (k.length - k.at) + 4 < t = omega (arith, small, c.decreases) in
    let stands = opened-stands w.first w.last q kind s p u o before.canonical own c.bytes-spelled.ensures.fits now c.requires.left (option_map stamp_view new.new) (sym new.ensures.stamp) (new.ensures.sends k goes.within) c.requires.no_leaf in
    let left = opened-left w.first w.last q kind s p u o before.canonical own c.bytes-spelled.ensures.fits now c.requires.left (option_map stamp_view new.new) (sym new.ensures.stamp) in
    (less, (within, (goes.within, (stands, left))))

pub cut_child-returns-in_err-cut_opened : goal.cut_child-returns-in_err-cut_opened
cut_child-returns-in_err-cut_opened g t c =
    let z = goal.at.cut_child-returns-in_err-cut_opened g t c in
    let w = c.args.window.now in
    let before = c.args.before.now in
    let q = pairs_of before in
    let now = pairs_of c.args.now.now in
    let k : PlainCursor = c.next.follows.lender-at-none in
    let s = at g c.args.folder.now c.args.cursor.now c.args.writer.now in
    let p = at g c.next.new.folder k c.args.writer.now in
    let u = at g c.open_node.new.folder k c.open_node.new.writer in
    let v = at g c.cut_opened.new.folder c.cut_opened.new.cursor c.cut_opened.new.writer in
    let kind = c.match-branch-2.kind.0 in
    let gave = read g t z.In_ok-label in
    let goes = gave.goes in
    let old = c.in_ok-old in
    let new = c.in_ok-new in
    let o = stored (opener g t z.Joined-branch-2 gave) (stamp_view old.old) old.ensures in
    let e = c.in_err-cut_opened in
    let r = c.from_residual-in_err-cut_opened in
    at-err r.result e.field-0.0 r.ensures.1 (λ d. ChildCut w.first w.last q s v d)
    (child-opened w.first w.last q kind s p u o before.canonical (canonical-own old.old before) c.bytes-spelled.ensures.fits now c.requires.left (option_map stamp_view new.new) (sym new.ensures.stamp) (new.ensures.sends k goes.within) c.requires.no_leaf v (Some e.field-0.0) e.ensures)

pub cut_child-returns : goal.cut_child-returns
cut_child-returns g t c =
    let z = goal.at.cut_child-returns g t c in
    let w = c.args.window.now in
    let before = c.args.before.now in
    let q = pairs_of before in
    let now = pairs_of c.args.now.now in
    let k : PlainCursor = c.next.follows.lender-at-none in
    let s = at g c.args.folder.now c.args.cursor.now c.args.writer.now in
    let p = at g c.next.new.folder k c.args.writer.now in
    let u = at g c.open_node.new.folder k c.open_node.new.writer in
    let v = at g c.cut_opened.new.folder c.cut_opened.new.cursor c.cut_opened.new.writer in
    let kind = c.match-branch-2.kind.0 in
    let gave = read g t z.In_ok-label in
    let goes = gave.goes in
    let old = c.in_ok-old in
    let new = c.in_ok-new in
    let o = stored (opener g t z.Joined-branch-2 gave) (stamp_view old.old) old.ensures in
    child-opened w.first w.last q kind s p u o before.canonical (canonical-own old.old before) c.bytes-spelled.ensures.fits now c.requires.left (option_map stamp_view new.new) (sym new.ensures.stamp) (new.ensures.sends k goes.within) c.requires.no_leaf v None c.in_ok-cut_opened.ensures

-- ---- the inside of a node

pub cut_inner-returns-in_err-cut_row : goal.cut_inner-returns-in_err-cut_row
cut_inner-returns-in_err-cut_row g t c =
    let w = c.args.window.now in
    let q = pairs_of c.args.before.now in
    let s = at g c.args.folder.now c.args.cursor.now c.args.writer.now in
    let m = at g c.cut_row.new.folder c.cut_row.new.cursor c.cut_row.new.writer in
    let e = c.in_err-cut_row in
    at-err c.from_residual.result e.field-0.0 c.from_residual.ensures.1 (λ r. InsideCut w.first w.last q s m (fault_of r)) (inside-fault w.first w.last q s m e.field-0.0 e.ensures)

pub cut_inner-returns : goal.cut_inner-returns
cut_inner-returns g t c =
    let f = g.F.Folder in
    let w = c.args.window.now in
    let q = pairs_of c.args.before.now in
    let s = at g c.args.folder.now c.args.cursor.now c.args.writer.now in
    let m = at g c.cut_row.new.folder c.cut_row.new.cursor c.cut_row.new.writer in
    let u = at g c.end_inner.new.folder c.cut_row.new.cursor c.end_inner.new.self in
    let row : RowCut w.first w.last q s m None = c.in_ok-cut_row.ensures in
    let run = row.run in
    let passes = run.passes in
    let e = c.end_inner.ensures in
    subst (λ (o : Option CopyFault). InsideCut w.first w.last q s u o) (called c.end_inner.result c.written.result c.written.ensures)
    (inside-close w.first w.last q s m u (written c.end_inner.result) c.requires.begun row
    (call-sends f.files f.draft f.numbers f.faults c.cut_row.new.folder c.end_inner.new.folder c.cut_row.new.cursor c.cut_row.new.writer c.end_inner.new.self call_end_inner c.end_inner.result (g.met.F.Folder.metered c.cut_row.new.folder) passes.within e.folder e.after e.too_long))

-- ---- a row

pub cut_row-loop-init : goal.cut_row-loop-init
cut_row-loop-init g t c = (let w = c.args.window.now in row-start w.first w.last (pairs_of c.args.before.now) (at g c.args.folder.now c.args.cursor.now c.args.writer.now) c.requires.within c.requires.no_leaf)

pub cut_row-returns-in_err-cut_child : goal.cut_row-returns-in_err-cut_child
cut_row-returns-in_err-cut_child g t c =
    let w = c.args.window.now in
    let q = pairs_of c.args.before.now in
    let s = at g c.args.folder.now c.args.cursor.now c.args.writer.now in
    let l = c.loop in
    let u = at g c.cut_child.new.folder c.cut_child.new.cursor c.cut_child.new.writer in
    let e = c.in_err-cut_child in
    at-err c.from_residual.result e.field-0.0 c.from_residual.ensures.1 (λ r. RowCut w.first w.last q s u (fault_of r)) (l.invariant.rest u (Some e.field-0.0) (row-fault w.first w.last q (at g l.folder l.cursor l.writer) u e.field-0.0 e.ensures))

pub cut_row-loop-preserved : goal.cut_row-loop-preserved
cut_row-loop-preserved g t c =
    let w = c.args.window.now in
    let q = pairs_of c.args.before.now in
    let s = at g c.args.folder.now c.args.cursor.now c.args.writer.now in
    let l = c.loop in
    let m = at g l.folder l.cursor l.writer in
    let u = at g c.cut_child.new.folder c.cut_child.new.cursor c.cut_child.new.writer in
    row-on w.first w.last q s m u l.invariant (subst (λ (more : Bool). ChildCut w.first w.last q m u (Ok more)) c.if-branch.true c.in_ok-cut_child.ensures)

pub cut_row-returns : goal.cut_row-returns
cut_row-returns g t c =
    let w = c.args.window.now in
    let q = pairs_of c.args.before.now in
    let l = c.loop in
    let m = at g l.folder l.cursor l.writer in
    let u = at g c.cut_child.new.folder c.cut_child.new.cursor c.cut_child.new.writer in
    l.invariant.rest u None (row-done w.first w.last q m u (subst (λ (more : Bool). ChildCut w.first w.last q m u (Ok more)) c.if-branch.false c.in_ok-cut_child.ensures))

-- ---- what was read

skip-fault : (r : Result (Unit {0}) CursorFault) (z : Result (Unit {0}) CopyFault) → z ≡ result_map_both (λ x. x) of_cursor r → fault_of z ≡ option_map of_cursor (ended_by r)
skip-fault (Ok x) z is = ap (λ (d : Result (Unit {0}) CopyFault). fault_of d) is
skip-fault (Err e) z is = ap (λ (d : Result (Unit {0}) CopyFault). fault_of d) is

pub cut_opened-returns-in-None : goal.cut_opened-returns-in-None
cut_opened-returns-in-None g t c =
    let w = c.args.window.now in
    let q = pairs_of c.args.before.now in
    let s = at g c.args.folder.now c.args.cursor.now c.args.writer.now in
    let v = at g c.skip_begun.new.folder c.skip_begun.new.cursor c.args.writer.now in
    let gone : Gone c.args.kind s v (fault_of c.taken.result) = record { fault = ended_by c.skip_begun.result; is = skip-fault c.skip_begun.result c.taken.result c.taken.ensures; skipped = c.skip_begun.ensures (writer_view c.args.writer.now); same_writer = refl } in
    subst (λ n. OpenedCut c.args.kind w.first w.last q (stamp_view c.args.old.now) (option_map stamp_view n) s v (fault_of c.taken.result)) (sym c.in-None.is) gone
