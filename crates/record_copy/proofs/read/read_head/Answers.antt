use Rattle.std.proofs.Common.{◌≡◌, Some, refl, sym, ap, ◌∙◌}
use Rattle.record_cursor.specs.View.{PlainCursor, shown_item}
use Rattle.archive_tree.specs.View.{stamp_view}
use Rattle.xa_fields.specs.Reading.{whole}
use Rattle.xa_fields.proofs.Combinators.{whole_again}
use Rattle.record_parts.specs.Bounds.{IsLabel}
use Rattle.record_parts.specs.Reading.{label_at}
use Rattle.record_parts.specs.ShownViews.{label_in, shown_label, shown_stamp}
use Rattle.record_parts.specs.Spelling.{label_bytes}
use Rattle.record_writer.specs.Data.{PlainWriter}
use Rattle.record_copy.specs.Faults.{of_cursor}
use Rattle.record_copy.specs.Parts.{opening_of}
use Rattle.record_copy.specs.Raised.{raised_stamp}
use Rattle.record_copy.specs.Reads.{HeadRead}
use Rattle.record_copy.specs.declared.fault.CopyFault.TheVariants.{Memory}
use Rattle.record_copy.specs.State.{State, beside}
use Rattle.record_copy.proofs.Passing.{Nexts, nexts, stays-by, at-err}
use Rattle.record_copy.proofs.Reading.{Opener, head-failed, head-ended, head-damage, head-memory, head-read}
use Rattle.record_copy.proofs.read.read_head.Given.{Over}
use Rattle.record_copy.proofs.read.read_head.Goals.{In_ok-label, In_ok-label-2, Joined-branch-2, in-Inner, in-Leaf}
use Rattle.record_copy.proofs.read.read_head.Goals as goal

abbrev at : (g : Over) → g.row.F.Denot → PlainCursor → PlainWriter → State
at g = (let f = g.F.Folder in beside f.files f.draft f.numbers f.faults)

-- the item that was given
read : (g : Over) (c : In_ok-label g) (w : PlainWriter) → Nexts (at g c.args.folder.now c.args.cursor.now w) (at g c.next.new.folder c.next.follows.lender-at-none w) c.in_ok-label.field-0
read g c w =
    let i = c.in_ok-label in
    nexts (at g c.args.folder.now c.args.cursor.now w) (at g c.next.new.folder c.next.follows.lender-at-none w) c.next.result i.field-0 (g.met.F.Folder.metered c.next.new.folder) i.was i.ensures.files i.ensures.draft refl i.ensures.numbers i.ensures.later
    c.next.follows.holds-at-none

pub returns-in_err-label : goal.returns-in_err-label
returns-in_err-label g c w =
    let n = c.args.raise.now.by in
    let e = c.in_err-label in
    let s = at g c.args.folder.now c.args.cursor.now w in
    let t = at g c.next.new.folder c.next.follows.lender-at-none w in
    let stays = stays-by s t c.next.result e.field-0.0 e.was e.ensures.files e.ensures.draft e.ensures.pulls e.ensures.later e.ensures.cause e.ensures.undamaged c.next.follows.holds-at-none in
    at-err c.from_residual.result (of_cursor e.field-0.0) c.from_residual.ensures.1 (λ r. HeadRead n s t r) (head-failed n s t e.field-0.0 c.requires.within stays)

pub returns-in-End : goal.returns-in-End
returns-in-End g c w =
    let s = at g c.args.folder.now c.args.cursor.now w in
    let t = at g c.next.new.folder c.next.follows.lender-at-none w in
    head-ended c.args.raise.now.by s t c.in_ok-label.field-0 _ (ap shown_item c.in-End.is) (read g (goal.at.returns-in-End g c).In_ok-label w)

pub returns-in_default : goal.returns-in_default
returns-in_default g c w =
    let d = c.in_default in
    let s = at g c.args.folder.now c.args.cursor.now w in
    let t = at g c.next.new.folder c.next.follows.lender-at-none w in
    head-damage c.args.raise.now.by s t c.in_ok-label.field-0 d.not-Inner d.not-Leaf d.not-End (read g (goal.at.returns-in_default g c).In_ok-label w)

-- it opens a node
opens : (g : Over) (c : Joined-branch-2 g) → shown_item c.in_ok-label.field-0 ≡ opening_of c.match-branch-2.kind.0 (shown_label c.match-branch-2.kind.1) (shown_stamp c.match-branch-2.kind.2)
opens g c =
    elim c.match-branch-2.branch [
      | in-Inner w ↦ ap shown_item w.in-Inner.is ∙ sym (ap (λ k. opening_of k.0 (shown_label k.1) (shown_stamp k.2)) w.kind-is)
      | in-Leaf w ↦ ap shown_item w.in-Leaf.is ∙ sym (ap (λ k. opening_of k.0 (shown_label k.1) (shown_stamp k.2)) w.kind-is)
    ]

abbrev opener : (g : Over) (c : Joined-branch-2 g) (w : PlainWriter) → Nexts (at g c.args.folder.now c.args.cursor.now w) (at g c.next.new.folder c.next.follows.lender-at-none w) c.in_ok-label.field-0
    → Opener c.match-branch-2.kind.0 (at g c.args.folder.now c.args.cursor.now w) (at g c.next.new.folder c.next.follows.lender-at-none w)
opener g c w read = (let k = c.match-branch-2.kind in record { item = c.in_ok-label.field-0; label = shown_label k.1; stamp = shown_stamp k.2; shown = opens g c; read = read })

-- the copied bytes are those of the label
label-read : (g : Over) (c : In_ok-label-2 g) → whole label_at c.in_ok-label-2.label.items ≡ Some (shown_label c.match-branch-2.kind.1)
label-read g c = (let b = c.bytes.ensures in ap (whole label_at) (c.in_ok-label-2.ensures.items ∙ b.spelled) ∙ whole_again label_at label_bytes IsLabel c.parts_are_read_as_spelled.ensures.labels (shown_label c.match-branch-2.kind.1) b.is)

pub invariant_of-result : goal.invariant_of-result
invariant_of-result g c = (let e = label-read g (goal.at.invariant_of-result g c).In_ok-label-2 in record { valid = rw e refl })

pub returns-in_err-stamp : goal.returns-in_err-stamp
returns-in_err-stamp g c w =
    let z = goal.at.returns-in_err-stamp g c in
    let n = c.args.raise.now.by in
    let s = at g c.args.folder.now c.args.cursor.now w in
    let t = at g c.next.new.folder c.next.follows.lender-at-none w in
    let r = c.from_residual-in_err-stamp in
    at-err r.result Memory r.ensures.1 (λ d. HeadRead n s t d) (head-memory n s t c.match-branch-2.kind.0 (opener g z.Joined-branch-2 w (read g z.In_ok-label w)))

pub returns-in_err-label-2 : goal.returns-in_err-label-2
returns-in_err-label-2 g c w =
    let z = goal.at.returns-in_err-label-2 g c in
    let n = c.args.raise.now.by in
    let s = at g c.args.folder.now c.args.cursor.now w in
    let t = at g c.next.new.folder c.next.follows.lender-at-none w in
    let r = c.from_residual-in_err-label-2 in
    at-err r.result Memory r.ensures.1 (λ d. HeadRead n s t d) (head-memory n s t c.match-branch-2.kind.0 (opener g z.Joined-branch-2 w (read g z.In_ok-label w)))

pub returns : goal.returns
returns g c w =
    let z = goal.at.returns g c in
    let n = c.args.raise.now.by in
    let k = c.match-branch-2.kind in
    let s = at g c.args.folder.now c.args.cursor.now w in
    let t = at g c.next.new.folder c.next.follows.lender-at-none w in
    let labels : label_in (whole label_at c.in_ok-label-2.label.items) ≡ shown_label k.1 = ap label_in (label-read g z.In_ok-label-2) in
    let stamps : stamp_view c.in_ok-stamp.stamp ≡ raised_stamp n (shown_stamp k.2) = c.in_ok-stamp.ensures in
    head-read n s t k.0 (opener g z.Joined-branch-2 w (read g z.In_ok-label w)) _ (λ i. record { kind = k.0; label = labels i; stamp = stamps i }) c.bytes.ensures.fits
