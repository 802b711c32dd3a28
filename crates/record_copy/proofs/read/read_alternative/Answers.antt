use Rattle.std.proofs.Common.{◌≡◌, Some, refl, ap, ◌∙◌}
use Rattle.record_cursor.specs.View.{PlainCursor, shown_item}
use Rattle.archive_tree.specs.View.{stamp_view}
use Rattle.xa_fields.specs.Reading.{whole}
use Rattle.xa_fields.proofs.Combinators.{whole_again}
use Rattle.record_parts.specs.Bounds.{IsValue}
use Rattle.record_parts.specs.Reading.{value_at}
use Rattle.record_parts.specs.ShownViews.{shown_body, shown_stamp, value_in}
use Rattle.record_parts.specs.Spelling.{value_bytes}
use Rattle.record_writer.specs.Data.{PlainWriter}
use Rattle.record_copy.specs.Faults.{of_cursor}
use Rattle.record_copy.specs.Raised.{raised_stamp}
use Rattle.record_copy.specs.Reads.{AlternativeRead}
use Rattle.record_copy.specs.declared.fault.CopyFault.TheVariants.{Memory}
use Rattle.record_copy.specs.State.{State, beside}
use Rattle.record_copy.proofs.Passing.{Nexts, nexts, stays-by, at-err}
use Rattle.record_copy.proofs.Reading.{Alternate, alternative-failed, alternative-ended, alternative-damage, alternative-memory, alternative-read}
use Rattle.record_copy.proofs.read.read_alternative.Given.{Over}
use Rattle.record_copy.proofs.read.read_alternative.Goals.{In_ok-body, In_ok-stamp}
use Rattle.record_copy.proofs.read.read_alternative.Goals as goal

abbrev at : (g : Over) → g.row.F.Denot → PlainCursor → PlainWriter → State
at g = (let f = g.F.Folder in beside f.files f.draft f.numbers f.faults)

-- the item that was given
read : (g : Over) (c : In_ok-stamp g) (w : PlainWriter) → Nexts (at g c.args.folder.now c.args.cursor.now w) (at g c.next.new.folder c.next.follows.lender-at-none w) c.in_ok-stamp.field-0
read g c w =
    let i = c.in_ok-stamp in
    nexts (at g c.args.folder.now c.args.cursor.now w) (at g c.next.new.folder c.next.follows.lender-at-none w) c.next.result i.field-0 (g.met.F.Folder.metered c.next.new.folder) i.was i.ensures.files i.ensures.draft refl i.ensures.numbers i.ensures.later
    c.next.follows.holds-at-none

pub returns-in_err-stamp : goal.returns-in_err-stamp
returns-in_err-stamp g c w =
    let n = c.args.raise.now.by in
    let e = c.in_err-stamp in
    let s = at g c.args.folder.now c.args.cursor.now w in
    let t = at g c.next.new.folder c.next.follows.lender-at-none w in
    let stays = stays-by s t c.next.result e.field-0.0 e.was e.ensures.files e.ensures.draft e.ensures.pulls e.ensures.later e.ensures.cause e.ensures.undamaged c.next.follows.holds-at-none in
    at-err c.from_residual.result (of_cursor e.field-0.0) c.from_residual.ensures.1 (λ r. AlternativeRead n s t r) (alternative-failed n s t e.field-0.0 c.requires.within stays)

pub returns-in-LeafEnd : goal.returns-in-LeafEnd
returns-in-LeafEnd g c w =
    let s = at g c.args.folder.now c.args.cursor.now w in
    let t = at g c.next.new.folder c.next.follows.lender-at-none w in
    alternative-ended c.args.raise.now.by s t c.in_ok-stamp.field-0 (ap shown_item c.in-LeafEnd.is) (read g (goal.at.returns-in-LeafEnd g c).In_ok-stamp w)

pub returns-in_default : goal.returns-in_default
returns-in_default g c w =
    let d = c.in_default in
    let s = at g c.args.folder.now c.args.cursor.now w in
    let t = at g c.next.new.folder c.next.follows.lender-at-none w in
    alternative-damage c.args.raise.now.by s t c.in_ok-stamp.field-0 d.not-Alt d.not-LeafEnd (read g (goal.at.returns-in_default g c).In_ok-stamp w)

-- the copied bytes are those of the body
body-read : (g : Over) (c : In_ok-body g) → whole value_at c.in_ok-body.body.items ≡ Some (shown_body c.in-Alt.body)
body-read g c = (let b = c.bytes.ensures in ap (whole value_at) (c.in_ok-body.ensures.items ∙ b.spelled) ∙ whole_again value_at value_bytes IsValue c.parts_are_read_as_spelled.ensures.values (shown_body c.in-Alt.body) b.is)

pub invariant_of-result : goal.invariant_of-result
invariant_of-result g c = (let e = body-read g (goal.at.invariant_of-result g c).In_ok-body in record { valid = rw e refl })

pub returns-in_err-stamp-2 : goal.returns-in_err-stamp-2
returns-in_err-stamp-2 g c w =
    let n = c.args.raise.now.by in
    let a = c.in-Alt in
    let s = at g c.args.folder.now c.args.cursor.now w in
    let t = at g c.next.new.folder c.next.follows.lender-at-none w in
    let o : Alternate s t = record { item = c.in_ok-stamp.field-0; stamp = shown_stamp a.stamp; body = shown_body a.body; shown = ap shown_item a.is; read = read g (goal.at.returns-in_err-stamp-2 g c).In_ok-stamp w } in
    let r = c.from_residual-in_err-stamp-2 in
    at-err r.result Memory r.ensures.1 (λ d. AlternativeRead n s t d) (alternative-memory n s t o)

pub returns-in_err-body : goal.returns-in_err-body
returns-in_err-body g c w =
    let n = c.args.raise.now.by in
    let a = c.in-Alt in
    let s = at g c.args.folder.now c.args.cursor.now w in
    let t = at g c.next.new.folder c.next.follows.lender-at-none w in
    let o : Alternate s t = record { item = c.in_ok-stamp.field-0; stamp = shown_stamp a.stamp; body = shown_body a.body; shown = ap shown_item a.is; read = read g (goal.at.returns-in_err-body g c).In_ok-stamp w } in
    let r = c.from_residual-in_err-body in
    at-err r.result Memory r.ensures.1 (λ d. AlternativeRead n s t d) (alternative-memory n s t o)

pub returns : goal.returns
returns g c w =
    let n = c.args.raise.now.by in
    let a = c.in-Alt in
    let s = at g c.args.folder.now c.args.cursor.now w in
    let t = at g c.next.new.folder c.next.follows.lender-at-none w in
    let o : Alternate s t = record { item = c.in_ok-stamp.field-0; stamp = shown_stamp a.stamp; body = shown_body a.body; shown = ap shown_item a.is; read = read g (goal.at.returns g c).In_ok-stamp w } in
    let bodies : value_in (whole value_at c.in_ok-body.body.items) ≡ shown_body a.body = ap value_in (body-read g (goal.at.returns g c).In_ok-body) in
    let stamps : stamp_view c.in_ok-stamp-2.stamp ≡ raised_stamp n (shown_stamp a.stamp) = c.in_ok-stamp-2.ensures in
    alternative-read n s t o _ (λ i. record { stamp = stamps i; body = bodies i }) c.bytes.ensures.fits
