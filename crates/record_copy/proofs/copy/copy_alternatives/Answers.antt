use Rattle.std.proofs.Common.{◌≡◌, ◌≢◌, ℕ, Option, Some, None, Ok, refl, subst}
use Rattle.record_writer.specs.Data.{call_end_leaf}
use Rattle.record_writer.specs.View.{writer_view}
use Rattle.record_cursor.specs.View.{PlainCursor}
use Rattle.record_writer.specs.declared.writer.Writer.{Writer}
use Rattle.record_copy.specs.Copied.{AlternativesCopied}
use Rattle.record_copy.specs.Faults.{fault_of}
use Rattle.record_copy.specs.Reads.{AlternativeRead}
use Rattle.record_copy.specs.State.{State, state}
use Rattle.record_copy.specs.declared.parts.Alternative.{Alternative}
use Rattle.record_copy.specs.declared.fault.CopyFault.{CopyFault}
use Rattle.record_copy.proofs.Alternating.{alternatives-stopped, alternatives-fault, alternatives-ended, alternatives-on, less-left}
use Rattle.record_copy.proofs.Passing.{at-err}
use Rattle.record_copy.proofs.Running.{written, called, call-sends}
use Rattle.record_copy.proofs.copy.copy_alternatives.Given.{Over}
use Rattle.record_copy.proofs.copy.copy_alternatives.Goals as goal

abbrev at : (g : Over) → g.row.F.Denot → PlainCursor → Writer → State
at g = (let f = g.F.Folder in state f.files f.draft f.numbers f.faults)

-- what was read is this one
one : (s t : State) (o : Option Alternative) (a : Alternative) (n : ℕ) → o ≡ Some a → AlternativeRead n s t (Ok o) → AlternativeRead n s t (Ok (Some a))
one s t o a n is h = subst (λ (z : Option Alternative). AlternativeRead n s t (Ok z)) is h

no-more : (o : Option Alternative) → ((a : Alternative) → o ≢ Some a) → o ≡ None
no-more None h = refl
no-more (Some a) h = absurd (h a refl)

pub returns-in_err-alternative : goal.returns-in_err-alternative
returns-in_err-alternative g c =
    let n = c.args.raise.now.by in
    let l = c.loop-alternative in
    let e = c.in_err-alternative in
    let r = at g c.args.folder.now c.args.cursor.now c.args.writer.now in
    let s = at g l.folder l.cursor l.writer in
    let t = at g c.read_alternative.new.folder c.read_alternative.new.cursor l.writer in
    at-err c.from_residual.result e.field-0.0 c.from_residual.ensures.1 (λ z. AlternativesCopied n r t (fault_of z))
    (l.invariant.rest t (Some e.field-0.0) (alternatives-stopped n s t refl e.field-0.0 (e.ensures (writer_view l.writer))))

pub returns-in_err-put_alternative : goal.returns-in_err-put_alternative
returns-in_err-put_alternative g c =
    let n = c.args.raise.now.by in
    let l = c.loop-alternative in
    let k = c.read_alternative.new.cursor in
    let o = c.in_ok-alternative in
    let a = c.in-Some.alternative in
    let e = c.in_err-put_alternative in
    let r = at g c.args.folder.now c.args.cursor.now c.args.writer.now in
    let s = at g l.folder l.cursor l.writer in
    let t = at g c.read_alternative.new.folder k l.writer in
    let u = at g c.put_alternative.new.folder k c.put_alternative.new.writer in
    let read = one s t o.field-0 a n c.in-Some.is (o.ensures (writer_view l.writer)) in
    let passes = read.passes in
    at-err c.from_residual-in_err-put_alternative.result e.field-0.0 c.from_residual-in_err-put_alternative.ensures.1 (λ z. AlternativesCopied n r u (fault_of z))
    (l.invariant.rest u (Some e.field-0.0) (alternatives-fault n s t refl u a e.field-0.0 read (e.ensures k passes.within)))

pub loop-alternative-smaller : goal.loop-alternative-smaller
loop-alternative-smaller g c =
    let n = c.args.raise.now.by in
    let l = c.loop-alternative in
    let o = c.in_ok-alternative in
    let s = at g l.folder l.cursor l.writer in
    let t = at g c.read_alternative.new.folder c.read_alternative.new.cursor l.writer in
    less-left n s t c.in-Some.alternative (one s t o.field-0 c.in-Some.alternative n c.in-Some.is (o.ensures (writer_view l.writer)))

pub loop-alternative-preserved : goal.loop-alternative-preserved
loop-alternative-preserved g c =
    let n = c.args.raise.now.by in
    let l = c.loop-alternative in
    let k = c.read_alternative.new.cursor in
    let o = c.in_ok-alternative in
    let a = c.in-Some.alternative in
    let r = at g c.args.folder.now c.args.cursor.now c.args.writer.now in
    let s = at g l.folder l.cursor l.writer in
    let t = at g c.read_alternative.new.folder k l.writer in
    let u = at g c.put_alternative.new.folder k c.put_alternative.new.writer in
    let read = one s t o.field-0 a n c.in-Some.is (o.ensures (writer_view l.writer)) in
    let passes = read.passes in
    alternatives-on n r s t u a refl l.invariant read (c.in_ok-put_alternative.ensures k passes.within)

pub returns : goal.returns
returns g c =
    let f = g.F.Folder in
    let n = c.args.raise.now.by in
    let l = c.loop-alternative in
    let k = c.read_alternative.new.cursor in
    let o = c.in_ok-alternative in
    let r = at g c.args.folder.now c.args.cursor.now c.args.writer.now in
    let s = at g l.folder l.cursor l.writer in
    let t = at g c.read_alternative.new.folder k l.writer in
    let u = at g c.end_leaf.new.folder k c.end_leaf.new.self in
    let read : AlternativeRead n s t (Ok None) = subst (λ (z : Option Alternative). AlternativeRead n s t (Ok z)) (no-more o.field-0 c.in_default.not-Some) (o.ensures (writer_view l.writer)) in
    let passes = read.passes in
    let e = c.end_leaf.ensures in
    let sent = call-sends f.files f.draft f.numbers f.faults c.read_alternative.new.folder c.end_leaf.new.folder k l.writer c.end_leaf.new.self call_end_leaf c.end_leaf.result (g.met.F.Folder.metered c.read_alternative.new.folder) passes.within e.folder e.after e.too_long in
    subst (λ (z : Option CopyFault). AlternativesCopied n r u z) (called c.end_leaf.result c.written.result c.written.ensures)
    (l.invariant.rest u (written c.end_leaf.result) (alternatives-ended n s t refl u (written c.end_leaf.result) read sent))
