use Rattle.std.proofs.Common.{ℕ, None, Option, Some, Ok, Err, refl, subst}
use Rattle.archive_tree.specs.View.{stamp_view}
use Rattle.record_copy.specs.Faults.{fault_of}
use Rattle.record_copy.specs.Parts.{alternative_view}
use Rattle.record_copy.specs.Reads.{AlternativeRead}
use Rattle.record_copy.specs.State.{State, state}
use Rattle.record_copy.specs.declared.fault.CopyFault.TheVariants.{Memory}
use Rattle.record_copy.specs.declared.parts.Alternative.{Alternative}
use Rattle.record_copy.proofs.Passing.{at-err}
use Rattle.record_cursor.specs.View.{PlainCursor}
use Rattle.record_writer.specs.View.{writer_view}
use Rattle.record_writer.specs.declared.writer.Writer.{Writer}
use Rattle.version_set.specs.View.{pairs_of}
use Rattle.archive_join.specs.Leaves.{FirstPut}
use Rattle.archive_join.proofs.Alternating.{Stamps, nearer, put-ended, put-fault, put-memory, put-more, put-open, put-start, put-unread, put-within}
use Rattle.archive_join.proofs.leaf.put_first.Given.{Over}
use Rattle.archive_join.proofs.leaf.put_first.Goals.{In-Some, In_ok-stamp}
use Rattle.archive_join.proofs.leaf.put_first.Goals as goal

abbrev at : (g : Over) → g.row.F.Denot → PlainCursor → Writer → State
at g = (let f = g.F.Folder in state f.files f.draft f.numbers f.faults)

-- the alternative that was read
read : (g : Over) (c : In-Some g) → AlternativeRead 0 (at g c.loop-alternative.folder c.loop-alternative.cursor c.loop-alternative.writer) (at g c.read_alternative.new.folder c.read_alternative.new.cursor c.loop-alternative.writer) (Ok (Some c.in-Some.alternative))
read g c =
    let l = c.loop-alternative in
    let s = at g l.folder l.cursor l.writer in
    let t = at g c.read_alternative.new.folder c.read_alternative.new.cursor l.writer in
    let given = subst (λ (o : Option Alternative). AlternativeRead c.args.raise.now.by s t (Ok o)) c.in-Some.is (c.in_ok-alternative.ensures (writer_view l.writer)) in
    subst (λ (n : ℕ). AlternativeRead n s t (Ok (Some c.in-Some.alternative))) c.requires.first given

-- the timestamp that it gets
stamps : (g : Over) (c : In_ok-stamp g) → Stamps (pairs_of c.args.own.now.one) (pairs_of c.args.own.now.two) c.loop-alternative.held c.stamp_with.new.self (alternative_view c.in-Some.alternative) (stamp_view c.in_ok-stamp.stamp)
stamps g c = (let e = c.in_ok-stamp.ensures in record { stamp = e.stamp; takes = e.taken; short = e.short })

pub loop-alternative-init : goal.loop-alternative-init
loop-alternative-init g c =
    put-start (pairs_of c.args.own.now.one) (pairs_of c.args.own.now.two) c.args.held.now (at g c.args.folder.now c.args.cursor.now c.args.writer.now) (g.met.F.Folder.metered c.args.folder.now) c.requires.within c.requires.leaf

pub read_alternative-requires : goal.read_alternative-requires
read_alternative-requires g c =
    let l = c.loop-alternative in
    record { within = put-within (pairs_of c.args.own.now.one) (pairs_of c.args.own.now.two) c.args.held.now l.held (at g c.args.folder.now c.args.cursor.now c.args.writer.now) (at g l.folder l.cursor l.writer) l.invariant }

pub put_alternative-requires : goal.put_alternative-requires
put_alternative-requires g c =
    let l = c.loop-alternative in
    record { leaf = put-open (pairs_of c.args.own.now.one) (pairs_of c.args.own.now.two) c.args.held.now l.held (at g c.args.folder.now c.args.cursor.now c.args.writer.now) (at g l.folder l.cursor l.writer) l.invariant }

pub returns-in_err-alternative : goal.returns-in_err-alternative
returns-in_err-alternative g c =
    let l = c.loop-alternative in
    let p = pairs_of c.args.own.now.one in
    let q = pairs_of c.args.own.now.two in
    let e = c.in_err-alternative in
    let r = at g c.args.folder.now c.args.cursor.now c.args.writer.now in
    let s = at g l.folder l.cursor l.writer in
    let t = at g c.read_alternative.new.folder c.read_alternative.new.cursor l.writer in
    let unread = subst (λ (n : ℕ). AlternativeRead n s t (Err e.field-0.0)) c.requires.first (e.ensures (writer_view l.writer)) in
    at-err c.from_residual.result e.field-0.0 c.from_residual.ensures.1 (λ z. FirstPut p q c.args.held.now l.held r t (fault_of z))
    (put-unread p q c.args.held.now l.held r s t l.invariant refl l.held e.field-0.0 unread)

pub returns-in_err-stamp : goal.returns-in_err-stamp
returns-in_err-stamp g c =
    let l = c.loop-alternative in
    let p = pairs_of c.args.own.now.one in
    let q = pairs_of c.args.own.now.two in
    let r = at g c.args.folder.now c.args.cursor.now c.args.writer.now in
    let s = at g l.folder l.cursor l.writer in
    let t = at g c.read_alternative.new.folder c.read_alternative.new.cursor l.writer in
    let f = c.from_residual-in_err-stamp in
    at-err f.result Memory f.ensures.1 (λ z. FirstPut p q c.args.held.now c.stamp_with.new.self r t (fault_of z))
    (put-memory p q c.args.held.now l.held r s t l.invariant refl c.in-Some.alternative (read g (goal.at.returns-in_err-stamp g c).In-Some) c.stamp_with.new.self (g.met.F.Folder.metered c.read_alternative.new.folder))

pub returns-in_err-put_alternative : goal.returns-in_err-put_alternative
returns-in_err-put_alternative g c =
    let l = c.loop-alternative in
    let p = pairs_of c.args.own.now.one in
    let q = pairs_of c.args.own.now.two in
    let e = c.in_err-put_alternative in
    let k : PlainCursor = c.read_alternative.new.cursor in
    let r = at g c.args.folder.now c.args.cursor.now c.args.writer.now in
    let s = at g l.folder l.cursor l.writer in
    let t = at g c.read_alternative.new.folder k l.writer in
    let u = at g c.put_alternative.new.folder k c.put_alternative.new.writer in
    let came = read g (goal.at.returns-in_err-put_alternative g c).In-Some in
    let passes = came.passes in
    let f = c.from_residual-in_err-put_alternative in
    at-err f.result e.field-0.0 f.ensures.1 (λ z. FirstPut p q c.args.held.now c.stamp_with.new.self r u (fault_of z))
    (put-fault p q c.args.held.now l.held r s t l.invariant refl c.in-Some.alternative came u c.stamp_with.new.self (stamp_view c.in_ok-stamp.stamp) (stamps g (goal.at.returns-in_err-put_alternative g c).In_ok-stamp) e.field-0.0
    (e.ensures k passes.within))

pub loop-alternative-smaller : goal.loop-alternative-smaller
loop-alternative-smaller g c =
    let l = c.loop-alternative in
    let s = at g l.folder l.cursor l.writer in
    nearer 0 s (at g c.read_alternative.new.folder c.read_alternative.new.cursor l.writer) (Some c.in-Some.alternative)
    (put-within (pairs_of c.args.own.now.one) (pairs_of c.args.own.now.two) c.args.held.now l.held (at g c.args.folder.now c.args.cursor.now c.args.writer.now) s l.invariant) (read g (goal.at.loop-alternative-smaller g c).In-Some)

pub loop-alternative-preserved : goal.loop-alternative-preserved
loop-alternative-preserved g c =
    let l = c.loop-alternative in
    let p = pairs_of c.args.own.now.one in
    let q = pairs_of c.args.own.now.two in
    let k : PlainCursor = c.read_alternative.new.cursor in
    let r = at g c.args.folder.now c.args.cursor.now c.args.writer.now in
    let s = at g l.folder l.cursor l.writer in
    let t = at g c.read_alternative.new.folder k l.writer in
    let u = at g c.put_alternative.new.folder k c.put_alternative.new.writer in
    let came = read g (goal.at.loop-alternative-preserved g c).In-Some in
    let passes = came.passes in
    put-more p q c.args.held.now l.held r s t l.invariant refl c.in-Some.alternative came u c.stamp_with.new.self (stamp_view c.in_ok-stamp.stamp) (stamps g (goal.at.loop-alternative-preserved g c).In_ok-stamp) (c.in_ok-put_alternative.ensures k passes.within)

pub returns : goal.returns
returns g c =
    let l = c.loop-alternative in
    let s = at g l.folder l.cursor l.writer in
    let t = at g c.read_alternative.new.folder c.read_alternative.new.cursor l.writer in
    let given = subst (λ (o : Option Alternative). AlternativeRead c.args.raise.now.by s t (Ok o)) c.in_default.is (c.in_ok-alternative.ensures (writer_view l.writer)) in
    put-ended (pairs_of c.args.own.now.one) (pairs_of c.args.own.now.two) c.args.held.now l.held (at g c.args.folder.now c.args.cursor.now c.args.writer.now) s t l.invariant refl
    (subst (λ (n : ℕ). AlternativeRead n s t (Ok None)) c.requires.first given)
