use Rattle.std.proofs.Common.{List, Option, Some, take, arith, sym, subst}
use Rattle.archive_tree.specs.View.{stamp_view}
use Rattle.version_set.specs.View.{pairs_of}
use Rattle.record_copy.specs.Faults.{fault_of}
use Rattle.record_copy.specs.State.{State, state}
use Rattle.record_copy.specs.declared.fault.CopyFault.{CopyFault}
use Rattle.record_copy.specs.declared.fault.CopyFault.TheVariants.{Memory}
use Rattle.record_copy.specs.declared.parts.Alternative.{Alternative}
use Rattle.record_copy.proofs.Passing.{at-err}
use Rattle.record_copy.proofs.Running.{written, called, call-sends, sent-nothing}
use Rattle.record_cursor.specs.View.{PlainCursor}
use Rattle.record_writer.specs.Data.{call_end_leaf}
use Rattle.record_writer.specs.declared.writer.Writer.{Writer}
use Rattle.archive_join.specs.Leaves.{OthersPut}
use Rattle.archive_join.proofs.Leafing.{AreLeft, nowhere, leaf-stands, left-end, left-fault, left-memory, left-next, others-memory, others-put}
use Rattle.archive_join.proofs.leaf.put_others.Given.{Over}
use Rattle.archive_join.proofs.leaf.put_others.Goals.{After-deref-alternative-items}
use Rattle.archive_join.proofs.leaf.put_others.Goals as goal

abbrev at : (g : Over) → g.row.F.Denot → PlainCursor → Writer → State
at g = (let f = g.F.Folder in state f.files f.draft f.numbers f.faults)

-- those that are gone over are left
left : (g : Over) (c : After-deref-alternative-items g) → AreLeft c.args.held c.deref-alternative-items.result.now
left g c =
    let e = c.in_ok-others.ensures in
    subst (λ (hs : List Alternative). AreLeft c.args.held hs) (sym c.deref-alternative-items.ensures.value) (record { others = e.others; short = e.short })

pub returns-in_err-others : goal.returns-in_err-others
returns-in_err-others g c k within =
    let p = pairs_of c.args.own.now.one in
    let q = pairs_of c.args.own.now.two in
    let s = at g c.args.folder.now k c.args.writer.now in
    at-err c.from_residual.result Memory c.from_residual.ensures.1 (λ z. OthersPut p q c.args.held s s (fault_of z)) (others-memory p q c.args.held s (g.met.F.Folder.metered c.args.folder.now) within)

pub loop-alternative-init : goal.loop-alternative-init
loop-alternative-init g c k within = sent-nothing (at g c.args.folder.now k c.args.writer.now) (g.met.F.Folder.metered c.args.folder.now) within

pub put_alternative-requires : goal.put_alternative-requires
put_alternative-requires g c =
    let l = c.loop-alternative in
    let hs = c.deref-alternative-items.result.now in
    record { leaf = leaf-stands (pairs_of c.args.own.now.one) (pairs_of c.args.own.now.two) (take l.alternative-index hs) (at g c.args.folder.now nowhere c.args.writer.now) (at g l.folder nowhere l.writer) (l.invariant nowhere (omega arith)) c.requires.leaf }

pub end_leaf-requires : goal.end_leaf-requires
end_leaf-requires g c =
    let l = c.loop-alternative in
    let hs = c.deref-alternative-items.result.now in
    record { leaf = leaf-stands (pairs_of c.args.own.now.one) (pairs_of c.args.own.now.two) (take l.alternative-index hs) (at g c.args.folder.now nowhere c.args.writer.now) (at g l.folder nowhere l.writer) (l.invariant nowhere (omega arith)) c.requires.leaf }

pub returns-in_err-stamp : goal.returns-in_err-stamp
returns-in_err-stamp g c k within =
    let l = c.loop-alternative in
    let p = pairs_of c.args.own.now.one in
    let q = pairs_of c.args.own.now.two in
    let hs = c.deref-alternative-items.result.now in
    let s = at g c.args.folder.now k c.args.writer.now in
    let t = at g l.folder k l.writer in
    let f = c.from_residual-in_err-stamp in
    at-err f.result Memory f.ensures.1 (λ z. OthersPut p q c.args.held s t (fault_of z))
    (others-put p q c.args.held hs s t (Some Memory) (left g (goal.at.returns-in_err-stamp g c).After-deref-alternative-items) (left-memory p q l.alternative-index hs s t (g.met.F.Folder.metered l.folder) within (l.invariant k within)))

pub returns-in_err-put_alternative : goal.returns-in_err-put_alternative
returns-in_err-put_alternative g c k within =
    let l = c.loop-alternative in
    let h = c.alternative-item in
    let p = pairs_of c.args.own.now.one in
    let q = pairs_of c.args.own.now.two in
    let hs = c.deref-alternative-items.result.now in
    let e = c.in_err-put_alternative in
    let s = at g c.args.folder.now k c.args.writer.now in
    let t = at g l.folder k l.writer in
    let u = at g c.put_alternative.new.folder k c.put_alternative.new.writer in
    let f = c.from_residual-in_err-put_alternative in
    at-err f.result e.field-0.0 f.ensures.1 (λ z. OthersPut p q c.args.held s u (fault_of z))
    (others-put p q c.args.held hs s u (Some e.field-0.0) (left g (goal.at.returns-in_err-put_alternative g c).After-deref-alternative-items)
    (left-fault p q l.alternative-index hs h.result (stamp_view c.in_ok-stamp.stamp) s t u e.field-0.0 c.loop-alternative-test.true h.is c.in_ok-stamp.ensures (l.invariant k within) (e.ensures k within)))

pub loop-alternative-preserved : goal.loop-alternative-preserved
loop-alternative-preserved g c k within =
    let l = c.loop-alternative in
    let h = c.alternative-item in
    let hs = c.deref-alternative-items.result.now in
    left-next (pairs_of c.args.own.now.one) (pairs_of c.args.own.now.two) l.alternative-index hs h.result (stamp_view c.in_ok-stamp.stamp) (at g c.args.folder.now k c.args.writer.now) (at g l.folder k l.writer) (at g c.put_alternative.new.folder k c.put_alternative.new.writer)
    c.loop-alternative-test.true h.is c.in_ok-stamp.ensures (l.invariant k within) (c.in_ok-put_alternative.ensures k within)

pub returns : goal.returns
returns g c k within =
    let f = g.F.Folder in
    let l = c.loop-alternative in
    let p = pairs_of c.args.own.now.one in
    let q = pairs_of c.args.own.now.two in
    let hs = c.deref-alternative-items.result.now in
    let s = at g c.args.folder.now k c.args.writer.now in
    let t = at g l.folder k l.writer in
    let u = at g c.end_leaf.new.folder k c.end_leaf.new.self in
    let e = c.end_leaf.ensures in
    let sent = call-sends f.files f.draft f.numbers f.faults l.folder c.end_leaf.new.folder k l.writer c.end_leaf.new.self call_end_leaf c.end_leaf.result (g.met.F.Folder.metered l.folder) within e.folder e.after e.too_long in
    subst (λ (o : Option CopyFault). OthersPut p q c.args.held s u o) (called c.end_leaf.result c.written.result c.written.ensures)
    (others-put p q c.args.held hs s u (written c.end_leaf.result) (left g (goal.at.returns g c).After-deref-alternative-items) (left-end p q l.alternative-index hs s t u (written c.end_leaf.result) c.loop-alternative-test.false (l.invariant k within) sent))
