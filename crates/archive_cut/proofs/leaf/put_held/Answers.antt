use Rattle.std.proofs.Common.{◌≡◌, [], ◌∷◌, ◌++◌, map, take, Option, None, Some, sym, ap, subst, arith, ◌∙◌}
use Rattle.archive_tree.specs.View.{stamp_view}
use Rattle.record_cursor.specs.View.{PlainCursor}
use Rattle.xa_fields.specs.Reading.{whole}
use Rattle.keyed_tree.specs.Data.{PlainKey}
use Rattle.record_parts.specs.Reading.{value_at}
use Rattle.record_parts.specs.ShownViews.{value_in, shown_body}
use Rattle.record_writer.specs.Data.{call_alt, call_end_leaf}
use Rattle.record_writer.specs.Walks.{alt_calls}
use Rattle.record_writer.specs.declared.writer.Writer.{Writer}
use Rattle.record_copy.specs.Faults.{fault_of}
use Rattle.record_copy.specs.Runs.{Sent}
use Rattle.record_copy.specs.State.{State, state}
use Rattle.record_copy.specs.declared.fault.CopyFault.{CopyFault}
use Rattle.record_copy.proofs.Passing.{at-err}
use Rattle.record_copy.proofs.Running.{written, called, call-sends, sent-as}
use Rattle.archive_cut.specs.Held.{held_view, alt_call}
use Rattle.archive_cut.proofs.Putting.{nowhere, put-next, put-fault, put-end, leaf-stands}
use Rattle.archive_cut.proofs.leaf.put_held.Given.{Over}
use Rattle.archive_cut.proofs.leaf.put_held.Goals as goal

abbrev at : (g : Over) → g.row.F.Denot → PlainCursor → Writer → State
at g = (let f = g.F.Folder in state f.files f.draft f.numbers f.faults)

pub alt-requires-clause-leaf : goal.alt-requires-clause-leaf
alt-requires-clause-leaf g c =
    let l = c.loop-alternative in
    leaf-stands (take l.alternative-index c.args.held.now) (at g c.args.folder.now nowhere c.args.writer.now) (at g l.folder nowhere l.writer) (l.invariant nowhere (omega arith)) c.requires.leaf

pub end_leaf-requires : goal.end_leaf-requires
end_leaf-requires g c =
    let l = c.loop-alternative in
    record { leaf = leaf-stands (take l.alternative-index c.args.held.now) (at g c.args.folder.now nowhere c.args.writer.now) (at g l.folder nowhere l.writer) (l.invariant nowhere (omega arith)) c.requires.leaf }

shows : (b : PlainKey) (o : Option PlainKey) → Some b ≡ o → b ≡ value_in o
shows b o e = ap value_in e

pub returns-in_err-written : goal.returns-in_err-written
returns-in_err-written g c k within =
    let f = g.F.Folder in
    let l = c.loop-alternative in
    let h = c.alternative-item in
    let s = at g c.args.folder.now k c.args.writer.now in
    let t = at g l.folder k l.writer in
    let u = at g c.alt.new.folder k c.alt.new.self in
    let e = c.alt.ensures in
    let st = stamp_view h.result.stamp in
    let shown = shown_body c.lend_body.result in
    let body : shown ≡ value_in (whole value_at h.result.body.items) = shows shown (whole value_at h.result.body.items) (c.lend_body.ensures ∙ ap (whole value_at) c.deref.ensures.value) in
    let sent = call-sends f.files f.draft f.numbers f.faults l.folder c.alt.new.folder k l.writer c.alt.new.self (call_alt st shown) c.alt.result (g.met.F.Folder.metered l.folder) within e.folder e.after e.too_long in
    let fault : written c.alt.result ≡ Some c.in_err-written.field-0.0 = called c.alt.result c.written.result c.written.ensures ∙ ap fault_of c.in_err-written.was in
    let there : Sent (alt_call (held_view h.result) ∷ []) t u (Some c.in_err-written.field-0.0) = subst (λ (o : Option CopyFault). Sent (alt_call (held_view h.result) ∷ []) t u o) fault (sent-as t u (written c.alt.result) _ _ (ap (λ b. call_alt st b ∷ []) (sym body)) sent) in
    at-err c.from_residual.result c.in_err-written.field-0.0 c.from_residual.ensures.1 (λ z. Sent (alt_calls (map held_view c.args.held.now) ++ call_end_leaf ∷ []) s u (fault_of z))
    (put-fault l.alternative-index c.args.held.now h.result s t u c.in_err-written.field-0.0 c.loop-alternative-test.true h.is (l.invariant k within) there)

pub loop-alternative-preserved : goal.loop-alternative-preserved
loop-alternative-preserved g c k within =
    let f = g.F.Folder in
    let l = c.loop-alternative in
    let h = c.alternative-item in
    let s = at g c.args.folder.now k c.args.writer.now in
    let t = at g l.folder k l.writer in
    let u = at g c.alt.new.folder k c.alt.new.self in
    let e = c.alt.ensures in
    let st = stamp_view h.result.stamp in
    let shown = shown_body c.lend_body.result in
    let body : shown ≡ value_in (whole value_at h.result.body.items) = shows shown (whole value_at h.result.body.items) (c.lend_body.ensures ∙ ap (whole value_at) c.deref.ensures.value) in
    let sent = call-sends f.files f.draft f.numbers f.faults l.folder c.alt.new.folder k l.writer c.alt.new.self (call_alt st shown) c.alt.result (g.met.F.Folder.metered l.folder) within e.folder e.after e.too_long in
    let none : written c.alt.result ≡ None = called c.alt.result c.written.result c.written.ensures ∙ ap fault_of c.in_ok-written.was in
    let there : Sent (alt_call (held_view h.result) ∷ []) t u None = subst (λ (o : Option CopyFault). Sent (alt_call (held_view h.result) ∷ []) t u o) none (sent-as t u (written c.alt.result) _ _ (ap (λ b. call_alt st b ∷ []) (sym body)) sent) in
    put-next l.alternative-index c.args.held.now h.result s t u c.loop-alternative-test.true h.is (l.invariant k within) there

pub returns : goal.returns
returns g c k within =
    let f = g.F.Folder in
    let l = c.loop-alternative in
    let s = at g c.args.folder.now k c.args.writer.now in
    let t = at g l.folder k l.writer in
    let u = at g c.end_leaf.new.folder k c.end_leaf.new.self in
    let e = c.end_leaf.ensures in
    let sent = call-sends f.files f.draft f.numbers f.faults l.folder c.end_leaf.new.folder k l.writer c.end_leaf.new.self call_end_leaf c.end_leaf.result (g.met.F.Folder.metered l.folder) within e.folder e.after e.too_long in
    subst (λ (o : Option CopyFault). Sent (alt_calls (map held_view c.args.held.now) ++ call_end_leaf ∷ []) s u o) (called c.end_leaf.result c.written-2.result c.written-2.ensures)
    (put-end l.alternative-index c.args.held.now s t u (written c.end_leaf.result) c.loop-alternative-test.false (l.invariant k within) sent)
