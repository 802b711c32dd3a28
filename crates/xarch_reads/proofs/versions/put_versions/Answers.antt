use Rattle.std.proofs.Common.{ℕ, ◌+◌, ◌≤◌, List, IfSome, refl, sym, ap, ◌∙◌, subst, arith}
use Rattle.std.specs.Prelude.{string_bytes}
use Rattle.xa_outside.specs.Taken.{Takes, TakesPrefix}
use Rattle.version_notes.specs.declared.place.Place.{Place}
use Rattle.version_notes.specs.Reader.{PlainReader}
use Rattle.xarch_words.specs.View.{fault_view}
use Rattle.xarch_meanings.specs.Versions.{version_line}
use Rattle.xarch_reads.specs.Written.{written_state}
use Rattle.xarch_reads.proofs.ListLemmas.{begun, finished, put-front, put-rose, put-whole, stopped-reading, stopped-writing, went-on}
use Rattle.xarch_reads.proofs.versions.put_versions.Goals as goal

pub loop-note-init : goal.loop-note-init
loop-note-init g c = begun c.args.reader _ (g.met.F.Folder.metered c.args.folder.now)

pub overflow_add-number : goal.overflow_add-number
overflow_add-number g c =
    let count = c.loop-note.invariant.count in
    let few = c.requires in
    let due = (rw c.in-Ok-Some.field-0-is at c.in-Ok-Some.ensures.after).0 in
    omega (arith, count, few, due)

pub returns-then-is_err : goal.returns-then-is_err
returns-then-is_err g c =
    let law = c.notes_come_one_by_one.ensures in
    let e = c.in-Ok-Some.ensures in
    let is = c.in-Ok-Some.field-0-is in
    let after = rw is at e.after in
    let failed = sym c.is_err.ensures.value ∙ c.if-is_err.true in
    let line = put-front (g.K.Sink.taken c.loop-note.sink) (g.K.Sink.taken c.put_version.new.sink) c.put_version.result _ failed c.put_version.ensures.bytes in
    stopped-writing law.note law.last law.damage c.args.reader c.loop-note.reader c.loop-note.number _ _ c.loop-note.invariant (string_bytes c.in-Ok-Some.note)
    (written_state g.F.Folder.files g.F.Folder.draft g.F.Folder.numbers g.F.Folder.faults g.K.Sink.taken g.K.Sink.faults c.next.new.folder c.put_version.new.sink) c.next.new.self e.files e.draft (rw is at e.numbers) e.later
    c.put_version.ensures.cause.later after.0 after.2 (subst (λ o. IfSome o (λ (p : Place). p.at ≤ p.end)) (ap (λ (r : PlainReader). r.place) c.reader.view_is) c.reader.invariant) (λ files told. rw is at e.told files told)
    c.args.archive.now (subst (λ (l : List ℕ). TakesPrefix (g.K.Sink.taken c.loop-note.sink) (g.K.Sink.taken c.put_version.new.sink) (version_line (c.loop-note.number + 1) l)) c.deref.ensures line)
    (let rose = put-rose _ _ c.put_version.result failed c.put_version.ensures.cause in let l = c.loop-note.invariant.out_later in omega (arith, rose, l))

pub loop-note-smaller : goal.loop-note-smaller
loop-note-smaller g c =
    let after = rw c.in-Ok-Some.field-0-is at c.in-Ok-Some.ensures.after in
    let less = after.0 in
    let is = ap (λ (r : PlainReader). r.due) after.2 in
    omega (arith, less, is)

pub loop-note-preserved : goal.loop-note-preserved
loop-note-preserved g c =
    let law = c.notes_come_one_by_one.ensures in
    let e = c.in-Ok-Some.ensures in
    let is = c.in-Ok-Some.field-0-is in
    let after = rw is at e.after in
    let done = sym c.is_err.ensures.value ∙ c.if-is_err.false in
    let line = put-whole (g.K.Sink.taken c.loop-note.sink) (g.K.Sink.taken c.put_version.new.sink) c.put_version.result _ done c.put_version.ensures.bytes in
    went-on law.note law.last law.damage c.args.reader c.loop-note.reader c.loop-note.number _ _ c.loop-note.invariant (string_bytes c.in-Ok-Some.note)
    (written_state g.F.Folder.files g.F.Folder.draft g.F.Folder.numbers g.F.Folder.faults g.K.Sink.taken g.K.Sink.faults c.next.new.folder c.put_version.new.sink) c.next.new.self e.files e.draft (rw is at e.numbers) e.later
    c.put_version.ensures.cause.later after.0 after.2 (subst (λ o. IfSome o (λ (p : Place). p.at ≤ p.end)) (ap (λ (r : PlainReader). r.place) c.reader.view_is) c.reader.invariant) (λ files told. rw is at e.told files told)
    (subst (λ (l : List ℕ). Takes (g.K.Sink.taken c.loop-note.sink) (g.K.Sink.taken c.put_version.new.sink) (version_line (c.loop-note.number + 1) l)) c.deref.ensures line)

pub returns-in-Ok-None : goal.returns-in-Ok-None
returns-in-Ok-None g c =
    let law = c.notes_come_one_by_one.ensures in
    let e = c.in-Ok-None.ensures in
    let is = c.in-Ok-None.field-0-is in
    finished law.note law.last law.damage c.args.reader c.loop-note.reader c.loop-note.number _ _ c.loop-note.invariant
    (written_state g.F.Folder.files g.F.Folder.draft g.F.Folder.numbers g.F.Folder.faults g.K.Sink.taken g.K.Sink.faults c.next.new.folder c.loop-note.sink) e.files e.draft e.later refl refl c.args.archive.now
    (rw is at e.numbers) (λ files told. rw is at e.told files told)

pub returns-in-Err : goal.returns-in-Err
returns-in-Err g c =
    let law = c.notes_come_one_by_one.ensures in
    let e = c.in-Err.ensures in
    stopped-reading law.note law.last law.damage c.args.reader c.loop-note.reader c.loop-note.number _ _ c.loop-note.invariant
    (written_state g.F.Folder.files g.F.Folder.draft g.F.Folder.numbers g.F.Folder.faults g.K.Sink.taken g.K.Sink.faults c.next.new.folder c.loop-note.sink) e.files e.draft e.later refl refl c.args.archive.now
    c.in-Err.fault (fault_view c.notes_fault.result) c.notes_fault.ensures e.cause e.pulls e.told
