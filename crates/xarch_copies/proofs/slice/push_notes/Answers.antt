use Rattle.std.proofs.Common.{◌+◌, sym, subst}
use Rattle.version_notes.specs.declared.fault.NotesFault.TheVariants.{Folder}
use Rattle.version_notes.specs.Writer.{appended}
use Rattle.xarch_copies.specs.Slicing.{Pushes, Stops}
use Rattle.xarch_copies.proofs.Making.{at-err}
use Rattle.xarch_copies.proofs.Slicing.{none-due, note-due, note-fits, pushes-next, pushes-none, stops-unpushed, stops-unread}
use Rattle.xarch_copies.proofs.slice.push_notes.Goals as goal
use Rattle.xarch_copies.proofs.slice.push_notes.Goals.{in-Some+in_ok-push, in_default}

pub loop-init : goal.loop-init
loop-init g c = pushes-none c.args.folder.now c.args.reader.now c.args.writer.now (g.met.F.Folder.metered c.args.folder.now)

pub push-requires-clause-few : goal.push-requires-clause-few
push-requires-clause-few g c =
    let h = c.loop.invariant in
    note-fits c.args.writer.now c.loop.writer h.notes c.loop.counter c.args.count h.writer h.many c.loop-test.true c.requires.few

pub loop-preserved : goal.loop-preserved
loop-preserved g c =
    let f = g.F.Folder in
    let h = c.loop.invariant in
    let n = c.in_ok-note.ensures in
    elim c.match-branch-2.branch [
      | in-Some+in_ok-push w ↦
          let p = w.in_ok-push.ensures in
          let pushed = pushes-next c.notes_come_one_by_one.ensures.note c.args.folder.now c.loop.folder c.next.new.folder w.push.new.folder c.args.reader.now c.loop.reader c.args.writer.now c.loop.writer c.loop.counter h
          c.in_ok-note.field-0 w.in-Some.note w.deref.result.now c.next.new.self w.push.new.self w.in_ok-push.field-0 w.in-Some.is w.deref.ensures n.after n.told n.files n.draft n.later n.numbers n.pulls (g.met.F.Folder.metered c.next.new.folder) p.folder p.after in
          subst (λ s. Pushes f.files f.draft f.numbers f.faults c.args.folder.now s c.args.reader.now c.next.new.self c.args.writer.now c.match-branch-2.writer (c.loop.counter + 1)) (sym w.folder-is)
          (subst (λ v. Pushes f.files f.draft f.numbers f.faults c.args.folder.now w.push.new.folder c.args.reader.now c.next.new.self c.args.writer.now v (c.loop.counter + 1)) (sym w.writer-is) pushed)
      | in_default w ↦
          absurd (none-due c.loop.reader c.next.new.self c.in_ok-note.field-0 w.in_default.not-Some n.after
          (note-due (f.files c.args.folder.now) c.args.reader.now c.loop.reader h.notes h.gives c.loop.counter c.args.count h.many c.loop-test.true c.requires.due))
    ]

pub returns-in_err-note : goal.returns-in_err-note
returns-in_err-note g c =
    let f = g.F.Folder in
    let h = c.loop.invariant in
    let n = c.in_err-note.ensures in
    at-err c.from_residual.result c.in_err-note.field-0.0 (λ _. Pushes f.files f.draft f.numbers f.faults c.args.folder.now c.next.new.folder c.args.reader.now c.next.new.self c.args.writer.now c.loop.writer c.args.count)
    (λ e. Stops f.files f.draft f.numbers f.faults c.args.folder.now c.next.new.folder c.args.reader.now e) c.from_residual.ensures.1
    (stops-unread c.notes_come_one_by_one.ensures.damage c.args.folder.now c.loop.folder c.next.new.folder c.args.reader.now c.loop.reader h.notes c.in_err-note.field-0.0 h.gives h.extends n.told n.files n.draft n.later n.cause n.pulls)

pub returns-in_err-push : goal.returns-in_err-push
returns-in_err-push g c =
    let f = g.F.Folder in
    let h = c.loop.invariant in
    let n = c.in_ok-note.ensures in
    at-err c.from_residual-in_err-push.result Folder (λ _. Pushes f.files f.draft f.numbers f.faults c.args.folder.now c.push.new.folder c.args.reader.now c.next.new.self c.args.writer.now c.push.new.self c.args.count)
    (λ e. Stops f.files f.draft f.numbers f.faults c.args.folder.now c.push.new.folder c.args.reader.now e) c.from_residual-in_err-push.ensures.1
    (stops-unpushed c.args.folder.now c.loop.folder c.next.new.folder c.push.new.folder c.args.reader.now c.loop.reader h.notes (appended c.loop.writer c.deref.result.now) c.in_err-push.field-0.0 h.gives h.extends n.files n.draft n.later n.pulls (g.met.F.Folder.metered c.next.new.folder) c.in_err-push.ensures.folder)
