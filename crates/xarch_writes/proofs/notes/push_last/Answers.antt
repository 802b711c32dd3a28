use Rattle.version_notes.specs.Writer.{after, appended}
use Rattle.xarch_writes.proofs.Growing.{appends-then}
use Rattle.xarch_writes.proofs.notes.push_last.Goals as goal

pub returns-in-Ok : goal.returns-in-Ok
returns-in-Ok g c =
    let f = g.F.Folder in
    appends-then c.args.folder.now c.push.new.folder c.finish.new.folder c.push.new.self (after c.args.writer c.args.note.now) (appended c.args.writer c.args.note.now) c.in-Ok.field-0 c.finish.result c.in-Ok.ensures.after c.in-Ok.ensures.folder c.finish.ensures
