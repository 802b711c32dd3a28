use Rattle.std.proofs.Common.{subst}
use Rattle.record_cursor.specs.View.{header_view}
use Rattle.version_notes.specs.Reader.{PlainReader}
use Rattle.xarch_words.specs.View.{fault_view}
use Rattle.xarch_copies.specs.Joining.{CopiesAll}
use Rattle.xarch_copies.specs.Slicing.{Stops}
use Rattle.xarch_copies.proofs.Joining.{copied-all, copied-some}
use Rattle.xarch_copies.proofs.NoteEnds.{unnoted, unnoted-memory}
use Rattle.xarch_copies.proofs.notes.copy_front_notes.Goals as goal

pub start-requires : goal.start-requires
start-requires g c = c.args.front.now.room

pub returns-in-Ok-copy_notes : goal.returns-in-Ok-copy_notes
returns-in-Ok-copy_notes g c =
    let f = g.F.Folder in
    let e = c.in-Ok-copy_notes.ensures in
    subst (λ (r : PlainReader). CopiesAll f.files f.draft f.numbers f.faults c.args.folder.now c.copy_notes.new.folder r c.args.writer.now c.copy_notes.new.writer) c.in-Ok.ensures
    (copied-all c.args.folder.now c.copy_notes.new.folder c.in-Ok.reader c.args.writer.now c.copy_notes.new.writer e.files e.copies e.pulls e.later)

pub returns-in-Err-copy_notes : goal.returns-in-Err-copy_notes
returns-in-Err-copy_notes g c =
    let f = g.F.Folder in
    let e = c.in-Err-copy_notes.ensures in
    unnoted c.args.folder.now c.copy_notes.new.folder c.args.archive.now c.args.front.now.parts (header_view c.args.front.now.header).versions c.in-Err-copy_notes.fault (fault_view c.notes_fault.result) c.notes_fault.ensures
    (subst (λ (r : PlainReader). Stops f.files f.draft f.numbers f.faults c.args.folder.now c.copy_notes.new.folder r c.in-Err-copy_notes.fault) c.in-Ok.ensures
    (copied-some c.args.folder.now c.copy_notes.new.folder c.in-Ok.reader c.in-Err-copy_notes.fault e.files e.drafted e.pulls e.later e.cause e.told))

pub returns-in-Err : goal.returns-in-Err
returns-in-Err g c = unnoted-memory c.args.folder.now c.args.archive.now c.args.front.now.parts (header_view c.args.front.now.header).versions (g.met.F.Folder.metered c.args.folder.now)
