use Rattle.std.proofs.Common.{◌+◌, ◌++◌, subst}
use Rattle.version_notes.specs.Writer.{PlainWriter, last_appended}
use Rattle.xarch_words.specs.View.{fault_view}
use Rattle.xarch_parts.specs.Noted.{notes_bytes}
use Rattle.xarch_copies.specs.Joining.{BothNotesEnd, Carries, CopiesAll, front_reader}
use Rattle.xarch_copies.specs.Making.{Fails}
use Rattle.xarch_copies.proofs.Joining.{both-written, carries, fails-second, fails-unclosed}
use Rattle.xarch_copies.proofs.Making.{at-err}
use Rattle.xarch_copies.proofs.Slicing.{waits-still}
use Rattle.xarch_copies.proofs.notes.append_both.Goals as goal

pub returns-in_err-copy_front_notes-2 : goal.returns-in_err-copy_front_notes-2
returns-in_err-copy_front_notes-2 g c =
    let f = g.F.Folder in
    let r = c.from_residual-in_err-copy_front_notes-2 in
    at-err r.result c.in_err-copy_front_notes-2.field-0.0 (λ _. Carries f.files f.draft f.numbers f.faults c.args.folder.now c.copy_front_notes-2.new.folder (front_reader c.args.one.now c.args.first.now) (front_reader c.args.two.now c.args.second.now))
    (λ e. Fails f.files f.draft f.numbers f.faults (notes_bytes c.args.first.now.parts.notes + notes_bytes c.args.second.now.parts.notes) (BothNotesEnd (f.files c.args.folder.now) c.args.one.now c.args.first.now c.args.two.now c.args.second.now) c.args.folder.now c.copy_front_notes-2.new.folder (fault_view e)) r.ensures.1
    (fails-second c.args.folder.now c.copy_front_notes.new.folder c.copy_front_notes-2.new.folder c.args.one.now c.args.first.now c.args.two.now c.args.second.now c.start-writer.result c.copy_front_notes.new.writer (fault_view c.in_err-copy_front_notes-2.field-0.0) c.in_ok-copy_front_notes.ensures c.in_err-copy_front_notes-2.ensures)

pub finish-requires : goal.finish-requires
finish-requires g c =
    let f = g.F.Folder in
    let one = front_reader c.args.one.now c.args.first.now in
    let two = front_reader c.args.two.now c.args.second.now in
    let p = subst (λ (w : PlainWriter). CopiesAll f.files f.draft f.numbers f.faults c.args.folder.now c.copy_front_notes.new.folder one w c.copy_front_notes.new.writer) c.start-writer.ensures c.in_ok-copy_front_notes.ensures in
    let q = c.in_ok-copy_front_notes-2.ensures in
    waits-still c.copy_front_notes-2.new.writer (p.copies.notes ++ q.copies.notes) (both-written c.args.folder.now c.copy_front_notes.new.folder c.copy_front_notes-2.new.folder one two c.copy_front_notes.new.writer c.copy_front_notes-2.new.writer p q)

pub returns-in-Ok : goal.returns-in-Ok
returns-in-Ok g c =
    let f = g.F.Folder in
    let one = front_reader c.args.one.now c.args.first.now in
    let two = front_reader c.args.two.now c.args.second.now in
    let p = subst (λ (w : PlainWriter). CopiesAll f.files f.draft f.numbers f.faults c.args.folder.now c.copy_front_notes.new.folder one w c.copy_front_notes.new.writer) c.start-writer.ensures c.in_ok-copy_front_notes.ensures in
    carries c.args.folder.now c.copy_front_notes.new.folder c.copy_front_notes-2.new.folder one two c.copy_front_notes.new.writer c.copy_front_notes-2.new.writer p c.in_ok-copy_front_notes-2.ensures
    c.finish.new.folder c.in-Ok.field-0 (g.met.F.Folder.metered c.copy_front_notes-2.new.folder) c.writers_append_the_part.ensures.part c.in-Ok.ensures

pub returns-in-Err : goal.returns-in-Err
returns-in-Err g c =
    let f = g.F.Folder in
    let one = front_reader c.args.one.now c.args.first.now in
    let two = front_reader c.args.two.now c.args.second.now in
    let p = subst (λ (w : PlainWriter). CopiesAll f.files f.draft f.numbers f.faults c.args.folder.now c.copy_front_notes.new.folder one w c.copy_front_notes.new.writer) c.start-writer.ensures c.in_ok-copy_front_notes.ensures in
    fails-unclosed c.args.folder.now c.copy_front_notes.new.folder c.copy_front_notes-2.new.folder c.finish.new.folder c.args.one.now c.args.first.now c.args.two.now c.args.second.now c.copy_front_notes.new.writer c.copy_front_notes-2.new.writer p c.in_ok-copy_front_notes-2.ensures
    (last_appended c.copy_front_notes-2.new.writer) c.in-Err.field-0 (g.met.F.Folder.metered c.copy_front_notes-2.new.folder) c.in-Err.ensures
