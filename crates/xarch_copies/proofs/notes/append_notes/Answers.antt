use Rattle.std.proofs.Common.{◌+◌, ◌-◌, subst}
use Rattle.version_notes.specs.Reader.{PlainReader}
use Rattle.xarch_words.specs.View.{fault_view}
use Rattle.xarch_copies.specs.Slicing.{Slices, Stops}
use Rattle.xarch_copies.proofs.NoteEnds.{unnoted, unnoted-memory}
use Rattle.xarch_copies.proofs.notes.append_notes.Goals as goal

pub returns-in-Ok-push_slice : goal.returns-in-Ok-push_slice
returns-in-Ok-push_slice g c =
    let f = g.F.Folder in
    subst (λ (r : PlainReader). Slices f.files f.draft f.numbers f.faults c.args.folder.now c.push_slice.new.folder r (c.args.first - 1) (c.args.last + 1 - c.args.first)) c.in-Ok.ensures c.in-Ok-push_slice.ensures

pub returns-in-Err-push_slice : goal.returns-in-Err-push_slice
returns-in-Err-push_slice g c =
    let f = g.F.Folder in
    unnoted c.args.folder.now c.push_slice.new.folder c.args.archive.now c.args.parts.now c.args.versions c.in-Err-push_slice.fault (fault_view c.notes_fault.result) c.notes_fault.ensures
    (subst (λ (r : PlainReader). Stops f.files f.draft f.numbers f.faults c.args.folder.now c.push_slice.new.folder r c.in-Err-push_slice.fault) c.in-Ok.ensures c.in-Err-push_slice.ensures)

pub returns-in-Err : goal.returns-in-Err
returns-in-Err g c = unnoted-memory c.args.folder.now c.args.archive.now c.args.parts.now c.args.versions (g.met.F.Folder.metered c.args.folder.now)
