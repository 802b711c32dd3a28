use Rattle.std.proofs.Common.{◌≡◌, ◌+◌, ℕ, ap, ◌∙◌, subst, arith}
use Rattle.xa_outside.specs.Numbers.{PullsAndDrafts}
use Rattle.version_notes.specs.Reading.{all_read}
use Rattle.version_notes.specs.Writer.{fresh}
use Rattle.xarch_parts.specs.Noted.{notes_bytes}
use Rattle.xarch_words.specs.View.{fault_view}
use Rattle.xarch_parts.proofs.Pushing.{no-fault}
use Rattle.xarch_writes.proofs.Growing.{gap-appends, grows-appends, grows-more, grows-none, grows-then}
use Rattle.xarch_writes.proofs.NotesEnds.{copied-pushed, copied-used, folder-end, folder-unlimited, gains-behind, notes-end, notes-unlimited, prompt}
use Rattle.xarch_writes.proofs.notes.append_notes.Goals as goal
use Rattle.xarch_parts.proofs.NoteLaws.{all-read, notes-cause, inside-memory}

-- ---- they are copied

pub append_last-requires-clause-some : goal.append_last-requires-clause-some
append_last-requires-clause-some g c =
    let f = g.F.Folder in
    let parts = c.args.parts.now in
    copied-used (f.files c.args.folder.now) c.args.archive.now parts c.args.versions c.in-Ok.reader c.start-writer.result c.copy_notes.new.writer (f.draft c.args.folder.now) (f.draft c.copy_notes.new.folder) c.in-Ok.ensures (c.start-writer.ensures ∙ ap fresh c.is_some.ensures) c.in-Ok-copy_notes.ensures.copies
    c.writers_append_the_part.ensures.used

pub append_last-requires-clause-few : goal.append_last-requires-clause-few
append_last-requires-clause-few g c =
    let f = g.F.Folder in
    let parts = c.args.parts.now in
    let few = c.requires.few in
    let pushed = copied-pushed (f.files c.args.folder.now) c.args.archive.now parts c.args.versions c.in-Ok.reader c.start-writer.result c.copy_notes.new.writer (f.draft c.args.folder.now) (f.draft c.copy_notes.new.folder) c.in-Ok.ensures (c.start-writer.ensures ∙ ap fresh c.is_some.ensures) c.in-Ok-copy_notes.ensures.copies
    c.writers_append_the_part.ensures.pushed in
    omega (arith, few, pushed)

pub returns-in-Ok-copy_notes-clause-grows : goal.returns-in-Ok-copy_notes-clause-grows
returns-in-Ok-copy_notes-clause-grows g c =
    let f = g.F.Folder in
    let e = c.in-Ok-copy_notes.ensures in
    let n = notes_bytes c.args.parts.now.notes in
    let many : all_read c.in-Ok.reader ≡ n = ap all_read c.in-Ok.ensures ∙ all-read c.args.archive.now c.args.parts.now c.args.versions in
    grows-more (n + 0) n _ _ _ (omega arith)
    (grows-then n 0 c.args.folder.now c.copy_notes.new.folder c.append_last.new.folder _
    (record { same_files = e.files; bytes = _; grown = e.copies.gains; counted = subst (λ (k : ℕ). PullsAndDrafts k (f.numbers c.args.folder.now) (f.numbers c.copy_notes.new.folder)) many e.pulls; later = e.later; cause = no-fault _ _ })
    (grows-appends c.copy_notes.new.folder c.append_last.new.folder _ c.append_last.result (g.met.F.Folder.metered c.copy_notes.new.folder) c.append_last.ensures.appends c.append_last.ensures.fault))

pub returns-in-Ok-copy_notes-clause-gains : goal.returns-in-Ok-copy_notes-clause-gains
returns-in-Ok-copy_notes-clause-gains g c =
    let f = g.F.Folder in
    gains-behind (f.files c.args.folder.now) c.args.archive.now c.args.parts.now c.args.versions c.in-Ok.reader c.start-writer.result c.copy_notes.new.writer (f.draft c.args.folder.now) (f.draft c.copy_notes.new.folder) c.in-Ok.ensures (c.start-writer.ensures ∙ ap fresh c.is_some.ensures)
    c.in-Ok-copy_notes.ensures.copies c.writers_append_the_part.ensures.part c.args.note.now c.append_last.result (f.draft c.append_last.new.folder) (f.numbers c.copy_notes.new.folder) (f.numbers c.append_last.new.folder) c.append_last.ensures.appends.gains

pub returns-in-Ok-copy_notes-clause-ends : goal.returns-in-Ok-copy_notes-clause-ends
returns-in-Ok-copy_notes-clause-ends g c = λ files told. folder-end files c.args.archive.now c.args.parts.now c.args.versions c.append_last.result c.append_last.ensures.fault

pub returns-in-Ok-copy_notes-clause-unlimited : goal.returns-in-Ok-copy_notes-clause-unlimited
returns-in-Ok-copy_notes-clause-unlimited g c = folder-unlimited c.append_last.result c.append_last.ensures.fault

pub returns-in-Ok-copy_notes-clause-gap : goal.returns-in-Ok-copy_notes-clause-gap
returns-in-Ok-copy_notes-clause-gap g c =
    let f = g.F.Folder in
    let same = gap-appends c.copy_notes.new.folder c.append_last.new.folder _ c.append_last.result c.append_last.ensures.appends in
    let begun = prompt c.args.archive.now c.args.parts.now c.args.versions c.in-Ok.reader c.start-writer.result c.in-Ok.ensures (c.start-writer.ensures ∙ ap fresh c.is_some.ensures) in
    let gap = c.in-Ok-copy_notes.ensures.gap begun in
    omega (arith, same, gap)

-- ---- they are not

pub returns-in-Err-copy_notes-clause-grows : goal.returns-in-Err-copy_notes-clause-grows
returns-in-Err-copy_notes-clause-grows g c =
    let f = g.F.Folder in
    let e = c.in-Err-copy_notes.ensures in
    let n = notes_bytes c.args.parts.now.notes in
    let many : all_read c.in-Ok.reader ≡ n = ap all_read c.in-Ok.ensures ∙ all-read c.args.archive.now c.args.parts.now c.args.versions in
    record {
      same_files = e.files;
      bytes = e.drafted.bytes;
      grown = e.drafted.is;
      counted = subst (λ (k : ℕ). PullsAndDrafts k (f.numbers c.args.folder.now) (f.numbers c.copy_notes.new.folder)) many e.pulls;
      later = e.later;
      cause = notes-cause c.args.archive.now c.in-Err-copy_notes.fault (fault_view c.notes_fault.result) _ _ c.notes_fault.ensures e.cause;
    }

pub returns-in-Err-copy_notes-clause-ends : goal.returns-in-Err-copy_notes-clause-ends
returns-in-Err-copy_notes-clause-ends g c = λ files told.
    notes-end files c.args.archive.now c.args.parts.now c.args.versions c.in-Ok.reader c.in-Ok.ensures c.in-Err-copy_notes.fault (fault_view c.notes_fault.result) c.notes_fault.ensures (c.in-Err-copy_notes.ensures.told files told)

pub returns-in-Err-copy_notes-clause-unlimited : goal.returns-in-Err-copy_notes-clause-unlimited
returns-in-Err-copy_notes-clause-unlimited g c = notes-unlimited c.args.archive.now c.in-Err-copy_notes.fault (fault_view c.notes_fault.result) c.notes_fault.ensures

pub returns-in-Err-copy_notes-clause-gap : goal.returns-in-Err-copy_notes-clause-gap
returns-in-Err-copy_notes-clause-gap g c =
    c.in-Err-copy_notes.ensures.gap (prompt c.args.archive.now c.args.parts.now c.args.versions c.in-Ok.reader c.start-writer.result c.in-Ok.ensures (c.start-writer.ensures ∙ ap fresh c.is_some.ensures))

pub returns-in-Err-clause-grows : goal.returns-in-Err-clause-grows
returns-in-Err-clause-grows g c = grows-none _ c.args.folder.now _ (g.met.F.Folder.metered c.args.folder.now) inside-memory
