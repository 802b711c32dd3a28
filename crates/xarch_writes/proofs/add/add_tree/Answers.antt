use Rattle.std.proofs.Common.{◌-◌, ◌+◌, Option, Ok, refl, ap, ◌∙◌, arith}
use Rattle.key_annotate.specs.LentView.{lent_view}
use Rattle.record_cursor.specs.View.{header_view}
use Rattle.xa_outside.specs.Folder.{Files, committed}
use Rattle.xa_outside.specs.Numbers.{Numbers}
use Rattle.xarch_words.specs.Refusal.{PlainFault}
use Rattle.xarch_words.specs.View.{fault_view}
use Rattle.xarch_parts.specs.FolderLaws.{caused-then}
use Rattle.xarch_parts.specs.Noted.{notes_bytes}
use Rattle.xarch_writes.specs.Added.{Merges}
use Rattle.xarch_writes.proofs.FullEnds.{limited-passed}
use Rattle.xarch_writes.proofs.Growing.{caused-grown, ended-by, grows-then, streams-grown, streams-stored}
use Rattle.xarch_writes.proofs.MergeEnds.{ahead-notes, ahead-records, ahead-same, ends-added, ends-committed, notes-stopped, records-stopped}
use Rattle.xarch_writes.proofs.NotesEnds.{folder-unlimited, is-note}
use Rattle.xarch_writes.proofs.add.add_tree.Goals as goal

-- ---- its records are refused

pub returns-in_err-append_records-clause-streams : goal.returns-in_err-append_records-clause-streams
returns-in_err-append_records-clause-streams g c =
    let h = header_view c.args.front.now.header in
    streams-grown (h.length - h.first) _ _ _ _ _ (omega arith) c.in_err-append_records.ensures.grows

pub returns-in_err-append_records-clause-merges : goal.returns-in_err-append_records-clause-merges
returns-in_err-append_records-clause-merges g c = λ files told are front.
    let f = g.F.Folder in
    let h = header_view c.args.front.now.header in
    let new = lent_view c.args.new.now in
    let e = c.in_err-append_records in
    let v = fault_view e.field-0.0 in
    let before = f.numbers c.args.folder.now in
    let after = f.numbers c.append_records.new.folder in
    let files_after = f.files c.append_records.new.folder in
    ended-by c.from_residual.result e.field-0.0 c.from_residual.ensures.1 (λ (w : Option PlainFault). Merges files c.args.archive.now h (Ok new) c.args.note.now files_after before after w)
    (record {
      ends = records-stopped files c.args.archive.now h new c.args.note.now files_after v (e.ensures.ends files told front);
      gap = λ held a is of. ahead-records h held.rules a before after ((e.ensures.keeps_up files told front).gap held a is of);
    })

-- ---- its notes are not read

pub returns-in_err-append_notes-clause-streams : goal.returns-in_err-append_notes-clause-streams
returns-in_err-append_notes-clause-streams g c =
    let h = header_view c.args.front.now.header in
    let n = notes_bytes c.args.front.now.parts.notes in
    streams-grown (h.length - h.first + n) _ _ _ _ _ (omega arith) (grows-then (h.length - h.first) n _ _ _ _ c.in_ok-append_records.ensures.grows c.in_err-append_notes.ensures.grows)

pub returns-in_err-append_notes-clause-merges : goal.returns-in_err-append_notes-clause-merges
returns-in_err-append_notes-clause-merges g c = λ files told are front.
    let f = g.F.Folder in
    let h = header_view c.args.front.now.header in
    let parts = c.args.front.now.parts in
    let new = lent_view c.args.new.now in
    let r = c.in_ok-append_records.ensures in
    let e = c.in_err-append_notes in
    let v = fault_view e.field-0.0 in
    let before = f.numbers c.args.folder.now in
    let between = f.numbers c.append_records.new.folder in
    let after = f.numbers c.append_notes.new.folder in
    let files_after = f.files c.append_notes.new.folder in
    let kept = r.keeps_up files told front in
    ended-by c.from_residual-in_err-append_notes.result e.field-0.0 c.from_residual-in_err-append_notes.ensures.1 (λ (w : Option PlainFault). Merges files c.args.archive.now h (Ok new) c.args.note.now files_after before after w)
    (record {
      ends = notes-stopped c.full_files_have_parts.ensures.parts files (f.files c.args.folder.now) c.args.archive.now h new told front c.versions_have_one_file.ensures.header c.full_files_are_read_note_by_note.ensures.come parts are c.args.note.now files_after v r.room
          (e.ensures.ends files (r.grows.same_files ∙ told));
      gap = λ held a is of. ahead-notes h held.rules a before between after (kept.gap held a is of) (kept.ahead refl) e.ensures.gap;
    })

pub returns-in_err-append_notes-clause-fills : goal.returns-in_err-append_notes-clause-fills
returns-in_err-append_notes-clause-fills g c = λ b room limited. absurd (c.in_err-append_notes.ensures.unlimited (limited-passed c.from_residual-in_err-append_notes.result c.in_err-append_notes.field-0.0 c.from_residual-in_err-append_notes.ensures.1 limited))

-- ---- all is appended

pub returns-clause-streams : goal.returns-clause-streams
returns-clause-streams g c =
    let h = header_view c.args.front.now.header in
    let n = notes_bytes c.args.front.now.parts.notes in
    streams-stored (h.length - h.first + n) _ _ _ _ (g.met.F.Folder.metered c.append_notes.new.folder) (grows-then (h.length - h.first) n _ _ _ _ c.in_ok-append_records.ensures.grows c.in_ok-append_notes.ensures.grows) c.commit.ensures.writes

pub returns-clause-caused : goal.returns-clause-caused
returns-clause-caused g c = λ out.
    caused-then _ _ _ _ _ _ _ (caused-then _ _ _ _ _ _ _ (caused-grown _ _ _ _ out c.in_ok-append_records.ensures.grows) (caused-grown _ _ _ _ out c.in_ok-append_notes.ensures.grows)) (c.commit.ensures.caused out)

pub returns-clause-merges : goal.returns-clause-merges
returns-clause-merges g c = λ files told are front.
    let f = g.F.Folder in
    let h = header_view c.args.front.now.header in
    let parts = c.args.front.now.parts in
    let new = lent_view c.args.new.now in
    let note = c.args.note.now in
    let name = c.args.archive.now in
    let r = c.in_ok-append_records.ensures in
    let n = c.in_ok-append_notes.ensures in
    let before = f.numbers c.args.folder.now in
    let between = f.numbers c.append_records.new.folder in
    let behind = f.numbers c.append_notes.new.folder in
    let after = f.numbers c.commit.new.folder in
    let kept = r.keeps_up files told front in
    let same = n.grows.same_files ∙ r.grows.same_files in
    record {
      ends = ends-committed files name h new note (f.files c.commit.new.folder) c.commit.result (f.files c.append_notes.new.folder) (f.draft c.append_notes.new.folder) c.commit.ensures.committed c.commit.ensures.fault
          (λ done. ends-added c.full_files_have_parts.ensures.parts files (f.files c.args.folder.now) name h new told front c.versions_have_one_file.ensures.header c.full_files_are_read_note_by_note.ensures.come parts are
          note (f.draft c.args.folder.now) (f.draft c.append_records.new.folder) (f.draft c.append_notes.new.folder) (f.files c.append_records.new.folder) (f.files c.commit.new.folder) (is-note note c.utf8.note c.requires.note) r.room r.appended r.grows.same_files n.gains
          (done ∙ ap (λ (o : Option Files). committed o (f.draft c.append_notes.new.folder) name) same));
      gap = λ held a is of.
          ahead-same _ behind after (ap (λ (m : Numbers). m.gap) c.commit.ensures.writes.counted) (ahead-notes h held.rules a before between behind (kept.gap held a is of) (kept.ahead refl) n.gap);
    }

pub returns-clause-fills : goal.returns-clause-fills
returns-clause-fills g c = λ b room limited. absurd (folder-unlimited c.commit.result c.commit.ensures.fault limited)

pub append_records-requires-clause-header : goal.append_records-requires-clause-header
append_records-requires-clause-header g c = c.args.front.now.heads

pub append_notes-requires-clause-room : goal.append_notes-requires-clause-room
append_notes-requires-clause-room g c = c.args.front.now.room

pub append_notes-requires-clause-few : goal.append_notes-requires-clause-few
append_notes-requires-clause-few g c = (let few = c.args.front.now.heads.few in let room = c.in_ok-append_records.ensures.room in omega (arith, few, room))
