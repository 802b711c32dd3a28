use Rattle.std.proofs.Common.{◌+◌, None, Ok, refl, arith}
use Rattle.key_annotate.specs.LentView.{lent_view}
use Rattle.record_cursor.specs.View.{header_view}
use Rattle.xarch_words.specs.View.{fault_view}
use Rattle.stream_merge.specs.Added.{Overfull}
use Rattle.xarch_parts.proofs.Pushing.{no-fault}
use Rattle.xarch_writes.proofs.Growing.{grows-none}
use Rattle.xarch_writes.proofs.FullEnds.{limited-merge}
use Rattle.xarch_writes.proofs.MergeEnds.{told-cause, records-failed, gap-of, keeps-up, roomy}
use Rattle.xarch_writes.proofs.add.append_records.Goals as goal
use Rattle.xarch_parts.proofs.NoteLaws.{inside-memory}

-- ---- they were appended

pub returns-in-Ok-stream_append-clause-grows : goal.returns-in-Ok-stream_append-clause-grows
returns-in-Ok-stream_append-clause-grows g c =
    let e = c.in-Ok-stream_append.ensures in
    record { same_files = e.files; bytes = e.drafted.bytes; grown = e.drafted.is; counted = e.pulls; later = e.later; cause = no-fault _ _ }

pub returns-in-Ok-stream_append-clause-room : goal.returns-in-Ok-stream_append-clause-room
returns-in-Ok-stream_append-clause-room g c = roomy c.in-Ok-stream_append.field-0 (header_view c.args.header.now).versions c.in-Ok-stream_append.ensures.limit

pub returns-in-Ok-stream_append-clause-ends : goal.returns-in-Ok-stream_append-clause-ends
returns-in-Ok-stream_append-clause-ends g c = λ files told front. roomy c.in-Ok-stream_append.field-0 (header_view c.args.header.now).versions c.in-Ok-stream_append.ensures.limit

pub returns-in-Ok-stream_append-clause-keeps_up : goal.returns-in-Ok-stream_append-clause-keeps_up
returns-in-Ok-stream_append-clause-keeps_up g c = λ files told front.
    let f = g.F.Folder in
    let e = c.in-Ok-stream_append.ensures in
    keeps-up c.full_files_have_parts.ensures.parts files (f.files c.args.folder.now) c.args.archive.now (header_view c.args.header.now) (lent_view c.args.new.now) told front (Ok c.in-Ok-stream_append.field-0) None (f.numbers c.args.folder.now) (f.numbers c.stream_append.new.folder)
    (λ none. (c.in-Ok-stream_append.field-0, refl)) e.gap e.ahead

pub returns-in-Ok-stream_append-clause-fills : goal.returns-in-Ok-stream_append-clause-fills
returns-in-Ok-stream_append-clause-fills g c = λ b room limited. absurd limited

-- ---- they were not

pub returns-in-Err-stream_append-clause-grows : goal.returns-in-Err-stream_append-clause-grows
returns-in-Err-stream_append-clause-grows g c =
    let f = g.F.Folder in
    let e = c.in-Err-stream_append.ensures in
    record {
      same_files = e.files;
      bytes = e.drafted.bytes;
      grown = e.drafted.is;
      counted = e.pulls;
      later = e.later;
      cause = told-cause Unit c.args.archive.now c.in-Err-stream_append.fault (fault_view c.told_fault.result) (f.faults c.args.folder.now) (f.faults c.stream_append.new.folder) c.told_fault.ensures e.cause;
    }

pub returns-in-Err-stream_append-clause-ends : goal.returns-in-Err-stream_append-clause-ends
returns-in-Err-stream_append-clause-ends g c = λ files told front.
    let e = c.in-Err-stream_append.ensures in
    records-failed c.full_files_have_parts.ensures.parts files (g.F.Folder.files c.args.folder.now) c.args.archive.now (header_view c.args.header.now) (lent_view c.args.new.now) told front
    c.in-Err-stream_append.fault (fault_view c.told_fault.result) c.told_fault.ensures e.limit e.undamaged e.too_long

pub returns-in-Err-stream_append-clause-keeps_up : goal.returns-in-Err-stream_append-clause-keeps_up
returns-in-Err-stream_append-clause-keeps_up g c = λ files told front.
    let f = g.F.Folder in
    let e = c.in-Err-stream_append.ensures in
    record {
      gap = gap-of c.full_files_have_parts.ensures.parts files (f.files c.args.folder.now) c.args.archive.now (header_view c.args.header.now) (lent_view c.args.new.now) told front (f.numbers c.args.folder.now) (f.numbers c.stream_append.new.folder) e.gap;
      ahead = λ none. absurd cc;
    }

pub returns-in-Err-stream_append-clause-fills : goal.returns-in-Err-stream_append-clause-fills
returns-in-Err-stream_append-clause-fills g c = λ b room limited file tree.
    let h = header_view c.args.header.now in
    let e = c.in-Err-stream_append.ensures in
    limited-merge (Overfull b h.rules (h.versions + 1) (g.F.Folder.draft c.stream_append.new.folder)) c.args.archive.now h.versions c.in-Err-stream_append.fault (fault_view c.told_fault.result) c.told_fault.ensures e.limit (e.no_room b file tree) room limited

-- ---- no memory

pub returns-in-Err-clause-grows : goal.returns-in-Err-clause-grows
returns-in-Err-clause-grows g c = grows-none _ c.args.folder.now _ (g.met.F.Folder.metered c.args.folder.now) inside-memory

pub returns-in-Err-clause-keeps_up : goal.returns-in-Err-clause-keeps_up
returns-in-Err-clause-keeps_up g c = λ files told front. record { gap = λ held a is of. omega arith; ahead = λ none. absurd cc }

pub returns-in-Err-clause-fills : goal.returns-in-Err-clause-fills
returns-in-Err-clause-fills g c = λ b room limited. absurd limited
