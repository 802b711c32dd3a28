use Rattle.xarch_copies.proofs.Cutting.{makes-cut, makes-uncut, makes-unnoted}
use Rattle.xarch_copies.proofs.cut.make_archive.Goals as goal

pub returns-in_err-append_records : goal.returns-in_err-append_records
returns-in_err-append_records g c = makes-uncut c.args.archive.now c.args.new.now c.args.front.now c.args.first c.args.last c.args.folder.now c.append_records.new.folder c.from_residual.result c.in_err-append_records.field-0.0 c.from_residual.ensures.1 c.in_err-append_records.ensures

pub returns-in_err-append_notes : goal.returns-in_err-append_notes
returns-in_err-append_notes g c =
    let r = c.from_residual-in_err-append_notes in
    makes-unnoted c.args.archive.now c.args.new.now c.args.front.now c.args.first c.args.last c.args.folder.now c.append_records.new.folder c.in_ok-append_records.ensures c.append_notes.new.folder r.result c.in_err-append_notes.field-0.0 r.ensures.1 c.in_err-append_notes.ensures

pub returns : goal.returns
returns g c =
    makes-cut c.args.archive.now c.args.new.now c.args.front.now c.args.first c.args.last c.args.folder.now c.append_records.new.folder c.in_ok-append_records.ensures c.append_notes.new.folder c.in_ok-append_notes.ensures c.commit.new.folder c.commit.result
    (g.met.F.Folder.metered c.append_notes.new.folder) c.commit.ensures.writes c.commit.ensures.caused c.commit.ensures.committed c.commit.ensures.fault

pub append_records-requires-clause-header : goal.append_records-requires-clause-header
append_records-requires-clause-header g c = c.args.front.now.heads

pub append_notes-requires-clause-room : goal.append_notes-requires-clause-room
append_notes-requires-clause-room g c = c.args.front.now.room
