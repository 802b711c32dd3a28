use Rattle.xarch_copies.proofs.Joining.{assembles-stored, assembles-unjoined, assembles-unnoted}
use Rattle.xarch_copies.proofs.join.make_archive.Goals as goal

pub returns-in_err-append_records : goal.returns-in_err-append_records
returns-in_err-append_records g c =
    assembles-unjoined c.args.one.now c.args.two.now c.args.new.now c.args.both.now c.args.folder.now c.append_records.new.folder c.from_residual.result c.in_err-append_records.field-0.0 c.from_residual.ensures.1 c.in_err-append_records.ensures

pub returns-in_err-append_both : goal.returns-in_err-append_both
returns-in_err-append_both g c =
    let r = c.from_residual-in_err-append_both in
    assembles-unnoted c.args.one.now c.args.two.now c.args.new.now c.args.both.now c.args.folder.now c.append_records.new.folder c.in_ok-append_records.ensures c.append_both.new.folder r.result c.in_err-append_both.field-0.0 r.ensures.1 c.in_err-append_both.ensures

pub returns : goal.returns
returns g c =
    assembles-stored c.args.one.now c.args.two.now c.args.new.now c.args.both.now c.args.folder.now c.append_records.new.folder c.in_ok-append_records.ensures c.append_both.new.folder c.in_ok-append_both.ensures c.commit.new.folder c.commit.result
    (g.met.F.Folder.metered c.append_both.new.folder) c.commit.ensures.writes c.commit.ensures.caused c.commit.ensures.committed c.commit.ensures.fault

pub append_records-requires-clause-first : goal.append_records-requires-clause-first
append_records-requires-clause-first g c = c.args.both.now.one.heads

pub append_records-requires-clause-second : goal.append_records-requires-clause-second
append_records-requires-clause-second g c = c.args.both.now.two.heads
