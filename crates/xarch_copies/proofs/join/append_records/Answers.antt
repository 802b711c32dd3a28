use Rattle.std.proofs.Common.{ap}
use Rattle.record_cursor.specs.View.{PlainCursor, header_view}
use Rattle.xarch_words.specs.View.{fault_view}
use Rattle.xarch_copies.proofs.Cutting.{named-cursor}
use Rattle.xarch_copies.proofs.Joining.{joins, unjoined, unjoined-memory}
use Rattle.xarch_copies.proofs.join.append_records.Goals as goal

pub returns-in_default : goal.returns-in_default
returns-in_default g c = unjoined-memory c.args.one.now (header_view c.args.first.now) c.args.two.now (header_view c.args.second.now) c.args.folder.now (g.met.F.Folder.metered c.args.folder.now)

pub returns-in_default-start : goal.returns-in_default-start
returns-in_default-start g c = unjoined-memory c.args.one.now (header_view c.args.first.now) c.args.two.now (header_view c.args.second.now) c.args.folder.now (g.met.F.Folder.metered c.args.folder.now)

pub join-requires-clause-left : goal.join-requires-clause-left
join-requires-clause-left g c = (let h = header_view c.args.first.now in named-cursor c.in-Ok.left c.args.one.now h.length h.first c.in-Ok.ensures)

pub join-requires-clause-right : goal.join-requires-clause-right
join-requires-clause-right g c = (let h = header_view c.args.second.now in named-cursor c.in-Ok-start.right c.args.two.now h.length h.first c.in-Ok-start.ensures)

pub returns-in-Ok-join : goal.returns-in-Ok-join
returns-in-Ok-join g c =
    let e = c.in-Ok-join.ensures in
    joins c.args.one.now (header_view c.args.first.now) c.args.two.now (header_view c.args.second.now) c.args.folder.now c.join.new.folder e.files e.drafted e.pulls e.later
    c.in-Ok.left.name c.in-Ok-start.right.name (ap (λ (x : PlainCursor). x.name) c.in-Ok.ensures) (ap (λ (x : PlainCursor). x.name) c.in-Ok-start.ensures) e.appended

pub returns-in-Err : goal.returns-in-Err
returns-in-Err g c =
    let e = c.in-Err.ensures in
    unjoined c.args.one.now (header_view c.args.first.now) c.args.two.now (header_view c.args.second.now) c.args.folder.now c.join.new.folder e.files e.drafted e.pulls e.later
    Unit c.in-Ok.left.name c.in-Ok-start.right.name (ap (λ (x : PlainCursor). x.name) c.in-Ok.ensures) (ap (λ (x : PlainCursor). x.name) c.in-Ok-start.ensures)
    c.in-Err.fault (fault_view c.told_fault.result) c.told_fault.ensures e.cause e.first_undamaged e.second_undamaged e.too_long e.no_room
