use Rattle.std.proofs.Common.{◌-◌, List, ℕ, sym, ap, subst}
use Rattle.record_cursor.specs.View.{header_view, PlainCursor}
use Rattle.xarch_words.specs.View.{fault_view}
use Rattle.archive_cut.specs.Cut.{Appended}
use Rattle.xarch_copies.specs.Cutting.{IsToldAs, Uncut}
use Rattle.xarch_copies.proofs.Cutting.{lengthened, named-cursor, uncut, uncut-memory}
use Rattle.xarch_copies.proofs.cut.append_records.Goals as goal

pub cut-requires-clause-cursor : goal.cut-requires-clause-cursor
cut-requires-clause-cursor g c = (let h = header_view c.args.header.now in named-cursor c.in-Ok.cursor c.args.archive.now h.length h.first c.in-Ok.ensures)

pub returns-in-Ok-cut : goal.returns-in-Ok-cut
returns-in-Ok-cut g c =
    let f = g.F.Folder in
    let h = header_view c.args.header.now in
    let e = c.in-Ok-cut.ensures in
    let named = ap (λ (x : PlainCursor). x.name) c.in-Ok.ensures in
    record {
      extends = lengthened (h.length - h.first) c.args.folder.now c.cut.new.folder e.files e.drafted e.pulls e.later;
      appended = subst (λ (n : List ℕ). Appended h n c.args.first c.args.last (f.files c.args.folder.now) (f.draft c.args.folder.now) (f.draft c.cut.new.folder)) named e.appended;
    }

pub returns-in-Err-cut : goal.returns-in-Err-cut
returns-in-Err-cut g c =
    let f = g.F.Folder in
    let h = header_view c.args.header.now in
    let e = c.in-Err-cut.ensures in
    let v = fault_view c.told_fault.result in
    let named = ap (λ (x : PlainCursor). x.name) c.in-Ok.ensures in
    subst (λ (n : List ℕ). Uncut f.files f.draft f.numbers f.faults n h c.args.first c.args.last c.args.folder.now c.cut.new.folder v) named
    (uncut Unit c.args.folder.now c.cut.new.folder c.in-Ok.cursor.name h c.args.first c.args.last c.in-Err-cut.fault v (subst (λ (n : List ℕ). IsToldAs n c.in-Err-cut.fault v) (sym named) c.told_fault.ensures)
    (lengthened (h.length - h.first) c.args.folder.now c.cut.new.folder e.files e.drafted e.pulls e.later) e.cause e.undamaged e.too_long e.no_room)

pub returns-in-Err : goal.returns-in-Err
returns-in-Err g c = uncut-memory c.args.folder.now c.args.archive.now (header_view c.args.header.now) c.args.first c.args.last (g.met.F.Folder.metered c.args.folder.now)
