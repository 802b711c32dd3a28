use Rattle.xarch_copies.specs.Slicing.{Skips, Stops}
use Rattle.xarch_copies.proofs.Making.{at-err}
use Rattle.xarch_copies.proofs.Slicing.{note-due, skips-next, skips-none, stops-unread}
use Rattle.xarch_copies.proofs.slice.skip_notes.Goals as goal

pub loop-init : goal.loop-init
loop-init g c = skips-none c.args.folder.now c.args.reader.now (g.met.F.Folder.metered c.args.folder.now)

pub loop-preserved : goal.loop-preserved
loop-preserved g c =
    let h = c.loop.invariant in
    let n = c.in_ok-next.ensures in
    let more = c.loop-test.true in
    skips-next c.notes_come_one_by_one.ensures.note c.args.folder.now c.loop.folder c.next.new.folder c.args.reader.now c.loop.reader c.loop.counter h c.in_ok-next.field-0 c.next.new.self
    (note-due (g.F.Folder.files c.args.folder.now) c.args.reader.now c.loop.reader h.notes h.gives c.loop.counter c.args.count h.many more c.requires) n.after n.told n.files n.draft n.later n.numbers n.pulls

pub returns-in_err-next : goal.returns-in_err-next
returns-in_err-next g c =
    let f = g.F.Folder in
    let h = c.loop.invariant in
    let n = c.in_err-next.ensures in
    at-err c.from_residual.result c.in_err-next.field-0.0 (λ _. Skips f.files f.draft f.numbers f.faults c.args.folder.now c.next.new.folder c.args.reader.now c.next.new.self c.args.count) (λ e. Stops f.files f.draft f.numbers f.faults c.args.folder.now c.next.new.folder c.args.reader.now e) c.from_residual.ensures.1
    (stops-unread c.notes_come_one_by_one.ensures.damage c.args.folder.now c.loop.folder c.next.new.folder c.args.reader.now c.loop.reader h.notes c.in_err-next.field-0.0 h.gives h.extends n.told n.files n.draft n.later n.cause n.pulls)
