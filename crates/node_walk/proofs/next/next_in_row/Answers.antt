use Rattle.record_cursor.specs.View.{PlainCursor}
use Rattle.node_judge.specs.FrameView.{kept_label}
use Rattle.node_walk.specs.Seen.{Seen, seen}
use Rattle.node_walk.proofs.Nexts.{next-read, next-missed}
use Rattle.node_walk.proofs.Steps.{gave, missed}
use Rattle.node_walk.proofs.next.next_in_row.Given.{Over}
use Rattle.node_walk.proofs.next.next_in_row.Goals as goal

abbrev at : (g : Over) → g.row.F.Denot → PlainCursor → Seen
at g = (let f = g.F.Folder in seen f.files f.draft f.numbers f.faults)

pub returns-in-Ok : goal.returns-in-Ok
returns-in-Ok g c =
    let i = c.in-Ok in
    let s = at g c.args.folder.now c.args.cursor.now in
    let t = at g c.next.new.folder c.next.follows.lender-at-none in
    next-read (kept_label c.own.new.label) s t i.item c.requires.among (gave s t c.next.result i.item i.is i.ensures.files i.ensures.draft i.ensures.numbers i.ensures.later c.next.follows.holds-at-none i.ensures.spelled i.ensures.whole)
    c.own.result c.own.ensures.is c.own.ensures.label c.own.ensures.stamp c.own.ensures.inside c.own.ensures.damage

pub returns-in-Err : goal.returns-in-Err
returns-in-Err g c =
    let e = c.in-Err in
    let s = at g c.args.folder.now c.args.cursor.now in
    let t = at g c.next.new.folder c.next.follows.lender-at-none in
    next-missed (kept_label c.args.label.now) s t e.fault (missed s t c.next.result e.fault c.requires.within e.is e.ensures.files e.ensures.draft e.ensures.pulls e.ensures.later e.ensures.cause e.ensures.damage c.next.follows.holds-at-none)
