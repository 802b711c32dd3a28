use Rattle.record_cursor.specs.View.{PlainCursor}
use Rattle.node_walk.specs.Seen.{Seen, seen}
use Rattle.node_walk.proofs.NodeLaws.{finish-failed}
use Rattle.node_walk.proofs.Steps.{missed}
use Rattle.node_walk.proofs.finish.read_finish.Given.{Over}
use Rattle.node_walk.proofs.finish.read_finish.Goals as goal

abbrev at : (g : Over) → g.row.F.Denot → PlainCursor → Seen
at g = (let f = g.F.Folder in seen f.files f.draft f.numbers f.faults)

pub returns-in-Err : goal.returns-in-Err
returns-in-Err g c = λ n stands. (
    let e = c.in-Err in
    let s = at g c.args.folder.now c.args.cursor.now in
    let t = at g c.next.new.folder c.next.follows.lender-at-none in
    finish-failed n s stands t e.fault (missed s t c.next.result e.fault c.requires e.is e.ensures.files e.ensures.draft e.ensures.pulls e.ensures.later e.ensures.cause e.ensures.damage c.next.follows.holds-at-none))
