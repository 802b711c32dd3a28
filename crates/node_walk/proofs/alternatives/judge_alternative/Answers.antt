use Rattle.std.proofs.Common.{ap, subst}
use Rattle.archive_tree.specs.Data.{PlainAlt}
use Rattle.record_cursor.specs.View.{PlainCursor, shown_item}
use Rattle.record_parts.specs.ShownViews.{shown_body, shown_stamp}
use Rattle.node_judge.specs.HeldView.{held_leaf, held_view}
use Rattle.node_walk.specs.Seen.{Seen, seen}
use Rattle.node_walk.specs.Walked.{Given}
use Rattle.node_walk.proofs.Leaves.{alternative-missed, alternative-held}
use Rattle.node_walk.proofs.Steps.{gave, gave-reads, gave-given, missed}
use Rattle.node_walk.proofs.alternatives.judge_alternative.Given.{Over}
use Rattle.node_walk.proofs.alternatives.judge_alternative.Goals as goal

abbrev at : (g : Over) → g.row.F.Denot → PlainCursor → Seen
at g = (let f = g.F.Folder in seen f.files f.draft f.numbers f.faults)

pub returns-in-Ok-Alt-clause-judged : goal.returns-in-Ok-Alt-clause-judged
returns-in-Ok-Alt-clause-judged g c =
    let i = c.in-Ok-Alt in
    let s = at g c.args.folder.now c.args.cursor.now in
    let t = at g c.next.new.folder c.next.follows.lender-at-none in
    let item = i.field-0 in
    let a : PlainAlt = record { stamp = shown_stamp i.stamp; body = shown_body i.body } in
    let came = gave s t c.next.result item i.is i.ensures.files i.ensures.draft i.ensures.numbers i.ensures.later c.next.follows.holds-at-none i.ensures.spelled i.ensures.whole in
    alternative-held (held_leaf c.args.held.now) (held_view c.args.held.now) (held_view c.hold.new.held) s t c.requires.inside a (gave-reads s t item came) (subst (Given s t) (ap shown_item i.field-0-is) (gave-given s t item came)) c.hold.result c.hold.ensures.held

pub returns-in-Err-clause-judged : goal.returns-in-Err-clause-judged
returns-in-Err-clause-judged g c =
    let e = c.in-Err in
    let s = at g c.args.folder.now c.args.cursor.now in
    let t = at g c.next.new.folder c.next.follows.lender-at-none in
    alternative-missed (held_leaf c.args.held.now) (held_view c.args.held.now) (held_view c.args.held.now) s t c.requires.inside e.fault
    (missed s t c.next.result e.fault c.requires.within e.is e.ensures.files e.ensures.draft e.ensures.pulls e.ensures.later e.ensures.cause e.ensures.damage c.next.follows.holds-at-none)
