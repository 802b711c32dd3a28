use Rattle.std.proofs.Common.{◌≡◌, ap, ◌∙◌}
use Rattle.version_set.specs.View.{pairs_of}
use Rattle.record_cursor.specs.Places.{behind_root, closed_by}
use Rattle.record_cursor.specs.View.{PlainCursor, header_view}
use Rattle.record_cursor.specs.declared.fault.CursorFault.TheVariants.{Memory}
use Rattle.archive_tree.specs.Data.{PlainNodes}
use Rattle.node_walk.specs.Nodes.{FolderSeen, folder_seen, NodesJudged, archive_with}
use Rattle.node_walk.specs.Places.{depth_of}
use Rattle.node_walk.specs.Seen.{Seen, seen}
use Rattle.node_walk.proofs.NodeLaws.{nodes-memory, nodes-failed, nodes-judged}
use Rattle.node_walk.proofs.Steps.{at-err}
use Rattle.node_walk.proofs.file.judge_nodes.Given.{Over}
use Rattle.node_walk.proofs.file.judge_nodes.Goals as goal

abbrev at : (g : Over) → g.row.F.Denot → PlainCursor → Seen
at g = (let f = g.F.Folder in seen f.files f.draft f.numbers f.faults)

abbrev of : (g : Over) → g.row.F.Denot → FolderSeen
of g = (let f = g.F.Folder in folder_seen f.files f.draft f.numbers f.faults)

pub returns-in_err-cursor : goal.returns-in_err-cursor
returns-in_err-cursor g c =
    let h = header_view c.args.header.now in
    let s = of g c.args.folder.now in
    at-err c.from_residual.result Memory c.from_residual.ensures.1 (λ r. NodesJudged c.args.name.now h s s r) (nodes-memory c.args.name.now h s (g.met.F.Folder.metered c.args.folder.now))

pub returns-in_err-room : goal.returns-in_err-room
returns-in_err-room g c =
    let h = header_view c.args.header.now in
    let s = of g c.args.folder.now in
    let r = c.from_residual-in_err-room in
    at-err r.result Memory r.ensures.1 (λ q. NodesJudged c.args.name.now h s s q) (nodes-memory c.args.name.now h s (g.met.F.Folder.metered c.args.folder.now))

pub returns-in_err-judge_root : goal.returns-in_err-judge_root
returns-in_err-judge_root g c =
    let h = header_view c.args.header.now in
    let s = at g c.args.folder.now c.in_ok-cursor.cursor in
    let u = at g c.judge_root.new.folder c.judge_root.new.cursor in
    let e = c.in_err-judge_root in
    let r = c.from_residual-in_err-judge_root in
    at-err r.result e.field-0.0 r.ensures.1 (λ q. NodesJudged c.args.name.now h (of g c.args.folder.now) (of g c.judge_root.new.folder) q)
    (nodes-failed c.args.name.now h s c.in_ok-cursor.ensures (pairs_of c.upto-set.result) c.upto-set.ensures.pairs c.upto-set.ensures.members (λ (ks : PlainNodes). c.rows_are_right_kid_by_kid.ensures.archive h.rules (archive_with h ks)) u e.field-0.0 e.ensures)

pub returns : goal.returns
returns g c =
    let h = header_view c.args.header.now in
    let s = at g c.args.folder.now c.in_ok-cursor.cursor in
    let t = at g c.judge_root.new.folder c.judge_root.new.cursor in
    let u = at g c.read_finish.new.folder c.read_finish.new.cursor in
    let o = c.in_ok-judge_root in
    let n = o.field-0 in
    let place : t.cursor.standing ≡ behind_root n = o.ensures.behind ∙ ap (λ (x : PlainCursor). closed_by n (depth_of x.standing)) c.in_ok-cursor.ensures in
    nodes-judged c.args.name.now h s c.in_ok-cursor.ensures (pairs_of c.upto-set.result) c.upto-set.ensures.pairs c.upto-set.ensures.members (λ (ks : PlainNodes). c.rows_are_right_kid_by_kid.ensures.archive h.rules (archive_with h ks)) t u n o.ensures c.read_finish.result (c.read_finish.ensures n place)
