use Rattle.std.proofs.Common.{◌≡◌, ap, ◌∙◌}
use Rattle.archive_tree.specs.View.{stamp_view}
use Rattle.keyed_tree.specs.Data.{PlainLabel}
use Rattle.xa_fields.proofs.Fields.{some_is}
use Rattle.record_cursor.specs.View.{PlainCursor}
use Rattle.record_cursor.specs.declared.fault.CursorFault.TheVariants.{Memory}
use Rattle.record_parts.specs.ShownViews.{shown_label}
use Rattle.node_judge.specs.FrameView.{frame_view, leaf_view}
use Rattle.node_judge.specs.Rows.{leaf_opened}
use Rattle.node_walk.specs.Seen.{Seen, seen}
use Rattle.node_walk.specs.Walked.{LeafJudged}
use Rattle.node_walk.proofs.Inside.{leaf-judged, leaf-refused, leaf-memory}
use Rattle.node_walk.proofs.Steps.{at-err, reads-none}
use Rattle.node_walk.proofs.rows.judge_leaf.Given.{Over}
use Rattle.node_walk.proofs.rows.judge_leaf.Goals as goal

abbrev at : (g : Over) → g.row.F.Denot → PlainCursor → Seen
at g = (let f = g.F.Folder in seen f.files f.draft f.numbers f.faults)

pub returns-in_err-keys : goal.returns-in_err-keys
returns-in_err-keys g c = λ l is. (
    let f = frame_view c.args.frame.now in
    let a = stamp_view c.args.stamp.now in
    let s = at g c.args.folder.now c.args.cursor.now in
    at-err c.from_residual.result Memory c.from_residual.ensures.1 (λ r. LeafJudged f l a s s r) (leaf-memory f l a s (reads-none s c.requires.within (g.met.F.Folder.metered c.args.folder.now))))

pub returns-in_err-leaf : goal.returns-in_err-leaf
returns-in_err-leaf g c = λ l is. (
    let f = frame_view c.args.frame.now in
    let a = stamp_view c.args.stamp.now in
    let s = at g c.args.folder.now c.args.cursor.now in
    let r = c.from_residual-in_err-leaf in
    at-err r.result Memory r.ensures.1 (λ r. LeafJudged f l a s s r) (leaf-memory f l a s (reads-none s c.requires.within (g.met.F.Folder.metered c.args.folder.now))))

pub returns : goal.returns
returns g c = λ l is. (
    let f = frame_view c.args.frame.now in
    let a = stamp_view c.args.stamp.now in
    let s = at g c.args.folder.now c.args.cursor.now in
    let same : shown_label c.lend-label.result ≡ l = some_is _ l (c.lend-label.ensures ∙ is) in
    leaf-refused f l a s (reads-none s c.requires.within (g.met.F.Folder.metered c.args.folder.now)) (rw c.in-None.is at c.in_ok-leaf.ensures ∙ ap (λ (m : PlainLabel). leaf_opened f m a) same))

pub returns-in-Some : goal.returns-in-Some
returns-in-Some g c = λ l is. (
    let f = frame_view c.args.frame.now in
    let a = stamp_view c.args.stamp.now in
    let s = at g c.args.folder.now c.args.cursor.now in
    let t = at g c.judge_alternatives.new.folder c.judge_alternatives.new.cursor in
    let same : shown_label c.lend-label.result ≡ l = some_is _ l (c.lend-label.ensures ∙ is) in
    leaf-judged f l a s t (leaf_view c.in-Some.leaf) (rw c.in-Some.is at c.in_ok-leaf.ensures ∙ ap (λ (m : PlainLabel). leaf_opened f m a) same) c.judge_alternatives.result c.judge_alternatives.ensures)
