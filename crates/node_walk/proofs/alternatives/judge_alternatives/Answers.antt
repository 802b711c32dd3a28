use Rattle.std.proofs.Common.{◌≡◌, [], List, Result, Ok, Err, sym, subst, ◌∙◌}
use Rattle.archive_tree.specs.Data.{PlainAlt}
use Rattle.archive_tree.specs.PartsTest.{are_alts_well}
use Rattle.record_cursor.specs.declared.fault.CursorFault.{CursorFault}
use Rattle.version_set.specs.Members.{members}
use Rattle.record_cursor.specs.View.{PlainCursor}
use Rattle.node_judge.specs.FrameView.{leaf_view}
use Rattle.node_judge.specs.HeldView.{held_view}
use Rattle.node_judge.specs.Holding.{Holds}
use Rattle.node_judge.specs.Rows.{PlainLeaf}
use Rattle.node_walk.specs.Seen.{Seen, seen}
use Rattle.node_walk.specs.Walked.{AlternativeJudged, AlternativesJudged}
use Rattle.node_walk.proofs.Leaves.{alternatives-start, alternatives-on, alternatives-closed, alternatives-failed}
use Rattle.node_walk.proofs.Steps.{at-err}
use Rattle.node_walk.proofs.alternatives.judge_alternatives.Given.{Over}
use Rattle.node_walk.proofs.alternatives.judge_alternatives.Goals as goal

abbrev at : (g : Over) → g.row.F.Denot → PlainCursor → Seen
at g = (let f = g.F.Folder in seen f.files f.draft f.numbers f.faults)

pub loop-held-init : goal.loop-held-init
loop-held-init g c =
    let s = at g c.args.folder.now c.args.cursor.now in
    let h = c.of-held.result in
    record {
      leaf = c.of-held.ensures.leaf;
      on = alternatives-start (leaf_view c.args.leaf) s (held_view h) c.requires.within c.requires.inside (subst (λ (x : PlainLeaf). Holds (members x.set) [] (held_view h)) c.of-held.ensures.leaf c.of-held.ensures.holds);
    }

pub loop-held-preserved : goal.loop-held-preserved
loop-held-preserved g c =
    let l = c.loop-held in
    let h = leaf_view c.args.leaf in
    let s0 = at g c.args.folder.now c.args.cursor.now in
    let s = at g l.folder l.cursor in
    let t = at g c.judge_alternative.new.folder c.judge_alternative.new.cursor in
    let old = held_view l.held in
    let new = held_view c.judge_alternative.new.held in
    let o = c.in_ok-judge_alternative in
    let same = l.invariant.leaf in
    record {
      leaf = o.ensures.leaf ∙ same;
      on = alternatives-on h s0 s t old new l.invariant.on o.field-0 c.if-not-branch.false (subst (λ (x : PlainLeaf). AlternativeJudged x old new s t (Ok o.field-0)) same o.ensures.judged);
    }

pub returns-then-not-branch : goal.returns-then-not-branch
returns-then-not-branch g c =
    let l = c.loop-held in
    let h = leaf_view c.args.leaf in
    let s0 = at g c.args.folder.now c.args.cursor.now in
    let s = at g l.folder l.cursor in
    let t = at g c.judge_alternative.new.folder c.judge_alternative.new.cursor in
    let old = held_view l.held in
    let new = held_view c.judge_alternative.new.held in
    let o = c.in_ok-judge_alternative in
    let same = l.invariant.leaf in
    let right = c.close.result in
    subst (λ (r : Result (Unit {0}) CursorFault). AlternativesJudged h s0 t r) (sym c.or_damage.ensures)
    (alternatives-closed h s0 s t old new l.invariant.on o.field-0 c.if-not-branch.true (subst (λ (x : PlainLeaf). AlternativeJudged x old new s t (Ok o.field-0)) same o.ensures.judged) right
    (subst (λ (x : PlainLeaf). (xs : List PlainAlt) → Holds (members x.set) xs new → right ≡ are_alts_well (members x.set) xs) (o.ensures.leaf ∙ same) c.close.ensures))

pub returns-in_err-judge_alternative : goal.returns-in_err-judge_alternative
returns-in_err-judge_alternative g c =
    let l = c.loop-held in
    let h = leaf_view c.args.leaf in
    let s0 = at g c.args.folder.now c.args.cursor.now in
    let s = at g l.folder l.cursor in
    let t = at g c.judge_alternative.new.folder c.judge_alternative.new.cursor in
    let old = held_view l.held in
    let new = held_view c.judge_alternative.new.held in
    let e = c.in_err-judge_alternative in
    let same = l.invariant.leaf in
    at-err c.from_residual.result e.field-0.0 c.from_residual.ensures.1 (λ r. AlternativesJudged h s0 t r)
    (alternatives-failed h s0 s t old new l.invariant.on e.field-0.0 (subst (λ (x : PlainLeaf). AlternativeJudged x old new s t (Err e.field-0.0)) same e.ensures.judged))
