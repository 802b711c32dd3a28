use Rattle.std.proofs.Common.{ℕ, ◌-◌, Bool, Ok, Err, sym, ap, subst, ◌∙◌, arith}
use Rattle.version_set.specs.View.{pairs_of}
use Rattle.record_cursor.specs.View.{PlainCursor}
use Rattle.row_ends.specs.KidsView.{kids_view}
use Rattle.node_judge.specs.FrameView.{frame_view}
use Rattle.node_walk.specs.Seen.{Seen, seen}
use Rattle.node_walk.specs.Walked.{EndJudged}
use Rattle.node_walk.proofs.EndLaws.{unmet, judged, verdict}
use Rattle.node_walk.proofs.ends.judge_end.Given.{Over}
use Rattle.node_walk.proofs.ends.judge_end.Goals as goal

abbrev at : (g : Over) → g.row.F.Denot → PlainCursor → Seen
at g = (let f = g.F.Folder in seen f.files f.draft f.numbers f.faults)

pub returns-then-not-is_met : goal.returns-then-not-is_met
returns-then-not-is_met g c =
    unmet (frame_view c.args.frame.now) (kids_view c.args.kids.now) c.args.length (at g c.args.folder.now c.args.cursor.now) (omega (arith, c.at.ensures)) (sym c.if-not-is_met.true ∙ c.is_met.ensures) (g.met.F.Folder.metered c.args.folder.now)

pub returns-in-Ok-true : goal.returns-in-Ok-true
returns-in-Ok-true g c =
    let r = c.requires in
    let e = c.in-Ok-true.ensures in
    let f = frame_view c.args.frame.now in
    let s = at g c.args.folder.now c.args.cursor.now in
    let t = at g c.is_end.new.folder c.args.cursor.now in
    let n = c.args.length in
    subst (λ (b : Bool). EndJudged f (kids_view c.args.kids.now) n s t (verdict (Ok b))) c.in-Ok-true.field-0-test
    (judged f (kids_view c.args.kids.now) n s (omega (arith, c.at.ensures)) (c.at.result - n) c.args.name.now t r.named (ap (λ (m : ℕ). m - n) c.at.ensures) r.fits r.within (sym c.if-not-is_met.false ∙ c.is_met.ensures) (pairs_of c.set.result.now) c.set.ensures
    (Ok c.in-Ok-true.field-0) e.reads.same_files e.reads.same_draft e.reads.later e.reads.cause e.pulls e.told)

pub returns-in-Ok-false : goal.returns-in-Ok-false
returns-in-Ok-false g c =
    let r = c.requires in
    let e = c.in-Ok-false.ensures in
    let f = frame_view c.args.frame.now in
    let s = at g c.args.folder.now c.args.cursor.now in
    let t = at g c.is_end.new.folder c.args.cursor.now in
    let n = c.args.length in
    subst (λ (b : Bool). EndJudged f (kids_view c.args.kids.now) n s t (verdict (Ok b))) c.in-Ok-false.field-0-test
    (judged f (kids_view c.args.kids.now) n s (omega (arith, c.at.ensures)) (c.at.result - n) c.args.name.now t r.named (ap (λ (m : ℕ). m - n) c.at.ensures) r.fits r.within (sym c.if-not-is_met.false ∙ c.is_met.ensures) (pairs_of c.set.result.now) c.set.ensures
    (Ok c.in-Ok-false.field-0) e.reads.same_files e.reads.same_draft e.reads.later e.reads.cause e.pulls e.told)

pub returns-in-Err : goal.returns-in-Err
returns-in-Err g c =
    let r = c.requires in
    let e = c.in-Err.ensures in
    let f = frame_view c.args.frame.now in
    let s = at g c.args.folder.now c.args.cursor.now in
    let t = at g c.is_end.new.folder c.args.cursor.now in
    let n = c.args.length in
    (judged f (kids_view c.args.kids.now) n s (omega (arith, c.at.ensures)) (c.at.result - n) c.args.name.now t r.named (ap (λ (m : ℕ). m - n) c.at.ensures) r.fits r.within (sym c.if-not-is_met.false ∙ c.is_met.ensures) (pairs_of c.set.result.now) c.set.ensures
    (Err c.in-Err.fault) e.reads.same_files e.reads.same_draft e.reads.later e.reads.cause e.pulls e.told)
