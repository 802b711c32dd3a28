use Rattle.std.proofs.Common.{◌≡◌, ℕ, List, Result, Ok, Err, subst}
use Rattle.jsonml_tree.specs.declared.limits.TheConstants.{GREATEST_DEPTH}
use Rattle.key_spec.specs.Data.{PlainRule}
use Rattle.key_spec.specs.View.{spec_view}
use Rattle.version_set.specs.View.{pairs_of}
use Rattle.record_cursor.specs.View.{PlainCursor}
use Rattle.record_cursor.specs.declared.fault.CursorFault.{CursorFault}
use Rattle.node_judge.specs.FrameView.{frame_view}
use Rattle.node_judge.specs.Rows.{PlainFrame, root_frame}
use Rattle.row_ends.specs.Kids.{PlainKids}
use Rattle.row_ends.specs.KidsView.{kids_view}
use Rattle.node_walk.specs.Seen.{Seen, seen}
use Rattle.node_walk.specs.Walked.{RowJudged, RootJudged}
use Rattle.node_walk.proofs.Roots.{root-failed, root-judged, root-refused}
use Rattle.node_walk.proofs.Steps.{at-err}
use Rattle.node_walk.proofs.root.judge_root.Given.{Over}
use Rattle.node_walk.proofs.root.judge_root.Goals as goal

abbrev at : (g : Over) → g.row.F.Denot → PlainCursor → Seen
at g = (let f = g.F.Folder in seen f.files f.draft f.numbers f.faults)

-- what was judged is the row of the root
of-root : (rules : List PlainRule) (set : List (ℕ × ℕ)) (f : PlainFrame) (kids : PlainKids) (s t : Seen) (r : Result ℕ CursorFault) → f ≡ root_frame rules set GREATEST_DEPTH → RowJudged f kids s t r → RowJudged (root_frame rules set GREATEST_DEPTH) kids s t r
of-root rules set f kids s t r is h = subst (λ (x : PlainFrame). RowJudged x kids s t r) is h

pub returns-in_err-length : goal.returns-in_err-length
returns-in_err-length g c =
    let rules = spec_view c.args.spec.now in
    let set = pairs_of c.args.set.now in
    let s = at g c.args.folder.now c.args.cursor.now in
    let t = at g c.judge_row.new.folder c.judge_row.new.cursor in
    let e = c.in_err-length in
    let kids = kids_view c.judge_row.new.kids in
    at-err c.from_residual.result e.field-0.0 c.from_residual.ensures.1 (λ q. RootJudged rules set s t q)
    (root-failed rules set c.requires.set s t kids e.field-0.0 (of-root rules set (frame_view c.root-frame.result) kids s t (Err e.field-0.0) c.root-frame.ensures e.ensures))

pub returns-then-divide : goal.returns-then-divide
returns-then-divide g c =
    let rules = spec_view c.args.spec.now in
    let set = pairs_of c.args.set.now in
    let s = at g c.args.folder.now c.args.cursor.now in
    let t = at g c.judge_row.new.folder c.judge_row.new.cursor in
    let o = c.in_ok-length in
    let kids = kids_view c.judge_row.new.kids in
    root-judged rules set c.requires.set s t kids o.length (of-root rules set (frame_view c.root-frame.result) kids s t (Ok o.length) c.root-frame.ensures o.ensures) c.in_ok-pairs.field-0.items c.in_ok-pairs.ensures c.divide.result c.divide.ensures c.if-divide.true

pub returns : goal.returns
returns g c =
    let rules = spec_view c.args.spec.now in
    let set = pairs_of c.args.set.now in
    let s = at g c.args.folder.now c.args.cursor.now in
    let t = at g c.judge_row.new.folder c.judge_row.new.cursor in
    let o = c.in_ok-length in
    let kids = kids_view c.judge_row.new.kids in
    root-refused rules set c.requires.set s t kids o.length (of-root rules set (frame_view c.root-frame.result) kids s t (Ok o.length) c.root-frame.ensures o.ensures) c.in_ok-pairs.field-0.items c.in_ok-pairs.ensures c.divide.result c.divide.ensures c.if-divide.false
