use Rattle.std.proofs.Common.{◌||◌, Bool, sym, ap, ◌∙◌}
use Rattle.record_cursor.specs.View.{PlainCursor}
use Rattle.record_writer.specs.declared.writer.Writer.{Writer}
use Rattle.record_copy.specs.State.{State, state}
use Rattle.stream_merge.proofs.Alternatives.{merging-none, merging-more, merging-nearer, alts-failed, alts-closed}
use Rattle.stream_merge.proofs.leaf.merge_alts.Given.{Over}
use Rattle.stream_merge.proofs.leaf.merge_alts.Goals as goal

abbrev at : (g : Over) → g.row.F.Denot → PlainCursor → Writer → State
at g = (let f = g.F.Folder in state f.files f.draft f.numbers f.faults)

pub loop-same-init : goal.loop-same-init
loop-same-init g c = merging-none _ _ c.requires.leaf c.requires.within

pub loop-same-smaller : goal.loop-same-smaller
loop-same-smaller g c = merging-nearer _ _ c.in_ok-same.ensures

pub loop-same-smaller-then-found : goal.loop-same-smaller-then-found
loop-same-smaller-then-found g c = merging-nearer _ _ c.in_ok-same.ensures

pub loop-same-preserved : goal.loop-same-preserved
loop-same-preserved g c = merging-more _ _ (ap (λ (z : Bool). z || c.in-Some.same) c.if-found.false) c.in-Some.is c.loop-same.invariant c.in_ok-same.ensures

pub loop-same-preserved-then-found : goal.loop-same-preserved-then-found
loop-same-preserved-then-found g c = merging-more _ _ (ap (λ (z : Bool). z || c.in-Some.same) c.if-found.true ∙ sym c.if-found.true) c.in-Some.is c.loop-same.invariant c.in_ok-same.ensures

pub returns-in_err-same : goal.returns-in_err-same
returns-in_err-same g c =
    let u = at g c.merge_alt.new.folder c.merge_alt.new.cursor c.merge_alt.new.writer in
    alts-failed _ _ {u = u} c.from_residual.result c.from_residual.ensures.1 c.loop-same.invariant c.in_err-same.ensures

pub returns : goal.returns
returns g c =
    let l = c.loop-same in
    let same = c.in_ok-same.ensures in
    let passes = same.passes in
    let t = at g l.folder l.cursor l.writer in
    let u = at g c.merge_alt.new.folder c.merge_alt.new.cursor c.merge_alt.new.writer in
    let v = at g c.close_leaf.new.folder c.merge_alt.new.cursor c.close_leaf.new.writer in
    alts-closed _ _ {t = t} {u = u} {v = v} c.in_default.is l.invariant same (c.close_leaf.ensures.sends c.merge_alt.new.cursor passes.within)
