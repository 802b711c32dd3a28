use Rattle.std.proofs.Common.{◌≡◌, [], ◌∷◌, ◌++◌, Option, Ok, rules, subst}
use Rattle.std.specs.Result.{result_map_both}
use Rattle.record_copy.specs.Reads.{AlternativeRead}
use Rattle.record_copy.specs.State.{State, beside}
use Rattle.record_copy.specs.declared.parts.Alternative.{Alternative}
use Rattle.record_copy.proofs.Passing.{at-err, nobody}
use Rattle.record_cursor.specs.View.{PlainCursor}
use Rattle.record_writer.specs.Data.{PlainWriter}
use Rattle.archive_join.specs.Leaves.{AlternativesRead}
use Rattle.archive_join.proofs.Alternating.{read-start, read-more, read-ended, read-fault, read-memory, nearer}
use Rattle.archive_join.proofs.alternatives.read_alternatives.Given.{Over}
use Rattle.archive_join.proofs.alternatives.read_alternatives.Goals as goal

abbrev at : (g : Over) → g.row.F.Denot → PlainCursor → PlainWriter → State
at g = (let f = g.F.Folder in beside f.files f.draft f.numbers f.faults)

pub loop-all-init : goal.loop-all-init
loop-all-init g c w =
    read-start c.args.raise.now.by (at g c.args.folder.now c.args.cursor.now w) c.new-all.result.items c.new-all.ensures.items (g.met.F.Folder.metered c.args.folder.now) c.requires.within

pub returns-in_err-alternative : goal.returns-in_err-alternative
returns-in_err-alternative g c w =
    let l = c.loop-all in
    let n = c.args.raise.now.by in
    let e = c.in_err-alternative in
    let r = at g c.args.folder.now c.args.cursor.now w in
    let s = at g l.folder l.cursor w in
    let t = at g c.read_alternative.new.folder c.read_alternative.new.cursor w in
    at-err c.from_residual.result e.field-0.0 c.from_residual.ensures.1 (λ z. AlternativesRead n r t (result_map_both (λ v. v.items) (λ d. d) z)) (read-fault n r s t l.all.items (l.invariant w) e.field-0.0 (e.ensures w))

pub returns-then-is_err : goal.returns-then-is_err
returns-then-is_err g c w =
    let l = c.loop-all in
    let n = c.args.raise.now.by in
    let r = at g c.args.folder.now c.args.cursor.now w in
    let s = at g l.folder l.cursor w in
    let t = at g c.read_alternative.new.folder c.read_alternative.new.cursor w in
    let read = subst (λ (o : Option Alternative). AlternativeRead n s t (Ok o)) c.in-Some.is (c.in_ok-alternative.ensures w) in
    read-memory n r s t l.all.items (l.invariant w) c.in-Some.alternative (g.met.F.Folder.metered c.read_alternative.new.folder) read

pub loop-all-smaller : goal.loop-all-smaller
loop-all-smaller g c =
    let l = c.loop-all in
    let within = (l.invariant nobody).passes.within in
    nearer c.args.raise.now.by (at g l.folder l.cursor nobody) (at g c.read_alternative.new.folder c.read_alternative.new.cursor nobody) c.in_ok-alternative.field-0 within (c.in_ok-alternative.ensures nobody)

pub read_alternative-requires : goal.read_alternative-requires
read_alternative-requires g c = record { within = (let l = c.loop-all in (l.invariant nobody).passes.within) }

pub loop-all-preserved : goal.loop-all-preserved
loop-all-preserved g c w =
    let l = c.loop-all in
    let n = c.args.raise.now.by in
    let r = at g c.args.folder.now c.args.cursor.now w in
    let s = at g l.folder l.cursor w in
    let t = at g c.read_alternative.new.folder c.read_alternative.new.cursor w in
    let read = subst (λ (o : Option Alternative). AlternativeRead n s t (Ok o)) c.in-Some.is (c.in_ok-alternative.ensures w) in
    let more : c.push.new.self.items ≡ l.all.items ++ c.in-Some.alternative ∷ [] = search rules in
    read-more n r s t l.all.items (l.invariant w) c.in-Some.alternative c.push.new.self.items more read

pub returns : goal.returns
returns g c w =
    let l = c.loop-all in
    let n = c.args.raise.now.by in
    let r = at g c.args.folder.now c.args.cursor.now w in
    let s = at g l.folder l.cursor w in
    let t = at g c.read_alternative.new.folder c.read_alternative.new.cursor w in
    let read = subst (λ (o : Option Alternative). AlternativeRead n s t (Ok o)) c.in_default.is (c.in_ok-alternative.ensures w) in
    read-ended n r s t l.all.items (l.invariant w) read
