use Rattle.std.proofs.Common.{◌≡◌, ◌∙◌, None, Option, arith, sym, subst}
use Rattle.xa_outside.specs.Folder.{Files}
use Rattle.xa_outside.specs.NumberLaws.{PullsAtMost-more}
use Rattle.jsonml_print.specs.Pen.{fresh}
use Rattle.record_format.specs.Fronts.{fixed}
use Rattle.record_cursor.specs.Moves.{TellsFront}
use Rattle.record_cursor.proofs.Fills.{no-damage}
use Rattle.file_get.specs.Told.{fault_of, of_cursor}
use Rattle.file_get.specs.State.{state}
use Rattle.file_get.specs.Written.{Written}
use Rattle.content_print.proofs.Handed.{at-err}
use Rattle.file_get.proofs.Gets.{both-few, both-inside, reads-both, unread, missing, written}
use Rattle.file_get.proofs.version.write_version.Goals as goal

pub returns-in_err-fixed : goal.returns-in_err-fixed
returns-in_err-fixed g c =
    let f = g.F.Folder in
    let k = g.O.Sink in
    let a = c.args in
    let e = c.in_err-fixed in
    let got = e.ensures in
    let s = state f.files f.draft f.numbers f.faults k.taken k.faults a.folder.now a.out.now fresh a.steps.now in
    let u = state f.files f.draft f.numbers f.faults k.taken k.faults c.read_fixed.new.folder a.out.now fresh a.steps.now in
    at-err c.from_residual.result (of_cursor e.field-0.0) c.from_residual.ensures.1 (λ r. Written a.ask.version a.ask.name.now a.size s u (fault_of r))
    (unread f.files f.draft f.numbers f.faults k.taken k.faults a.ask.version a.ask.name.now a.size a.folder.now c.read_fixed.new.folder a.out.now a.steps.now e.field-0.0 got.reads
    (PullsAtMost-more 14 22 (f.numbers a.folder.now) (f.numbers c.read_fixed.new.folder) (omega arith) got.pulls) got.inside got.told)

-- the header counts no such version, and the last byte was not read
pub returns-in_err-judge_missing : goal.returns-in_err-judge_missing
returns-in_err-judge_missing g c =
    let f = g.F.Folder in
    let k = g.O.Sink in
    let a = c.args in
    let got = c.in_ok-fixed.ensures in
    let e = c.in_err-judge_missing in
    let last = e.ensures in
    let r = c.from_residual-in_err-judge_missing in
    let old = a.folder.now in
    let read = c.read_fixed.new.folder in
    let now = c.judge_missing.new.folder in
    let s = state f.files f.draft f.numbers f.faults k.taken k.faults old a.out.now fresh a.steps.now in
    let u = state f.files f.draft f.numbers f.faults k.taken k.faults now a.out.now fresh a.steps.now in
    at-err r.result (of_cursor e.field-0.0) r.ensures.1 (λ r. Written a.ask.version a.ask.name.now a.size s u (fault_of r))
    (unread f.files f.draft f.numbers f.faults k.taken k.faults a.ask.version a.ask.name.now a.size old now a.out.now a.steps.now e.field-0.0
    (reads-both f.files f.draft f.numbers f.faults k.taken k.faults a.ask.version a.ask.name.now a.size old read now _ got.reads last.reads)
    (both-few f.files f.draft f.numbers f.faults k.taken k.faults a.ask.version a.ask.name.now a.size old read now got.pulls last.pulls)
    (both-inside f.files f.draft f.numbers f.faults k.taken k.faults a.ask.version a.ask.name.now a.size old read now c.in_ok-fixed.fixed.first got.within got.pulls last.inside)
    (λ bytes tells. no-damage e.field-0.0 (fixed bytes ≡ None) (last.whole bytes (subst (λ (t : Option Files). TellsFront t a.ask.name.now a.size bytes) (sym got.reads.same_files) tells))))

-- the header counts no such version, and the last byte was read
pub returns-then-ask-lt1 : goal.returns-then-ask-lt1
returns-then-ask-lt1 g c =
    let f = g.F.Folder in
    let k = g.O.Sink in
    let a = c.args in
    let o = c.in_ok-fixed in
    let got = o.ensures in
    let last = c.in_ok-judge_missing.ensures in
    let old = a.folder.now in
    let read = c.read_fixed.new.folder in
    let now = c.judge_missing.new.folder in
    missing f.files f.draft f.numbers f.faults k.taken k.faults a.ask.version a.ask.name.now a.size old now a.out.now a.steps.now o.fixed.versions
    (reads-both f.files f.draft f.numbers f.faults k.taken k.faults a.ask.version a.ask.name.now a.size old read now None got.reads last.reads)
    (both-few f.files f.draft f.numbers f.faults k.taken k.faults a.ask.version a.ask.name.now a.size old read now got.pulls last.pulls)
    (both-inside f.files f.draft f.numbers f.faults k.taken k.faults a.ask.version a.ask.name.now a.size old read now o.fixed.first got.within got.pulls last.inside)
    (λ fs there few. last.short fs (got.reads.same_files ∙ there) few) got.told
    (λ v. (let least = v.0 in let most = v.1 in omega (arith, least, most, c.then-ask-lt1.either)))

pub returns : goal.returns
returns g c =
    let f = g.F.Folder in
    let k = g.O.Sink in
    let a = c.args in
    let o = c.in_ok-fixed in
    let got = o.ensures in
    let first = o.fixed.first in
    let least = got.within.0 in
    written f.files f.draft f.numbers f.faults k.taken k.faults a.ask.version a.ask.name.now a.size a.folder.now c.read_fixed.new.folder c.put_version.new.folder a.out.now c.put_version.new.out a.steps.now c.put_version.new.steps o.fixed.versions first (fault_of c.put_version.result)
    got.reads got.pulls got.within (PullsAtMost-more 14 first (f.numbers a.folder.now) (f.numbers c.read_fixed.new.folder) (omega (arith, least)) got.pulls) got.told got.text
    (omega (arith, c.if-ask-lt1.false), omega (arith, c.if-fixed-ask.false)) c.put_version.ensures
