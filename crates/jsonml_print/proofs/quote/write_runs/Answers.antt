use Rattle.std.proofs.lemmas.Grind.{common_steps}
use Rattle.std.proofs.Common.{[], subst, rules, arith, sym, ◌∙◌, append-nil}
use Rattle.xa_outside.specs.Taken.{Takes}
use Rattle.xa_outside.proofs.Output.{Takes-trans}
use Rattle.json.specs.Print.{escape}
use Rattle.xa_outside.proofs.Output.{TakesPrefix-after, Puts-cut}
use Rattle.jsonml_print.proofs.Escapes.{escape-at, escape-more, length-slice-at}
use Rattle.xa_outside.proofs.Output.{Takes-nil}
use Rattle.jsonml_print.proofs.quote.write_runs.Goals as goal

pub returns-in_err-done-clause-bytes : goal.returns-in_err-done-clause-bytes
returns-in_err-done-clause-bytes g c =
    let a = g.K.Sink.taken c.args.sink.now in
    let b = g.K.Sink.taken c.loop-done.sink in
    let d = g.K.Sink.taken c.write_run.new.sink in
    Puts-cut a d c.from_residual.result (escape c.args.bytes.now) _ [] (escape-at c.args.bytes.now c.loop-done.done ∙ sym (append-nil _)) c.from_residual.ensures.0
    (TakesPrefix-after a b d _ _ c.loop-done.invariant.bytes c.in_err-done.ensures.bytes)

pub loop-done-preserved : goal.loop-done-preserved
loop-done-preserved g c =
    let old = c.loop-done.invariant in
    record {
      within = omega (arith, c.in_ok-done.ensures.within, length-slice-at c.args.bytes.now c.loop-done.done);
      bytes = subst (Takes (g.K.Sink.taken c.args.sink.now) (g.K.Sink.taken c.write_run.new.sink)) (escape-more c.args.bytes.now c.loop-done.done c.in_ok-done.field-0 old.within)
          (Takes-trans (g.K.Sink.taken c.args.sink.now) (g.K.Sink.taken c.loop-done.sink) (g.K.Sink.taken c.write_run.new.sink) _ _ old.bytes c.in_ok-done.ensures.bytes);
      later = search rules;
    }

pub loop-done-init : goal.loop-done-init
loop-done-init g c = record { within = search rules; bytes = Takes-nil _; later = search rules }

pub returns-clause-bytes : goal.returns-clause-bytes
returns-clause-bytes g c = grind (arith, common_steps)

pub returns-clause-cause : goal.returns-clause-cause
returns-clause-cause g c = grind (arith, common_steps)
