use Rattle.std.proofs.Common.{◌-◌, take, drop, length, subst, sym}
use Rattle.xa_outside.specs.Taken.{Puts}
use Rattle.xa_outside.proofs.Output.{Puts-after}
use Rattle.json.specs.Print.{escape}
use Rattle.jsonml_print.proofs.Escapes.{escape-at}
use Rattle.jsonml_print.proofs.quote.write_escaped.Goals as goal

pub returns-then-done-bytes-clause-bytes : goal.returns-then-done-bytes-clause-bytes
returns-then-done-bytes-clause-bytes g c =
    let a = g.K.Sink.taken c.args.sink.now in
    let b = g.K.Sink.taken c.write_run.new.sink in
    let d = g.K.Sink.taken c.write_runs.new.sink in
    let n = c.in_ok-done.done in
    let bytes = c.args.bytes.now in
    subst (Puts a d c.write_runs.result) (sym (escape-at bytes n))
    (Puts-after a b d c.write_runs.result (escape (take n bytes)) (escape (take (length bytes - n) (drop n bytes))) c.in_ok-done.ensures.bytes c.write_runs.ensures.bytes)
