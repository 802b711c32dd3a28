use Rattle.std.proofs.Common.{Err, sym, subst}
use Rattle.std.specs.Prelude.{⊤}
use Rattle.content_print.specs.LentPrinted.{output, whole_calls}
use Rattle.file_get.specs.Contents.{ContentPrinted}
use Rattle.file_get.specs.declared.fault.GetFault.{GetFault}
use Rattle.file_get.proofs.LentContents.{content-failed}
use Rattle.file_get.proofs.print.print_content.Goals as goal

pub returns-in-Ok-clause-prints : goal.returns-in-Ok-clause-prints
returns-in-Ok-clause-prints g c = c.in-Ok.ensures.prints

pub returns-in-Err-clause-prints : goal.returns-in-Err-clause-prints
returns-in-Err-clause-prints g c =
    let k = g.K.Sink in
    let s = output k.taken k.faults c.args.sink.now c.args.printer.now in
    let t = output k.taken k.faults c.print_lent_content.new.sink c.print_lent_content.new.printer in
    subst (λ (e : GetFault). ContentPrinted {T = ⊤} s t (whole_calls c.args.bytes.now) (Err e)) (sym c.from.ensures)
    (content-failed ⊤ ⊤ s t (whole_calls c.args.bytes.now) c.in-Err.fault c.in-Err.ensures.prints)
