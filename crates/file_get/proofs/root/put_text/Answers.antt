use Rattle.std.proofs.Common.{Ok, Err}
use Rattle.jsonml_print.specs.Pen.{fresh}
use Rattle.file_get.specs.Told.{fault_of}
use Rattle.file_get.specs.State.{state}
use Rattle.file_get.specs.Roots.{TextPut}
use Rattle.file_get.specs.declared.fault.GetFault.TheVariants.{Out}
use Rattle.content_print.proofs.Handed.{at-err}
use Rattle.file_get.proofs.Texts.{text-unprinted, text-printed}
use Rattle.file_get.proofs.root.put_text.Goals as goal

pub returns-in_err-print_root : goal.returns-in_err-print_root
returns-in_err-print_root g c =
    let f = g.F.Folder in
    let k = g.K.Sink in
    let a = c.args in
    let e = c.in_err-print_root in
    let s = state f.files f.draft f.numbers f.faults k.taken k.faults a.folder.now a.sink.now fresh a.steps.now in
    let u = state f.files f.draft f.numbers f.faults k.taken k.faults c.print_root.new.folder c.print_root.new.sink fresh c.print_root.new.steps in
    at-err c.from_residual.result e.field-0.0 c.from_residual.ensures.1 (λ r. TextPut a.ask.now.version a.ask.now.name.now a.size a.first s u (fault_of r))
    (text-unprinted f.files f.draft f.numbers f.faults k.taken k.faults a.ask.now.version a.ask.now.name.now a.size a.first a.folder.now c.print_root.new.folder a.sink.now c.print_root.new.sink c.new-printer.result c.print_root.new.printer a.steps.now c.print_root.new.steps e.field-0.0 c.new-printer.ensures e.ensures)

pub returns-in_err-put_all : goal.returns-in_err-put_all
returns-in_err-put_all g c =
    let f = g.F.Folder in
    let k = g.K.Sink in
    let a = c.args in
    let e = c.in_err-put_all in
    let out = e.ensures in
    let r = c.from_residual-in_err-put_all in
    let s = state f.files f.draft f.numbers f.faults k.taken k.faults a.folder.now a.sink.now fresh a.steps.now in
    let u = state f.files f.draft f.numbers f.faults k.taken k.faults c.print_root.new.folder c.put_all.new.sink fresh c.print_root.new.steps in
    at-err r.result Out r.ensures.1 (λ r. TextPut a.ask.now.version a.ask.now.name.now a.size a.first s u (fault_of r))
    (text-printed f.files f.draft f.numbers f.faults k.taken k.faults a.ask.now.version a.ask.now.name.now a.size a.first a.folder.now c.print_root.new.folder a.sink.now c.print_root.new.sink c.put_all.new.sink c.new-printer.result c.print_root.new.printer a.steps.now c.print_root.new.steps (Err e.field-0.0)
    c.new-printer.ensures (g.met.F.Folder.metered c.print_root.new.folder) c.in_ok-print_root.ensures out.bytes out.cause)

pub returns : goal.returns
returns g c =
    let f = g.F.Folder in
    let k = g.K.Sink in
    let a = c.args in
    let e = c.in_ok-put_all in
    let out = e.ensures in
    text-printed f.files f.draft f.numbers f.faults k.taken k.faults a.ask.now.version a.ask.now.name.now a.size a.first a.folder.now c.print_root.new.folder a.sink.now c.print_root.new.sink c.put_all.new.sink c.new-printer.result c.print_root.new.printer a.steps.now c.print_root.new.steps (Ok e.field-0)
    c.new-printer.ensures (g.met.F.Folder.metered c.print_root.new.folder) c.in_ok-print_root.ensures out.bytes out.cause
