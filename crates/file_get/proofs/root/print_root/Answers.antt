use Rattle.std.proofs.Common.{◌≤◌, true, false, Ok, Err, subst}
use Rattle.file_rows.specs.View.{row_view}
use Rattle.file_get.specs.Told.{fault_of, of_cursor}
use Rattle.file_get.specs.State.{state}
use Rattle.file_get.specs.Printed.{RowPrinted}
use Rattle.file_get.specs.Roots.{RootPrinted}
use Rattle.content_print.proofs.Handed.{at-err}
use Rattle.file_get.proofs.Roots.{root-unread, root-printed}
use Rattle.file_get.proofs.root.print_root.Goals as goal

pub returns-in_err-row : goal.returns-in_err-row
returns-in_err-row g c =
    let f = g.F.Folder in
    let k = g.K.Sink in
    let a = c.args in
    let e = c.in_err-row in
    let got = e.ensures in
    let s = state f.files f.draft f.numbers f.faults k.taken k.faults a.folder.now a.sink.now a.printer.now a.steps.now in
    let u = state f.files f.draft f.numbers f.faults k.taken k.faults c.root_row.new.folder a.sink.now a.printer.now a.steps.now in
    at-err c.from_residual.result (of_cursor e.field-0.0) c.from_residual.ensures.1 (λ r. RootPrinted a.ask.now.version a.ask.now.name.now a.size a.first s u (fault_of r))
    (root-unread f.files f.draft f.numbers f.faults k.taken k.faults a.ask.now.version a.ask.now.name.now a.size a.first a.folder.now c.root_row.new.folder a.sink.now a.printer.now a.steps.now e.field-0.0 got.reads got.pulls got.inside got.told)

pub returns-in_err-has_element : goal.returns-in_err-has_element
returns-in_err-has_element g c =
    let f = g.F.Folder in
    let k = g.K.Sink in
    let a = c.args in
    let o = c.in_ok-row in
    let got = o.ensures in
    let e = c.in_err-has_element in
    let r = c.from_residual-in_err-has_element in
    let s = state f.files f.draft f.numbers f.faults k.taken k.faults a.folder.now a.sink.now a.printer.now a.steps.now in
    let u = state f.files f.draft f.numbers f.faults k.taken k.faults c.print_row.new.folder c.print_row.new.sink c.print_row.new.printer c.print_row.new.steps in
    at-err r.result e.field-0.0 r.ensures.1 (λ r. RootPrinted a.ask.now.version a.ask.now.name.now a.size a.first s u (fault_of r))
    (root-printed f.files f.draft f.numbers f.faults k.taken k.faults a.ask.now.version a.ask.now.name.now a.size a.first a.folder.now c.root_row.new.folder a.sink.now a.printer.now a.steps.now (row_view o.row) u (Err e.field-0.0)
    got.within.0 got.within.1 (subst (λ n. n ≤ o.row.end) got.within.0 o.row.ordered) got.reads got.short got.pulls got.told e.ensures)

pub returns-then-has_element : goal.returns-then-has_element
returns-then-has_element g c =
    let f = g.F.Folder in
    let k = g.K.Sink in
    let a = c.args in
    let o = c.in_ok-row in
    let got = o.ensures in
    let e = c.in_ok-has_element in
    let u = state f.files f.draft f.numbers f.faults k.taken k.faults c.print_row.new.folder c.print_row.new.sink c.print_row.new.printer c.print_row.new.steps in
    root-printed f.files f.draft f.numbers f.faults k.taken k.faults a.ask.now.version a.ask.now.name.now a.size a.first a.folder.now c.root_row.new.folder a.sink.now a.printer.now a.steps.now (row_view o.row) u (Ok true)
    got.within.0 got.within.1 (subst (λ n. n ≤ o.row.end) got.within.0 o.row.ordered) got.reads got.short got.pulls got.told
    (subst (λ b. RowPrinted a.ask.now.version a.ask.now.name.now (row_view o.row) 0 (state f.files f.draft f.numbers f.faults k.taken k.faults c.root_row.new.folder a.sink.now a.printer.now a.steps.now) u (Ok b)) c.if-has_element.true e.ensures)

pub returns : goal.returns
returns g c =
    let f = g.F.Folder in
    let k = g.K.Sink in
    let a = c.args in
    let o = c.in_ok-row in
    let got = o.ensures in
    let e = c.in_ok-has_element in
    let u = state f.files f.draft f.numbers f.faults k.taken k.faults c.print_row.new.folder c.print_row.new.sink c.print_row.new.printer c.print_row.new.steps in
    root-printed f.files f.draft f.numbers f.faults k.taken k.faults a.ask.now.version a.ask.now.name.now a.size a.first a.folder.now c.root_row.new.folder a.sink.now a.printer.now a.steps.now (row_view o.row) u (Ok false)
    got.within.0 got.within.1 (subst (λ n. n ≤ o.row.end) got.within.0 o.row.ordered) got.reads got.short got.pulls got.told
    (subst (λ b. RowPrinted a.ask.now.version a.ask.now.name.now (row_view o.row) 0 (state f.files f.draft f.numbers f.faults k.taken k.faults c.root_row.new.folder a.sink.now a.printer.now a.steps.now) u (Ok b)) c.if-has_element.false e.ensures)
