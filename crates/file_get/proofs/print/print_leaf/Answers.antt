use Rattle.std.proofs.Common.{Some, ap, sym, subst}
use Rattle.file_rows.specs.View.{child_view}
use Rattle.file_get.specs.LeafBodies.{body_view}
use Rattle.file_get.specs.State.{state}
use Rattle.file_get.specs.Inside.{InsidePrinted}
use Rattle.file_get.specs.declared.fault.GetFault.{GetFault}
use Rattle.file_get.proofs.Leaves.{leaf-unread, leaf-scalar, leaf-printed, scalar-body}
use Rattle.file_get.proofs.print.print_leaf.Goals as goal

pub returns-in-Ok-Content : goal.returns-in-Ok-Content
returns-in-Ok-Content g c = λ steps leaf. (
    let f = g.F.Folder in
    let k = g.K.Sink in
    let a = c.args in
    let b = c.in-Ok-Content in
    let read = b.ensures in
    let out = c.print_content.ensures in
    leaf-printed f.files f.draft f.numbers f.faults k.taken k.faults a.ask.now.version a.ask.now.name.now (child_view a.child) a.opening.now a.depth a.folder.now c.read_body.new.folder a.sink.now c.print_content.new.sink a.printer.now c.print_content.new.printer steps
    b.bytes.now (body_view b.field-0) c.print_content.result (ap body_view b.field-0-is) leaf c.requires.depth c.requires.begun (g.met.F.Folder.metered c.read_body.new.folder) read.reads read.pulls read.told out.prints out.inside)

pub returns-in-Ok-Scalar : goal.returns-in-Ok-Scalar
returns-in-Ok-Scalar g c = λ steps leaf. (
    let f = g.F.Folder in
    let k = g.K.Sink in
    let a = c.args in
    let b = c.in-Ok-Scalar in
    let read = b.ensures in
    leaf-scalar f.files f.draft f.numbers f.faults k.taken k.faults a.ask.now.version a.ask.now.name.now (child_view a.child) a.opening.now a.depth a.folder.now c.read_body.new.folder a.sink.now a.printer.now steps
    (body_view b.field-0) leaf (scalar-body (body_view b.field-0) _ (ap body_view b.field-0-is)) read.reads read.pulls read.told)

pub returns : goal.returns
returns g c = λ steps leaf. (
    let f = g.F.Folder in
    let k = g.K.Sink in
    let a = c.args in
    let b = c.in-Err in
    let read = b.ensures in
    let s = state f.files f.draft f.numbers f.faults k.taken k.faults a.folder.now a.sink.now a.printer.now steps in
    let t = state f.files f.draft f.numbers f.faults k.taken k.faults c.read_body.new.folder a.sink.now a.printer.now steps in
    subst (λ (d : GetFault). InsidePrinted a.ask.now.version a.ask.now.name.now (child_view a.child) a.opening.now a.depth s t (Some d)) (sym c.from.ensures)
    (leaf-unread f.files f.draft f.numbers f.faults k.taken k.faults a.ask.now.version a.ask.now.name.now (child_view a.child) a.opening.now a.depth a.folder.now c.read_body.new.folder a.sink.now a.printer.now steps b.fault leaf read.reads read.pulls read.told))
