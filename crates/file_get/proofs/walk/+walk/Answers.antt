use Rattle.std.proofs.Common.{ℕ, ◌≤◌, Ok, Err, refl, subst, arith}
use Rattle.jsonml_print.specs.Pen.{Pen}
use Rattle.file_rows.specs.View.{row_view, child_view}
use Rattle.file_get.specs.Told.{fault_of, of_cursor}
use Rattle.file_get.specs.State.{State, state}
use Rattle.xa_outside.specs.Numbers.{PullsAtMost}
use Rattle.file_get.specs.Looked.{IsLook, LookIs, looked}
use Rattle.file_get.specs.Visits.{Visited, arrived}
use Rattle.file_get.specs.Printed.{RowPrinted, ChildPrinted, NodePrinted}
use Rattle.file_get.specs.Inside.{InsidePrinted, OpenedPrinted}
use Rattle.file_get.specs.declared.span.Span.{Span}
use Rattle.file_get.specs.declared.fault.GetFault.TheVariants.{Out}
use Rattle.content_print.proofs.Handed.{at-err}
use Rattle.file_get.proofs.States.{sends}
use Rattle.file_get.proofs.Elements.{element-refused, element-unbegun, element-unfilled, element-printed}
use Rattle.file_get.proofs.Inners.{inner-printed, inner-refused, never-deep, never-lost}
use Rattle.file_get.proofs.Children.{node-unopened, node-printed}
use Rattle.file_get.proofs.Placed.{child-unread, child-printed}
use Rattle.file_get.proofs.Visiting.{visit-unlooked, visit-lacks, visit-child, visit-left, visit-both}
use Rattle.file_get.proofs.Rows.{first_place, row-uncounted, row-empty, row-printed}
use Rattle.file_get.proofs.walk.+walk.Given.{Over}
use Rattle.file_get.proofs.walk.+walk.Goals as goal

-- the state of these
abbrev at : (g : Over) → g.row.F.Denot → g.row.K.Denot → Pen → ℕ → State
at g = (let f = g.F.Folder in let k = g.K.Sink in state f.files f.draft f.numbers f.faults k.taken k.faults)

pub print_child-returns-in_err-child : goal.print_child-returns-in_err-child
print_child-returns-in_err-child g t c =
    let f = g.F.Folder in
    let k = g.K.Sink in
    let a = c.args in
    let s = at g a.folder.now a.sink.now a.printer.now a.steps.now in
    let e = c.in_err-child in
    let got = e.ensures in
    let r = c.from_residual in
    let u = at g c.read_child.new.folder a.sink.now a.printer.now a.steps.now in
    at-err r.result (of_cursor e.field-0.0) r.ensures.1 (λ r. ChildPrinted a.ask.now.version a.ask.now.name.now (row_view a.row.now) a.span a.place.now s u (arrived a.place.now r))
    (child-unread f.files f.draft f.numbers f.faults k.taken k.faults a.ask.now.version a.ask.now.name.now (row_view a.row.now) a.span a.place.now a.folder.now c.read_child.new.folder a.sink.now a.printer.now a.steps.now e.field-0.0 got.reads got.pulls got.told)

pub print_child-returns-in_err-has_item : goal.print_child-returns-in_err-has_item
print_child-returns-in_err-has_item g t c =
    let f = g.F.Folder in
    let k = g.K.Sink in
    let a = c.args in
    let s = at g a.folder.now a.sink.now a.printer.now a.steps.now in
    let o = c.in_ok-child in
    let got = o.ensures in
    let child = o.child in
    let u = at g c.print_node.new.folder c.print_node.new.sink c.print_node.new.printer c.print_node.new.steps in
    let e = c.in_err-has_item in
    let r = c.from_residual-in_err-has_item in
    at-err r.result e.field-0.0 r.ensures.1 (λ r. ChildPrinted a.ask.now.version a.ask.now.name.now (row_view a.row.now) a.span a.place.now s u (arrived a.place.now r))
    (child-printed f.files f.draft f.numbers f.faults k.taken k.faults a.ask.now.version a.ask.now.name.now (row_view a.row.now) a.span a.place.now a.folder.now c.read_child.new.folder a.sink.now a.printer.now a.steps.now (child_view child) u (Err e.field-0.0) got.within.0 child.ordered got.within.1 got.reads got.pulls got.told e.ensures)

pub print_child-returns : goal.print_child-returns
print_child-returns g t c =
    let f = g.F.Folder in
    let k = g.K.Sink in
    let a = c.args in
    let s = at g a.folder.now a.sink.now a.printer.now a.steps.now in
    let o = c.in_ok-child in
    let got = o.ensures in
    let child = o.child in
    let u = at g c.print_node.new.folder c.print_node.new.sink c.print_node.new.printer c.print_node.new.steps in
    let e = c.in_ok-has_item in
    child-printed f.files f.draft f.numbers f.faults k.taken k.faults a.ask.now.version a.ask.now.name.now (row_view a.row.now) a.span a.place.now a.folder.now c.read_child.new.folder a.sink.now a.printer.now a.steps.now (child_view child) u (Ok e.has_item) got.within.0 child.ordered got.within.1 got.reads got.pulls got.told e.ensures

pub print_element-returns-then-place : goal.print_element-returns-then-place
print_element-returns-then-place g t c =
    let f = g.F.Folder in
    let k = g.K.Sink in
    let a = c.args in
    element-refused a.ask.now.version a.ask.now.name.now (child_view a.child) a.opening.now a.place.depth a.place.has_item a.text.now (at g a.folder.now a.sink.now a.printer.now a.steps.now) (g.met.F.Folder.metered a.folder.now) c.requires.1.1.1.1.1.1.1.1 c.if-place-eq0.true c.if-place.true

pub print_element-returns-in_err-begin_elem : goal.print_element-returns-in_err-begin_elem
print_element-returns-in_err-begin_elem g t c =
    let f = g.F.Folder in
    let k = g.K.Sink in
    let a = c.args in
    let s = at g a.folder.now a.sink.now a.printer.now a.steps.now in
    let b = at g a.folder.now c.begin_elem.new.sink c.begin_elem.new.self a.steps.now in
    let e = c.in_err-begin_elem in
    let out = e.ensures in
    let r = c.from_residual in
    let sent = sends f.files f.draft f.numbers f.faults k.taken k.faults a.folder.now a.sink.now c.begin_elem.new.sink a.printer.now c.begin_elem.new.self a.steps.now _ (Err e.field-0.0) (g.met.F.Folder.metered a.folder.now) out.prints out.cause in
    at-err r.result Out r.ensures.1 (λ r. OpenedPrinted a.ask.now.version a.ask.now.name.now (child_view a.child) a.opening.now a.place.depth a.place.has_item s b r)
    (element-unbegun a.ask.now.version a.ask.now.name.now (child_view a.child) a.opening.now a.place.depth a.place.has_item a.text.now s b c.requires.1.1.1.1.1.1.1.1 sent.walks sent.shows)

pub print_element-returns-in_err-print_inside : goal.print_element-returns-in_err-print_inside
print_element-returns-in_err-print_inside g t c =
    let f = g.F.Folder in
    let k = g.K.Sink in
    let a = c.args in
    let s = at g a.folder.now a.sink.now a.printer.now a.steps.now in
    let b = at g a.folder.now c.begin_elem.new.sink c.begin_elem.new.self a.steps.now in
    let ok = c.in_ok-begin_elem in
    let out = ok.ensures in
    let sent = sends f.files f.draft f.numbers f.faults k.taken k.faults a.folder.now a.sink.now c.begin_elem.new.sink a.printer.now c.begin_elem.new.self a.steps.now _ (Ok ok.field-0) (g.met.F.Folder.metered a.folder.now) out.prints out.cause in
    let u = at g c.print_inside.new.folder c.print_inside.new.sink c.print_inside.new.printer c.print_inside.new.steps in
    let e = c.in_err-print_inside in
    let r = c.from_residual-in_err-print_inside in
    at-err r.result e.field-0.0 r.ensures.1 (λ r. OpenedPrinted a.ask.now.version a.ask.now.name.now (child_view a.child) a.opening.now a.place.depth a.place.has_item s u r)
    (element-unfilled a.ask.now.version a.ask.now.name.now (child_view a.child) a.opening.now a.place.depth a.place.has_item a.text.now s b u e.field-0.0 refl c.requires.1.1.1.1.1.1.1.1 sent.walks sent.shows e.ensures)

pub print_element-returns-in_err-end_elem : goal.print_element-returns-in_err-end_elem
print_element-returns-in_err-end_elem g t c =
    let f = g.F.Folder in
    let k = g.K.Sink in
    let a = c.args in
    let s = at g a.folder.now a.sink.now a.printer.now a.steps.now in
    let b = at g a.folder.now c.begin_elem.new.sink c.begin_elem.new.self a.steps.now in
    let ok = c.in_ok-begin_elem in
    let out = ok.ensures in
    let sent = sends f.files f.draft f.numbers f.faults k.taken k.faults a.folder.now a.sink.now c.begin_elem.new.sink a.printer.now c.begin_elem.new.self a.steps.now _ (Ok ok.field-0) (g.met.F.Folder.metered a.folder.now) out.prints out.cause in
    let u = at g c.print_inside.new.folder c.print_inside.new.sink c.print_inside.new.printer c.print_inside.new.steps in
    let v = at g c.print_inside.new.folder c.end_elem.new.sink c.end_elem.new.self c.print_inside.new.steps in
    let e = c.in_err-end_elem in
    let last = e.ensures in
    let ended = sends f.files f.draft f.numbers f.faults k.taken k.faults c.print_inside.new.folder c.print_inside.new.sink c.end_elem.new.sink c.print_inside.new.printer c.end_elem.new.self c.print_inside.new.steps _ (Err e.field-0.0) (g.met.F.Folder.metered c.print_inside.new.folder) last.prints last.cause in
    let r = c.from_residual-in_err-end_elem in
    at-err r.result Out r.ensures.1 (λ r. OpenedPrinted a.ask.now.version a.ask.now.name.now (child_view a.child) a.opening.now a.place.depth a.place.has_item s v r)
    (element-printed a.ask.now.version a.ask.now.name.now (child_view a.child) a.opening.now a.place.depth a.place.has_item a.text.now s b u v (Err e.field-0.0) refl c.requires.1.1.1.1.1.1.0 c.requires.1.1.1.1.1.1.1.1 sent.walks sent.shows c.in_ok-print_inside.ensures ended.walks ended.shows last.prints)

pub print_element-returns : goal.print_element-returns
print_element-returns g t c =
    let f = g.F.Folder in
    let k = g.K.Sink in
    let a = c.args in
    let s = at g a.folder.now a.sink.now a.printer.now a.steps.now in
    let b = at g a.folder.now c.begin_elem.new.sink c.begin_elem.new.self a.steps.now in
    let ok = c.in_ok-begin_elem in
    let out = ok.ensures in
    let sent = sends f.files f.draft f.numbers f.faults k.taken k.faults a.folder.now a.sink.now c.begin_elem.new.sink a.printer.now c.begin_elem.new.self a.steps.now _ (Ok ok.field-0) (g.met.F.Folder.metered a.folder.now) out.prints out.cause in
    let u = at g c.print_inside.new.folder c.print_inside.new.sink c.print_inside.new.printer c.print_inside.new.steps in
    let v = at g c.print_inside.new.folder c.end_elem.new.sink c.end_elem.new.self c.print_inside.new.steps in
    let e = c.in_ok-end_elem in
    let last = e.ensures in
    let ended = sends f.files f.draft f.numbers f.faults k.taken k.faults c.print_inside.new.folder c.print_inside.new.sink c.end_elem.new.sink c.print_inside.new.printer c.end_elem.new.self c.print_inside.new.steps _ (Ok e.field-0) (g.met.F.Folder.metered c.print_inside.new.folder) last.prints last.cause in
    element-printed a.ask.now.version a.ask.now.name.now (child_view a.child) a.opening.now a.place.depth a.place.has_item a.text.now s b u v (Ok e.field-0) refl c.requires.1.1.1.1.1.1.0 c.requires.1.1.1.1.1.1.1.1 sent.walks sent.shows c.in_ok-print_inside.ensures ended.walks ended.shows last.prints

pub print_inside-returns-then-not-opening : goal.print_inside-returns-then-not-opening
print_inside-returns-then-not-opening g t c =
    let f = g.F.Folder in
    let k = g.K.Sink in
    let a = c.args in
    c.print_leaf.ensures a.steps.now c.if-not-opening.true

pub print_inside-returns-then-depth-ge-DEEPEST : goal.print_inside-returns-then-depth-ge-DEEPEST
print_inside-returns-then-depth-ge-DEEPEST g t c =
    let f = g.F.Folder in
    let k = g.K.Sink in
    let a = c.args in
    inner-refused a.ask.now.version a.ask.now.name.now (child_view a.child) a.opening.now a.depth (at g a.folder.now a.sink.now a.printer.now a.steps.now) (g.met.F.Folder.metered a.folder.now)
    (never-deep a.ask.now.version a.ask.now.name.now (child_view a.child) a.opening.now a.depth (f.files a.folder.now) c.if-not-opening.false c.if-depth-ge-DEEPEST.true)

pub print_inside-returns-in_err-print_row-in-Some : goal.print_inside-returns-in_err-print_row-in-Some
print_inside-returns-in_err-print_row-in-Some g t c =
    let f = g.F.Folder in
    let k = g.K.Sink in
    let a = c.args in
    let some = c.in-Some in
    let row = some.ensures in
    let e = c.in_err-print_row-in-Some in
    let r = c.from_residual in
    let s = at g a.folder.now a.sink.now a.printer.now a.steps.now in
    let u = at g c.print_row.new.folder c.print_row.new.sink c.print_row.new.printer c.print_row.new.steps in
    at-err r.result e.field-0.0 r.ensures.1 (λ r. InsidePrinted a.ask.now.version a.ask.now.name.now (child_view a.child) a.opening.now a.depth s u (fault_of r))
    (inner-printed a.ask.now.version a.ask.now.name.now (child_view a.child) a.opening.now a.depth s u (row_view some.row) (Err e.field-0.0) c.if-not-opening.false row.within.0 row.within.1 (λ bytes l st set ps x y. (row.told bytes l st set ps x y).0) e.ensures)

pub print_inside-returns-in_ok-print_row-in-Some : goal.print_inside-returns-in_ok-print_row-in-Some
print_inside-returns-in_ok-print_row-in-Some g t c =
    let f = g.F.Folder in
    let k = g.K.Sink in
    let a = c.args in
    let some = c.in-Some in
    let row = some.ensures in
    let e = c.in_ok-print_row-in-Some in
    let s = at g a.folder.now a.sink.now a.printer.now a.steps.now in
    let u = at g c.print_row.new.folder c.print_row.new.sink c.print_row.new.printer c.print_row.new.steps in
    inner-printed a.ask.now.version a.ask.now.name.now (child_view a.child) a.opening.now a.depth s u (row_view some.row) (Ok e.field-0) c.if-not-opening.false row.within.0 row.within.1 (λ bytes l st set ps x y. (row.told bytes l st set ps x y).0) e.ensures

pub print_inside-returns-in-None : goal.print_inside-returns-in-None
print_inside-returns-in-None g t c =
    let f = g.F.Folder in
    let k = g.K.Sink in
    let a = c.args in
    inner-refused a.ask.now.version a.ask.now.name.now (child_view a.child) a.opening.now a.depth (at g a.folder.now a.sink.now a.printer.now a.steps.now) (g.met.F.Folder.metered a.folder.now)
    (never-lost a.ask.now.version a.ask.now.name.now (child_view a.child) a.opening.now a.depth (f.files a.folder.now) c.if-not-opening.false (λ bytes l st set ps x y. (c.in-None.ensures.told bytes l st set ps x y).1 refl))

pub print_node-returns-in_err-opening : goal.print_node-returns-in_err-opening
print_node-returns-in_err-opening g t c =
    let f = g.F.Folder in
    let k = g.K.Sink in
    let a = c.args in
    let e = c.in_err-opening in
    let got = e.ensures in
    let r = c.from_residual in
    let s = at g a.folder.now a.sink.now a.printer.now a.steps.now in
    let t = at g c.read_opening.new.folder a.sink.now a.printer.now a.steps.now in
    at-err r.result (of_cursor e.field-0.0) r.ensures.1 (λ r. NodePrinted a.ask.now.version a.ask.now.name.now (child_view a.child) a.place.depth a.place.has_item s t r)
    (node-unopened f.files f.draft f.numbers f.faults k.taken k.faults a.ask.now.version a.ask.now.name.now (child_view a.child) a.place.depth a.place.has_item a.folder.now c.read_opening.new.folder a.sink.now a.printer.now a.steps.now e.field-0.0 got.reads got.pulls got.told)

pub print_node-returns-in-Attr : goal.print_node-returns-in-Attr
print_node-returns-in-Attr g t c =
    let f = g.F.Folder in
    let k = g.K.Sink in
    let a = c.args in
    let o = c.in_ok-opening in
    let got = o.ensures in
    let u = at g c.print_attribute.new.folder c.print_attribute.new.sink c.print_attribute.new.printer a.steps.now in
    node-printed f.files f.draft f.numbers f.faults k.taken k.faults a.ask.now.version a.ask.now.name.now (child_view a.child) a.place.depth a.place.has_item a.folder.now c.read_opening.new.folder a.sink.now a.printer.now a.steps.now o.opening u c.print_attribute.result got.within.0 got.within.1 got.reads got.numbers got.told (c.print_attribute.ensures a.steps.now)

pub print_node-returns : goal.print_node-returns
print_node-returns g t c =
    let f = g.F.Folder in
    let k = g.K.Sink in
    let a = c.args in
    let o = c.in_ok-opening in
    let got = o.ensures in
    let u = at g c.print_element.new.folder c.print_element.new.sink c.print_element.new.printer c.print_element.new.steps in
    node-printed f.files f.draft f.numbers f.faults k.taken k.faults a.ask.now.version a.ask.now.name.now (child_view a.child) a.place.depth a.place.has_item a.folder.now c.read_opening.new.folder a.sink.now a.printer.now a.steps.now o.opening u c.print_element.result got.within.0 got.within.1 got.reads got.numbers got.told c.print_element.ensures

pub print_row-returns-in_err-count : goal.print_row-returns-in_err-count
print_row-returns-in_err-count g t c =
    let f = g.F.Folder in
    let k = g.K.Sink in
    let a = c.args in
    let s = at g a.folder.now a.sink.now a.printer.now a.steps.now in
    let e = c.in_err-count in
    let got = e.ensures in
    let r = c.from_residual in
    let u = at g c.count_children.new.folder a.sink.now a.printer.now a.steps.now in
    at-err r.result (of_cursor e.field-0.0) r.ensures.1 (λ r. RowPrinted a.ask.now.version a.ask.now.name.now (row_view a.row) a.depth s u r)
    (row-uncounted f.files f.draft f.numbers f.faults k.taken k.faults a.ask.now.version a.ask.now.name.now (row_view a.row) a.depth a.folder.now c.count_children.new.folder a.sink.now a.printer.now a.steps.now e.field-0.0 a.row.ordered got.reads got.pulls got.inside got.told)

pub print_row-returns-then-count-eq0 : goal.print_row-returns-then-count-eq0
print_row-returns-then-count-eq0 g t c =
    let f = g.F.Folder in
    let k = g.K.Sink in
    let a = c.args in
    let s = at g a.folder.now a.sink.now a.printer.now a.steps.now in
    let o = c.in_ok-count in
    let got = o.ensures in
    row-empty f.files f.draft f.numbers f.faults k.taken k.faults a.ask.now.version a.ask.now.name.now (row_view a.row) a.depth a.folder.now c.count_children.new.folder a.sink.now a.printer.now a.steps.now o.count a.row.ordered c.if-count-eq0.true c.requires.stands got.reads got.pulls got.inside got.told

pub print_row-returns-in_err-visit : goal.print_row-returns-in_err-visit
print_row-returns-in_err-visit g t c =
    let f = g.F.Folder in
    let k = g.K.Sink in
    let a = c.args in
    let s = at g a.folder.now a.sink.now a.printer.now a.steps.now in
    let o = c.in_ok-count in
    let got = o.ensures in
    let some : 1 ≤ o.count = omega (arith, c.if-count-eq0.false) in
    let u = at g c.visit.new.folder c.visit.new.sink c.visit.new.printer c.visit.new.steps in
    let e = c.in_err-visit in
    let r = c.from_residual-in_err-visit in
    at-err r.result e.field-0.0 r.ensures.1 (λ r. RowPrinted a.ask.now.version a.ask.now.name.now (row_view a.row) a.depth s u r)
    (row-printed f.files f.draft f.numbers f.faults k.taken k.faults a.ask.now.version a.ask.now.name.now (row_view a.row) a.depth a.folder.now c.count_children.new.folder a.sink.now a.printer.now a.steps.now o.count u (Err e.field-0.0) a.row.ordered some got.within got.reads got.pulls got.told
    (subst (λ (x : Span). Visited a.ask.now.version a.ask.now.name.now (row_view a.row) x (first_place (row_view a.row) a.depth) (at g c.count_children.new.folder a.sink.now a.printer.now a.steps.now) u (Err e.field-0.0)) c.whole_of-span.ensures.is e.ensures))

pub print_row-returns : goal.print_row-returns
print_row-returns g t c =
    let f = g.F.Folder in
    let k = g.K.Sink in
    let a = c.args in
    let s = at g a.folder.now a.sink.now a.printer.now a.steps.now in
    let o = c.in_ok-count in
    let got = o.ensures in
    let some : 1 ≤ o.count = omega (arith, c.if-count-eq0.false) in
    let u = at g c.visit.new.folder c.visit.new.sink c.visit.new.printer c.visit.new.steps in
    let e = c.in_ok-visit in
    row-printed f.files f.draft f.numbers f.faults k.taken k.faults a.ask.now.version a.ask.now.name.now (row_view a.row) a.depth a.folder.now c.count_children.new.folder a.sink.now a.printer.now a.steps.now o.count u (Ok c.visit.new.place) a.row.ordered some got.within got.reads got.pulls got.told
    (subst (λ (x : Span). Visited a.ask.now.version a.ask.now.name.now (row_view a.row) x (first_place (row_view a.row) a.depth) (at g c.count_children.new.folder a.sink.now a.printer.now a.steps.now) u (Ok c.visit.new.place)) c.whole_of-span.ensures.is e.ensures)

pub visit-returns-in_err-look : goal.visit-returns-in_err-look
visit-returns-in_err-look g t c =
    let f = g.F.Folder in
    let k = g.K.Sink in
    let a = c.args in
    let s = at g a.folder.now a.sink.now a.printer.now a.steps.now in
    let e = c.in_err-look in
    let got = e.ensures in
    let r = c.from_residual in
    let u = at g c.look.new.folder a.sink.now a.printer.now c.look.new.steps in
    at-err r.result (of_cursor e.field-0.0) r.ensures.1 (λ r. Visited a.ask.now.version a.ask.now.name.now (row_view a.row.now) a.span a.place.now s u (arrived a.place.now r))
    (visit-unlooked f.files f.draft f.numbers f.faults k.taken k.faults a.ask.now.version a.ask.now.name.now (row_view a.row.now) a.span a.place.now a.folder.now c.look.new.folder a.sink.now a.printer.now a.steps.now c.look.new.steps e.field-0.0 c.requires.some got.steps got.reads got.pulls got.told)

pub visit-returns-in_err-visit-in-Parts : goal.visit-returns-in_err-visit-in-Parts
visit-returns-in_err-visit-in-Parts g t c =
    let f = g.F.Folder in
    let k = g.K.Sink in
    let a = c.args in
    let s = at g a.folder.now a.sink.now a.printer.now a.steps.now in
    let o = c.in_ok-look in
    let got = o.ensures in
    let two = c.in-Parts in
    let is = two.is in
    let u = at g c.visit.new.folder c.visit.new.sink c.visit.new.printer c.visit.new.steps in
    let e = c.in_err-visit-in-Parts in
    let r = c.from_residual-in_err-visit-in-Parts in
    at-err r.result e.field-0.0 r.ensures.1 (λ r. Visited a.ask.now.version a.ask.now.name.now (row_view a.row.now) a.span a.place.now s u (arrived c.visit.new.place r))
    (visit-left f.files f.draft f.numbers f.faults k.taken k.faults a.ask.now.version a.ask.now.name.now (row_view a.row.now) a.span a.place.now a.folder.now c.look.new.folder a.sink.now a.printer.now a.steps.now c.look.new.steps two.left two.right u e.field-0.0 c.requires.some (subst (IsLook a.span) is got.is) got.steps got.reads (subst (λ l. PullsAtMost (looked a.span (Ok l)) (f.numbers a.folder.now) (f.numbers c.look.new.folder)) is got.pulls)
    (λ bytes end parent front ks behind x. (let y = got.told bytes end (row_view a.row.now) parent front ks behind x in (subst (LookIs a.ask.now.version bytes (row_view a.row.now) parent front ks behind) is y.0, y.1))) e.ensures)

pub visit-returns-in-Lacks : goal.visit-returns-in-Lacks
visit-returns-in-Lacks g t c =
    let f = g.F.Folder in
    let k = g.K.Sink in
    let a = c.args in
    let s = at g a.folder.now a.sink.now a.printer.now a.steps.now in
    let o = c.in_ok-look in
    let got = o.ensures in
    let is = c.in-Lacks.is in
    visit-lacks f.files f.draft f.numbers f.faults k.taken k.faults a.ask.now.version a.ask.now.name.now (row_view a.row.now) a.span a.place.now a.folder.now c.look.new.folder a.sink.now a.printer.now a.steps.now c.look.new.steps c.requires.some c.requires.after c.requires.stands got.steps got.reads (subst (λ l. PullsAtMost (looked a.span (Ok l)) (f.numbers a.folder.now) (f.numbers c.look.new.folder)) is got.pulls)
    (λ bytes end parent front ks behind x. (let y = got.told bytes end (row_view a.row.now) parent front ks behind x in (subst (LookIs a.ask.now.version bytes (row_view a.row.now) parent front ks behind) is y.0, y.1)))

pub visit-returns-in-Child : goal.visit-returns-in-Child
visit-returns-in-Child g t c =
    let f = g.F.Folder in
    let k = g.K.Sink in
    let a = c.args in
    let s = at g a.folder.now a.sink.now a.printer.now a.steps.now in
    let o = c.in_ok-look in
    let got = o.ensures in
    let is = c.in-Child.is in
    let u = at g c.print_child.new.folder c.print_child.new.sink c.print_child.new.printer c.print_child.new.steps in
    visit-child f.files f.draft f.numbers f.faults k.taken k.faults a.ask.now.version a.ask.now.name.now (row_view a.row.now) a.span a.place.now a.folder.now c.look.new.folder a.sink.now a.printer.now a.steps.now c.look.new.steps u (arrived c.print_child.new.place c.print_child.result) (subst (IsLook a.span) is got.is) got.steps got.reads (subst (λ l. PullsAtMost (looked a.span (Ok l)) (f.numbers a.folder.now) (f.numbers c.look.new.folder)) is got.pulls)
    (λ bytes end parent front ks behind x. (let y = got.told bytes end (row_view a.row.now) parent front ks behind x in (subst (LookIs a.ask.now.version bytes (row_view a.row.now) parent front ks behind) is y.0, y.1))) c.print_child.ensures

pub visit-returns-in_ok-visit-in-Parts : goal.visit-returns-in_ok-visit-in-Parts
visit-returns-in_ok-visit-in-Parts g t c =
    let f = g.F.Folder in
    let k = g.K.Sink in
    let a = c.args in
    let s = at g a.folder.now a.sink.now a.printer.now a.steps.now in
    let o = c.in_ok-look in
    let got = o.ensures in
    let two = c.in-Parts in
    let is = two.is in
    let u = at g c.visit.new.folder c.visit.new.sink c.visit.new.printer c.visit.new.steps in
    let e = c.in_ok-visit-in-Parts in
    let v = at g c.visit-in-Parts.new.folder c.visit-in-Parts.new.sink c.visit-in-Parts.new.printer c.visit-in-Parts.new.steps in
    visit-both f.files f.draft f.numbers f.faults k.taken k.faults a.ask.now.version a.ask.now.name.now (row_view a.row.now) a.span a.place.now a.folder.now c.look.new.folder a.sink.now a.printer.now a.steps.now c.look.new.steps two.left two.right u v c.visit.new.place (arrived c.visit-in-Parts.new.place c.visit-in-Parts.result) c.requires.some (subst (IsLook a.span) is got.is) got.steps got.reads (subst (λ l. PullsAtMost (looked a.span (Ok l)) (f.numbers a.folder.now) (f.numbers c.look.new.folder)) is got.pulls)
    (λ bytes end parent front ks behind x. (let y = got.told bytes end (row_view a.row.now) parent front ks behind x in (subst (LookIs a.ask.now.version bytes (row_view a.row.now) parent front ks behind) is y.0, y.1))) e.ensures c.visit-in-Parts.ensures
