use Rattle.std.proofs.Common.{◌≡◌, ℕ, Bool, nat_lt, true, false, ap, Err, Ok, sym, subst, arith}
use Rattle.std.proofs.lemmas.Bool.Decides.{nat_tests}
use Rattle.jsonml_tree.specs.LentAttrs.{lent_scalar_view}
use Rattle.file_get.specs.LeafBodies.{body_view}
use Rattle.file_rows.specs.View.{child_view}
use Rattle.file_get.specs.declared.fault.GetFault.{GetFault}
use Rattle.file_get.specs.State.{state}
use Rattle.file_get.specs.Inside.{OpenedPrinted}
use Rattle.file_get.specs.declared.fault.GetFault.TheVariants.{Out}
use Rattle.content_print.proofs.Handed.{at-err}
use Rattle.file_get.proofs.Attributes.{attr-refused, attr-unread, attr-content, attr-printed-at, content-body}
use Rattle.file_get.proofs.print.print_attribute.Goals.{then-opening-via-then-opening, then-opening-via-else-opening+then-place-eq0, then-opening-via-else-opening+else-place-eq0+then-place}
use Rattle.file_get.proofs.print.print_attribute.Goals as goal

differ : (b : Bool) → b ≡ true → b ≡ false → ⊥
differ true e f = cc
differ false e f = cc

outside : (d : ℕ) → d ≡ 0 → nat_lt 0 d ≡ true → ⊥
outside d e f = absurd (grind (arith, nat_tests))

pub returns-then-opening : goal.returns-then-opening
returns-then-opening g c = λ steps. (
    let f = g.F.Folder in
    let k = g.K.Sink in
    let a = c.args in
    attr-refused f.files f.draft f.numbers f.faults k.taken k.faults a.ask.now.version a.ask.now.name.now (child_view a.child) a.opening.now a.place.depth a.name.now a.folder.now a.sink.now a.printer.now steps a.place.has_item (g.met.F.Folder.metered a.folder.now)
    c.requires.name
    (λ leaf inside first.
    elim c.then-opening.branch [
      | then-opening-via-then-opening w ↦ differ _ w.if-opening.true leaf
      | then-opening-via-else-opening+then-place-eq0 w ↦ outside a.place.depth w.if-place-eq0.true inside
      | then-opening-via-else-opening+else-place-eq0+then-place w ↦ differ _ w.if-place.true first
    ]))

pub returns-in_err-print_lent_attr-in-Ok-Scalar : goal.returns-in_err-print_lent_attr-in-Ok-Scalar
returns-in_err-print_lent_attr-in-Ok-Scalar g c = λ steps. (
    let f = g.F.Folder in
    let k = g.K.Sink in
    let a = c.args in
    let b = c.in-Ok-Scalar in
    let got = b.ensures in
    let e = c.in_err-print_lent_attr-in-Ok-Scalar in
    let out = e.ensures in
    let s = state f.files f.draft f.numbers f.faults k.taken k.faults a.folder.now a.sink.now a.printer.now steps in
    let t = state f.files f.draft f.numbers f.faults k.taken k.faults c.read_body.new.folder c.print_lent_attr.new.sink c.print_lent_attr.new.printer steps in
    at-err c.from_residual.result Out c.from_residual.ensures.1 (λ r. OpenedPrinted a.ask.now.version a.ask.now.name.now (child_view a.child) a.opening.now a.place.depth a.place.has_item s t r)
    (attr-printed-at f.files f.draft f.numbers f.faults k.taken k.faults a.ask.now.version a.ask.now.name.now (child_view a.child) a.opening.now a.place.depth a.name.now a.folder.now c.read_body.new.folder a.sink.now c.print_lent_attr.new.sink a.printer.now c.print_lent_attr.new.printer steps
    a.place.has_item c.if-place.false (lent_scalar_view b.value) (body_view b.field-0) (Err e.field-0.0) (ap body_view b.field-0-is) c.requires.name c.requires.stands (g.met.F.Folder.metered c.read_body.new.folder) got.reads got.pulls got.told out.prints out.cause))

pub returns-in-Ok-Scalar : goal.returns-in-Ok-Scalar
returns-in-Ok-Scalar g c = λ steps. (
    let f = g.F.Folder in
    let k = g.K.Sink in
    let a = c.args in
    let b = c.in-Ok-Scalar in
    let got = b.ensures in
    let e = c.in_ok-print_lent_attr-in-Ok-Scalar in
    let out = e.ensures in
    attr-printed-at f.files f.draft f.numbers f.faults k.taken k.faults a.ask.now.version a.ask.now.name.now (child_view a.child) a.opening.now a.place.depth a.name.now a.folder.now c.read_body.new.folder a.sink.now c.print_lent_attr.new.sink a.printer.now c.print_lent_attr.new.printer steps
    a.place.has_item c.if-place.false (lent_scalar_view b.value) (body_view b.field-0) (Ok e.field-0) (ap body_view b.field-0-is) c.requires.name c.requires.stands (g.met.F.Folder.metered c.read_body.new.folder) got.reads got.pulls got.told out.prints out.cause)

pub returns-in-Ok-Content : goal.returns-in-Ok-Content
returns-in-Ok-Content g c = λ steps. (
    let f = g.F.Folder in
    let k = g.K.Sink in
    let a = c.args in
    let b = c.in-Ok-Content in
    let got = b.ensures in
    attr-content f.files f.draft f.numbers f.faults k.taken k.faults a.ask.now.version a.ask.now.name.now (child_view a.child) a.opening.now a.place.depth a.name.now a.folder.now c.read_body.new.folder a.sink.now a.printer.now steps a.place.has_item
    (body_view b.field-0) c.requires.name (content-body (body_view b.field-0) _ (ap body_view b.field-0-is)) got.reads got.pulls got.told)

pub returns : goal.returns
returns g c = λ steps. (
    let f = g.F.Folder in
    let k = g.K.Sink in
    let a = c.args in
    let b = c.in-Err in
    let got = b.ensures in
    let s = state f.files f.draft f.numbers f.faults k.taken k.faults a.folder.now a.sink.now a.printer.now steps in
    let t = state f.files f.draft f.numbers f.faults k.taken k.faults c.read_body.new.folder a.sink.now a.printer.now steps in
    subst (λ (d : GetFault). OpenedPrinted a.ask.now.version a.ask.now.name.now (child_view a.child) a.opening.now a.place.depth a.place.has_item s t (Err d)) (sym c.from.ensures)
    (attr-unread f.files f.draft f.numbers f.faults k.taken k.faults a.ask.now.version a.ask.now.name.now (child_view a.child) a.opening.now a.place.depth a.name.now a.folder.now c.read_body.new.folder a.sink.now a.printer.now steps a.place.has_item b.fault
    c.requires.name got.reads got.pulls got.told))
