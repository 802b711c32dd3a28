use Rattle.std.proofs.Common.{◌≡◌, take, Some, None, refl, ap, sym, ◌∙◌}
use Rattle.std.specs.List.{list_all}
use Rattle.std.specs.Str.{is_utf8}
use Rattle.csv.specs.Records.{fields_of, field_at}
use Rattle.key_spec.specs.View.{names_view}
use Rattle.csv_tables.proofs.FieldLemmas.{push-text, utf8-more, not-utf8, take-all}
use Rattle.csv_tables.proofs.read.own_fields.Goals as goal

pub loop-field-init : goal.loop-field-init
loop-field-init c =
    let gives = c.into_iter-field-iterator.ensures.into_iter_gives in
    let fields = fields_of c.args.row.now in
    (gives.0, ap names_view c.in_ok-texts.ensures.items ∙ sym (ap (λ n. take n fields) gives.1), ap (λ n. list_all is_utf8 (take n fields)) gives.1)

pub loop-field-preserved : goal.loop-field-preserved
loop-field-preserved c =
    let s = rw c.in-Some.is at c.next.ensures.steps in
    let fields = fields_of c.args.row.now in
    let at = c.loop-field.field-iterator.at in
    let row = c.loop-field.invariant.0 in
    let e : field_at fields at ≡ Some c.in-Some.field.now = ap (λ r. field_at (fields_of r) at) (sym row) ∙ sym s.1 in
    let utf8 = rw c.in-Ok.is at c.from_utf8.ensures.cases in (
      ap (λ r. r.now) s.0 ∙ row,
      push-text fields at c.next.new.self.at c.in-Some.field.now c.loop-field.texts.items c.push.new.self.items c.in_ok-from_str-in-Ok.field-0 e s.2 c.loop-field.invariant.1 c.in_ok-push-in-Ok.ensures.items (c.in_ok-from_str-in-Ok.ensures.ok ∙ utf8.0),
      ap (λ n. list_all is_utf8 (take n fields)) s.2 ∙ utf8-more fields at c.in-Some.field.now e c.loop-field.invariant.2 utf8.1,
    )

pub returns-in-Err : goal.returns-in-Err
returns-in-Err c =
    let s = rw c.in-Some.is at c.next.ensures.steps in
    let fields = fields_of c.args.row.now in
    let at = c.loop-field.field-iterator.at in
    let e : field_at fields at ≡ Some c.in-Some.field.now = ap (λ r. field_at (fields_of r) at) (sym c.loop-field.invariant.0) ∙ sym s.1 in
    let utf8 = rw c.in-Err.is at c.from_utf8.ensures.cases in
    (refl, refl, not-utf8 fields at c.in-Some.field.now e utf8.0)

pub returns : goal.returns
returns c =
    let s = rw c.in-None.is at c.next.ensures.steps in
    let fields = fields_of c.args.row.now in
    let at = c.loop-field.field-iterator.at in
    let e : field_at fields at ≡ None = ap (λ r. field_at (fields_of r) at) (sym c.loop-field.invariant.0) ∙ sym s.1 in
    let whole = take-all fields at e in
    (c.loop-field.invariant.1 ∙ whole, ap (list_all is_utf8) (sym whole) ∙ c.loop-field.invariant.2)
