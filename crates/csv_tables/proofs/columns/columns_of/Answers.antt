use Rattle.std.proofs.Common.{◌≡◌, ◌+◌, is_some, true, false, length, map, take, drop, string_bytes, refl, ap, sym, ◌∙◌, arith}
use Rattle.std.proofs.lemmas.List.{take_all, drop_all, length-map, length-take}
use Rattle.key_spec.specs.View.{names_view}
use Rattle.key_spec.proofs.Steps.{map-drop, map-take}
use Rattle.csv_tables.specs.Columns.{column_view, columns_of}
use Rattle.csv_tables.specs.Records.{has_field, repeats}
use Rattle.csv_tables.specs.declared.column.Column.{Column}
use Rattle.csv_tables.proofs.ColumnLemmas.{put-column, found, repeats-new, repeats-old}
use Rattle.csv_tables.proofs.columns.columns_of.Goals as goal

pub loop-at-init : goal.loop-at-init
loop-at-init c = (ap (map column_view) c.new-columns.ensures.empty, refl)

pub loop-at-preserved : goal.loop-at-preserved
loop-at-preserved c =
    let heading = c.args.heading.now in
    let i = c.loop-at.at in
    let item = c.index-heading-at.result in
    let column : Column = record { name = c.as_str.result; at = i } in
    let names = names_view (take i heading) in
    let more = names_view (drop (i + 1) heading) in
    let is : c.as_str.result.now ≡ string_bytes item = c.as_str.ensures.value in
    let there = found c.loop-at.columns.keys column names c.loop-at.invariant.0 in
    let fresh : has_field names (string_bytes item) ≡ false =
    ap (has_field names) (sym is) ∙ sym there ∙ sym (ap (λ o. is_some o) c.in_ok-replace.ensures.old) ∙ sym c.is_some.ensures ∙ c.if-is_some.false in
    let longer = map-take string_bytes heading i item (omega arith) c.index-heading-at.is in
    let many : i ≡ length names = (let a = length-map (take i heading) string_bytes in let b = length-take i heading in omega arith) in (
      put-column c.loop-at.columns.keys c.replace.new.self.keys column names (string_bytes item) c.loop-at.invariant.0 c.in_ok-replace.ensures.keys is many ∙ ap columns_of (sym longer),
      c.loop-at.invariant.1 ∙ ap (repeats names) (map-drop string_bytes heading i item (omega arith) c.index-heading-at.is) ∙ repeats-new names more (string_bytes item) fresh ∙ ap (λ e. repeats e more) (sym longer),
    )

pub returns-then-is_some-clause-none : goal.returns-then-is_some-clause-none
returns-then-is_some-clause-none c =
    let heading = c.args.heading.now in
    let i = c.loop-at.at in
    let item = c.index-heading-at.result in
    let column : Column = record { name = c.as_str.result; at = i } in
    let names = names_view (take i heading) in
    let more = names_view (drop (i + 1) heading) in
    let is : c.as_str.result.now ≡ string_bytes item = c.as_str.ensures.value in
    let there = found c.loop-at.columns.keys column names c.loop-at.invariant.0 in
    let known : has_field names (string_bytes item) ≡ true =
    ap (has_field names) (sym is) ∙ sym there ∙ sym (ap (λ o. is_some o) c.in_ok-replace.ensures.old) ∙ sym c.is_some.ensures ∙ c.if-is_some.true in
    c.loop-at.invariant.1 ∙ ap (repeats names) (map-drop string_bytes heading i item (omega arith) c.index-heading-at.is) ∙ repeats-old names more (string_bytes item) known

pub returns-clause-columns : goal.returns-clause-columns
returns-clause-columns c =
    c.in_ok-in_order.ensures ∙ c.loop-at.invariant.0 ∙ ap (λ xs. columns_of (names_view xs)) (take_all c.loop-at.at c.args.heading.now (omega arith))

pub returns-clause-different : goal.returns-clause-different
returns-clause-different c =
    c.loop-at.invariant.1 ∙ ap (λ xs. repeats (names_view (take c.loop-at.at c.args.heading.now)) (names_view xs)) (drop_all c.loop-at.at c.args.heading.now (omega arith))
