use Rattle.std.proofs.Common.{◌≡◌, ◌+◌, Vec, String, Global, get_or, take, subst, ap, ap₂, sym, ◌∙◌, arith}
use Rattle.std.proofs.lemmas.List.{take_all}
use Rattle.key_spec.specs.View.{names_view}
use Rattle.key_spec.proofs.Steps.{map-take}
use Rattle.csv_tables.specs.Lengths.{at_most, quoted_size, sizes, frame, rows_size}
use Rattle.csv_tables.specs.View.{rows_view, table_view}
use Rattle.csv_tables.proofs.LengthLemmas.{at_most-both, rows-more, document-length}
use Rattle.csv_tables.proofs.length.text_length.Goals as goal

pub loop-fields-preserved : goal.loop-fields-preserved
loop-fields-preserved c =
    let rows = c.args.table.now.rows.items in
    let names = names_view c.args.table.now.heading.items in
    let i = c.loop-fields.fields-index in
    let item = c.fields-item.result in
    let fields = names_view item.items in
    let done = rows_view (take i rows) in
    let start = quoted_size c.args.tag.now + 3 in
    let is : item ≡ get_or rows i item = subst (λ ts. item ≡ get_or ts i item) c.deref-fields-items.ensures.value c.fields-item.is in
    let row : c.row_frame-row.result ≡ at_most (frame names) = c.row_frame-row.ensures ∙ ap (λ ns. at_most (frame (names_view ns))) c.deref.ensures.value in
    let texts : c.texts_length.result ≡ at_most (sizes fields) = c.texts_length.ensures ∙ ap (λ ns. at_most (sizes (names_view ns))) c.deref-in-loop-fields.ensures.value in
    let one : c.sum.result ≡ at_most (frame names + sizes fields) = c.sum.ensures ∙ ap₂ (λ a b. at_most (a + b)) row texts ∙ at_most-both (frame names) (sizes fields) in
    let longer = map-take (λ (v : Vec (String Global) Global). names_view v.items) rows i item (omega arith) is in
    let more : (start + rows_size (frame names) done) + (frame names + sizes fields) ≡ start + rows_size (frame names) (rows_view (take (i + 1) rows)) =
    (let e = rows-more (frame names) done fields in let f = ap (rows_size (frame names)) longer in omega (arith, e, f)) in
    c.sum-length-in-loop-fields.ensures ∙ ap₂ (λ a b. at_most (a + b)) c.loop-fields.invariant one
    ∙ at_most-both (start + rows_size (frame names) done) (frame names + sizes fields) ∙ ap at_most more

pub returns : goal.returns
returns c =
    let names = names_view c.args.table.now.heading.items in
    c.loop-fields.invariant
    ∙ ap (λ rows. at_most ((quoted_size c.args.tag.now + 3) + rows_size (frame names) (rows_view rows))) (take_all c.loop-fields.fields-index c.args.table.now.rows.items (omega arith))
    ∙ ap at_most (sym (document-length (table_view c.args.table.now) c.args.tag.now c.requires))
