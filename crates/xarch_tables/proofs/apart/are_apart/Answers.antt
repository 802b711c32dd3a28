use Rattle.std.proofs.Common.{◌≡◌, ◌<◌, [], List, String, Vec, Global, get_or, length, sym, ap, ◌∙◌, subst, arith}
use Rattle.std.proofs.lemmas.List.{get_or-map, length-map}
use Rattle.key_spec.specs.View.{names_view}
use Rattle.key_rules.proofs.Looks.{was_new}
use Rattle.csv_tables.specs.View.{rows_view, table_view}
use Rattle.xarch_tables.specs.Rows.{key_of}
use Rattle.xarch_tables.proofs.ApartLemmas.{seen-all, seen-more, seen-none}
use Rattle.xarch_tables.proofs.apart.are_apart.Goals as goal

pub loop-row-init : goal.loop-row-init
loop-row-init c = let table = table_view c.args.table.now in seen-none table.heading (names_view c.args.names.now) table.rows _

pub loop-row-preserved : goal.loop-row-preserved
loop-row-preserved c =
    let heading = names_view c.args.table.now.heading.items in
    let names = names_view c.args.names.now in
    let rows = c.args.table.now.rows.items in
    let i = c.loop-row.row-index in
    let row = c.row-item.result in
    let view = λ (r : Vec (String Global) Global). names_view r.items in
    let all = c.deref-row-items.ensures.value in
    let low : i < length rows = subst (λ (rs : List (Vec (String Global) Global)). i < length rs) all c.loop-row-test.true in
    let at : row ≡ get_or rows i row = c.row-item.is ∙ ap (λ (rs : List (Vec (String Global) Global)). get_or rs i row) all in
    let row_is : view row ≡ get_or (rows_view rows) i [] = ap view at ∙ sym (get_or-map view rows i row [] low) in
    let lent = c.deref-in-loop-row.result.now in
    let is = c.in_ok-key_of.ensures ∙ ap (λ (h : List (String Global)). key_of (names_view h) names (names_view lent)) c.deref.ensures.value ∙ ap (λ (r : List (String Global)). key_of heading names (names_view r)) c.deref-in-loop-row.ensures.value ∙ ap (key_of heading names) row_is in
    let fresh = was_new _ _ c.in_ok-insert.ensures.added c.if-not-branch.false in
    seen-more heading names (rows_view rows) i c.loop-row.seen c.insert.new.self c.in_ok-key_of.field-0 is fresh c.in_ok-insert.ensures.updates.0 c.loop-row.invariant

pub returns : goal.returns
returns c = λ done.
    let rows = c.args.table.now.rows.items in
    let many = length-map rows (λ (r : Vec (String Global) Global). names_view r.items) in
    let all = ap (λ (rs : List (Vec (String Global) Global)). length rs) c.deref-row-items.ensures.value in
    let over = c.loop-row-test.false in
    seen-all (table_view c.args.table.now) (names_view c.args.names.now) c.loop-row.row-index c.loop-row.seen (omega (arith, many, all, over)) c.loop-row.invariant
