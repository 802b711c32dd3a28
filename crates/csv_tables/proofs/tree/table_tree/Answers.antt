use Rattle.std.proofs.Common.{◌≡◌, map, ap, sym, ◌∙◌, subst, arith}
use Rattle.std.proofs.lemmas.List.{take_all}
use Rattle.std.proofs.lemmas.Result.{IfOk-weaker}
use Rattle.jsonml_tree.specs.Data.{tree_depth}
use Rattle.jsonml_tree.specs.Fits.{ItemsFit}
use Rattle.jsonml_tree.specs.View.{tree_view, attr_view}
use Rattle.jsonml_tree.specs.WellFormed.{IsWellFormed}
use Rattle.jsonml_text.specs.Texts.{AreTexts}
use Rattle.jsonml_text.proofs.OwnTexts.{tree_texts}
use Rattle.key_spec.specs.View.{names_view}
use Rattle.csv_tables.specs.Columns.{column_view, columns_of}
use Rattle.csv_tables.specs.Documents.{table_tree}
use Rattle.csv_tables.specs.View.{rows_view, table_view}
use Rattle.csv_tables.proofs.DocumentLemmas.{made, well_formed, shallow, items-fit}
use Rattle.csv_tables.proofs.RowLemmas.{row_by}
use Rattle.csv_tables.proofs.tree.table_tree.Goals as goal

pub returns-clause-tree : goal.returns-clause-tree
returns-clause-tree c =
    let table = table_view c.args.table.now in
    let all : map tree_view c.loop-row.items.items ≡ map (row_by (map column_view c.in-Some.columns.items)) table.rows =
    c.loop-row.invariant.0 ∙ ap (λ rows. map (row_by (map column_view c.in-Some.columns.items)) (rows_view rows)) (take_all c.loop-row.row-index c.args.table.now.rows.items (omega arith)) in
    let columns = rw c.in-Some.is at c.in_ok-columns.ensures.columns in
    let ordered = columns ∙ ap (λ ns. columns_of (names_view ns)) c.deref.ensures.value in
    IfOk-weaker c.element.result _ (λ t. tree_view t ≡ table_tree table c.args.tag.now)
    (λ t e. e ∙ made table c.args.tag.now (map column_view c.in-Some.columns.items) (map attr_view c.new.result.items) (map tree_view c.loop-row.items.items) c.requires ordered (ap (map attr_view) c.new.ensures.items) all)
    c.element.ensures

pub returns-clause-well_formed : goal.returns-clause-well_formed
returns-clause-well_formed c = IfOk-weaker c.element.result _ (λ t. IsWellFormed (tree_view t)) (λ t e. subst IsWellFormed (sym e) (well_formed (table_view c.args.table.now) c.args.tag.now)) (returns-clause-tree c)

pub returns-clause-shallow : goal.returns-clause-shallow
returns-clause-shallow c = IfOk-weaker c.element.result _ _ (λ t e. let deep = shallow (table_view c.args.table.now) c.args.tag.now in omega (arith, ap tree_depth e, deep)) (returns-clause-tree c)

pub returns-clause-texts : goal.returns-clause-texts
returns-clause-texts c = IfOk-weaker c.element.result _ (λ t. AreTexts (tree_view t)) (λ t e. tree_texts t) (returns-clause-tree c)

pub returns-clause-items_fit : goal.returns-clause-items_fit
returns-clause-items_fit c =
    λ few. IfOk-weaker c.element.result _ (λ t. ItemsFit (tree_view t)) (λ t e. subst ItemsFit (sym e) (items-fit (table_view c.args.table.now) c.args.tag.now few)) (returns-clause-tree c)
