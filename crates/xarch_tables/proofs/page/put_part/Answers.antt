use Rattle.std.proofs.Common.{◌≡◌, ◌++◌, map, string_bytes, sym, ap, ◌∙◌}
use Rattle.std.proofs.lemmas.Result.{on_ok_weaker}
use Rattle.jsonml_tree.specs.Data.{PlainContent, element}
use Rattle.jsonml_tree.specs.View.{tree_view}
use Rattle.jsonml_tree.proofs.Trees.{content_view-is, tree_view-Elem}
use Rattle.csv_tables.specs.View.{table_view}
use Rattle.xarch_tables.proofs.Pages.{elements, items-are, same-texts}
use Rattle.xarch_tables.proofs.page.put_part.Goals as goal

pub put_items-requires : goal.put_items-requires
put_items-requires c =
    let table = table_view c.args.part.now in
    let seen = sym (tree_view-Elem c.in-Elem.tag c.in-Elem.content ∙ ap (λ (k : PlainContent). element (string_bytes c.in-Elem.tag) k) (content_view-is c.in-Elem.content)) ∙ ap tree_view (sym c.in-Elem.is) ∙ c.in_ok-content.ensures.tree in
    let are = items-are table _ _ _ _ seen in
    elements c.deref.result.now table.heading table.rows (ap (map tree_view) c.deref.ensures.value ∙ are)

pub returns : goal.returns
returns c =
    let table = table_view c.args.part.now in
    let seen = sym (tree_view-Elem c.in-Elem.tag c.in-Elem.content ∙ ap (λ (k : PlainContent). element (string_bytes c.in-Elem.tag) k) (content_view-is c.in-Elem.content)) ∙ ap tree_view (sym c.in-Elem.is) ∙ c.in_ok-content.ensures.tree in
    let are = items-are table _ _ _ _ seen in
    let same = same-texts c.deref.result.now table.heading table.rows (ap (map tree_view) c.deref.ensures.value ∙ are) in
    on_ok_weaker c.put_items.result (λ e. e ∙ ap (λ l. c.args.page.now.bytes.items ++ l) same) c.put_items.ensures
