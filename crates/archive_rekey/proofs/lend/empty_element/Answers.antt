use Rattle.std.proofs.Common.{◌∙◌, [], map, ap, sym}
use Rattle.jsonml_tree.specs.Data.{element, no_trees}
use Rattle.jsonml_tree.specs.LentAttrs.{lent_attr_view}
use Rattle.jsonml_tree.specs.LentView.{lent_tree_view}
use Rattle.jsonml_tree.proofs.LentTrees.{lent_tree_view-Elem}
use Rattle.archive_rekey.proofs.LentRows.{row_of}
use Rattle.archive_rekey.proofs.lend.empty_element.Goals as goal

pub returns : goal.returns
returns c =
    let row = row_of _ [] no_trees (sym (ap (map lent_attr_view) c.new.ensures.items)) (sym (ap (map lent_tree_view) c.new-2.ensures.items)) in
    lent_tree_view-Elem _ _ ∙ ap (element c.args.tag.now) row
