use Rattle.std.proofs.Common.{◌≡◌, ap, sym, subst, ◌∙◌}
use Rattle.jsonml_tree.specs.Data.{PlainTree, text}
use Rattle.jsonml_tree.specs.LentView.{lent_tree_view}
use Rattle.jsonml_tree.proofs.LentTrees.{lent_tree_view-Text}
use Rattle.key_spec.specs.ContextView.{context_path, context_rules}
use Rattle.key_rules.specs.Checks.{IsCheckOf}
use Rattle.key_rules.proofs.check.check_item.Goals as goal

pub returns-in-Text : goal.returns-in-Text
returns-in-Text c =
    let rules' = context_rules c.args.context in
    let path = context_path c.args.context in
    let shape : text c.as_str.result.now ≡ lent_tree_view c.args.item.now = ap text c.as_str.ensures.value ∙ sym (ap lent_tree_view c.in-Text.is ∙ lent_tree_view-Text c.in-Text.text) in
    subst (λ (t : PlainTree). IsCheckOf rules' path t c.check_text.result) shape (c.check_text.ensures rules' path)
