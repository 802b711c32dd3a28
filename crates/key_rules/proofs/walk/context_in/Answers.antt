use Rattle.std.proofs.Common.{◌≡◌, ap, ◌∙◌, sym}
use Rattle.std.specs.Cow.{cow_str_bytes}
use Rattle.jsonml_tree.specs.Data.{element}
use Rattle.jsonml_tree.specs.LentView.{lent_row_view, lent_tree_view, only_text}
use Rattle.jsonml_tree.proofs.LentTrees.{lent_tree_view-Leaf, lent_tree_view-Elem}
use Rattle.key_spec.specs.ContextView.{context_path, context_rules}
use Rattle.key_rules.specs.Faults.{tree_fault}
use Rattle.key_rules.proofs.WalkLemmas.{in-element, no-rule}
use Rattle.key_rules.proofs.walk.context_in.Goals as goal

pub returns-in-Leaf-clause-some : goal.returns-in-Leaf-clause-some
returns-in-Leaf-clause-some c =
    let inside = only_text (cow_str_bytes c.in-Leaf.text) in
    let shape : lent_tree_view c.args.item.now ≡ element c.as_str.result.now inside =
    ap lent_tree_view c.in-Leaf.is ∙ lent_tree_view-Leaf c.in-Leaf.tag c.in-Leaf.text ∙ ap (λ t. element t inside) (sym c.as_str.ensures.value) in
    in-element c.args.context (lent_tree_view c.args.item.now) c.as_str.result.now inside c.context_below.result shape c.context_below.ensures.some

pub returns-in-Leaf-clause-none : goal.returns-in-Leaf-clause-none
returns-in-Leaf-clause-none c = λ h place.
    let inside = only_text (cow_str_bytes c.in-Leaf.text) in
    let shape : lent_tree_view c.args.item.now ≡ element c.as_str.result.now inside =
    ap lent_tree_view c.in-Leaf.is ∙ lent_tree_view-Leaf c.in-Leaf.tag c.in-Leaf.text ∙ ap (λ t. element t inside) (sym c.as_str.ensures.value) in
    ap (tree_fault (context_rules c.args.context) (context_path c.args.context) place) shape ∙ no-rule c.args.context c.as_str.result.now inside place (c.context_below.ensures.none h)

pub returns-in-Elem-clause-some : goal.returns-in-Elem-clause-some
returns-in-Elem-clause-some c =
    let inside = lent_row_view c.in-Elem.row in
    let shape : lent_tree_view c.args.item.now ≡ element c.as_str-in-Elem.result.now inside =
    ap lent_tree_view c.in-Elem.is ∙ lent_tree_view-Elem c.in-Elem.tag c.in-Elem.row ∙ ap (λ t. element t inside) (sym c.as_str-in-Elem.ensures.value) in
    in-element c.args.context (lent_tree_view c.args.item.now) c.as_str-in-Elem.result.now inside c.context_below-in-Elem.result shape c.context_below-in-Elem.ensures.some

pub returns-in-Elem-clause-none : goal.returns-in-Elem-clause-none
returns-in-Elem-clause-none c = λ h place.
    let inside = lent_row_view c.in-Elem.row in
    let shape : lent_tree_view c.args.item.now ≡ element c.as_str-in-Elem.result.now inside =
    ap lent_tree_view c.in-Elem.is ∙ lent_tree_view-Elem c.in-Elem.tag c.in-Elem.row ∙ ap (λ t. element t inside) (sym c.as_str-in-Elem.ensures.value) in
    ap (tree_fault (context_rules c.args.context) (context_path c.args.context) place) shape ∙ no-rule c.args.context c.as_str-in-Elem.result.now inside place (c.context_below-in-Elem.ensures.none h)
