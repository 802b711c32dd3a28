use Rattle.std.proofs.Common.{◌≡◌, Ok, IfOk, IfErr, subst}
use Rattle.jsonml_tree.specs.Data.{PlainTree}
use Rattle.jsonml_tree.specs.View.{tree_view}
use Rattle.keyed_tree.specs.View.{label_view}
use Rattle.key_spec.specs.View.{names_view, spec_view}
use Rattle.key_rules.specs.Labels.{tree_label}
use Rattle.key_rules.specs.View.{IsLabelFault}
use Rattle.key_rules.proofs.Labelled.{tree_label-all}
use Rattle.key_rules.proofs.label.label_of.Goals as goal

pub returns-clause-label : goal.returns-clause-label
returns-clause-label c =
    let rules' = spec_view c.args.spec.now in
    let context = names_view c.args.context.now in
    subst (λ (t : PlainTree). IfOk c.copy_label.result (λ l. tree_label rules' context t ≡ Ok (label_view l))) c.in_ok-lent.ensures c.copy_label.ensures.label

pub returns-clause-fault : goal.returns-clause-fault
returns-clause-fault c =
    let rules' = spec_view c.args.spec.now in
    let context = names_view c.args.context.now in
    subst (λ (t : PlainTree). IfErr c.copy_label.result (λ e. IsLabelFault e (tree_label rules' context t))) c.in_ok-lent.ensures c.copy_label.ensures.fault

pub returns-clause-well_formed : goal.returns-clause-well_formed
returns-clause-well_formed c = λ h.
    tree_label-all (spec_view c.args.spec.now) (names_view c.args.context.now) (tree_view c.args.elem.now) c.copy_label.result h (returns-clause-label c)
