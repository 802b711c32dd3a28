use Rattle.std.proofs.Common.{◌≡◌, Ok, Result, IfOk, IfErr, subst, sym}
use Rattle.jsonml_tree.specs.LentView.{lent_content_view}
use Rattle.keyed_tree.specs.Data.{PlainLabel}
use Rattle.key_spec.specs.View.{names_view, rule_view, spec_view}
use Rattle.key_rules.specs.Labels.{PlainLabelFault}
use Rattle.key_rules.specs.LentView.{lent_label_view}
use Rattle.key_rules.specs.View.{IsLabelFault}
use Rattle.key_rules.proofs.LentLemmas.{label_in-rule}
use Rattle.key_rules.proofs.label.element_label.Goals as goal

pub returns-in-Some-clause-label : goal.returns-in-Some-clause-label
returns-in-Some-clause-label c =
    let is = label_in-rule (spec_view c.args.spec.now) (names_view c.args.context.now) c.args.tag.now (lent_content_view c.args.content) (rule_view c.in-Some.rule.now) (sym c.in-Some.ensures.rule) in
    subst (λ (o : Result PlainLabel PlainLabelFault). IfOk c.rule_label.result (λ l. o ≡ Ok (lent_label_view l))) (sym is) c.rule_label.ensures.label

pub returns-in-Some-clause-fault : goal.returns-in-Some-clause-fault
returns-in-Some-clause-fault c =
    let is = label_in-rule (spec_view c.args.spec.now) (names_view c.args.context.now) c.args.tag.now (lent_content_view c.args.content) (rule_view c.in-Some.rule.now) (sym c.in-Some.ensures.rule) in
    subst (λ (o : Result PlainLabel PlainLabelFault). IfErr c.rule_label.result (λ e. IsLabelFault e o)) (sym is) c.rule_label.ensures.fault
