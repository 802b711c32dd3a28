use Rattle.std.proofs.Common.{ap, sym, ◌∙◌}
use Rattle.jsonml_tree.specs.LentView.{lent_content_view}
use Rattle.key_spec.specs.ContextView.{context_path, context_rules}
use Rattle.key_spec.specs.View.{rule_view}
use Rattle.key_rules.specs.Labels.{label_by}
use Rattle.key_rules.specs.Satisfies.{ok_of}
use Rattle.key_rules.proofs.LentLemmas.{label_in-rule}
use Rattle.key_rules.proofs.label.lent_label.Goals as goal

pub returns-in_default-clause-label : goal.returns-in_default-clause-label
returns-in_default-clause-label c = ap (λ o. ok_of (label_by o c.args.tag.now (lent_content_view c.args.content))) c.in_default.ensures.rule

pub returns-in-Ok-clause-label : goal.returns-in-Ok-clause-label
returns-in-Ok-clause-label c =
    let is = label_in-rule (context_rules c.args.context) (context_path c.args.context) c.args.tag.now (lent_content_view c.args.content) (rule_view c.in-Some.rule.now) (sym c.in-Some.ensures.rule) in
    sym (ap ok_of (is ∙ c.in-Ok.ensures.label))

pub returns-in-Ok-clause-below : goal.returns-in-Ok-clause-below
returns-in-Ok-clause-below c = (c.in-Some.ensures.inside, c.in-Some.ensures.path)
