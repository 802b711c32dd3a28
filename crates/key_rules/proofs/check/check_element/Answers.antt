use Rattle.std.proofs.Common.{sym}
use Rattle.jsonml_tree.specs.LentView.{lent_content_view}
use Rattle.key_spec.specs.ContextView.{context_path, context_rules}
use Rattle.key_spec.specs.View.{rule_view}
use Rattle.key_rules.specs.View.{label_fault_view}
use Rattle.key_rules.proofs.CheckLemmas.{faulty-check, labelled-check, unkeyed-check}
use Rattle.key_rules.proofs.check.check_element.Goals as goal

pub returns-in_default : goal.returns-in_default
returns-in_default c = unkeyed-check (context_rules c.args.context) (context_path c.args.context) c.args.tag.now (lent_content_view c.args.content) (sym c.in_default.ensures.rule)

pub returns-in-Ok : goal.returns-in-Ok
returns-in-Ok c =
    labelled-check (context_rules c.args.context) (context_path c.args.context) c.args.tag.now (lent_content_view c.args.content) (rule_view c.in-Some.rule.now) c.in-Ok.label
    (sym c.in-Some.ensures.rule) c.in-Ok.ensures.label

pub returns-in-Err : goal.returns-in-Err
returns-in-Err c =
    faulty-check (context_rules c.args.context) (context_path c.args.context) c.args.tag.now (lent_content_view c.args.content) (rule_view c.in-Some.rule.now) (label_fault_view c.in-Err.fault) c.check_fault.result
    (sym c.in-Some.ensures.rule) c.in-Err.ensures.fault c.check_fault.ensures
