use Rattle.std.proofs.lemmas.Grind.{common_steps}
use Rattle.std.proofs.Common.{◌≡◌, sym, ap, ◌∙◌, Some, option_map, subst, map, true, arith}
use Rattle.std.specs.List.{list_all}
use Rattle.key_spec.specs.Names.{is_named_path}
use Rattle.key_spec.specs.Form.{line_rule}
use Rattle.key_spec.specs.View.{path_view, rule_view}
use Rattle.key_spec.proofs.RuleLaws.{line_rule-paths}
use Rattle.key_spec.proofs.given.read_line.Goals as goal

pub paths_why-requires : goal.paths_why-requires
paths_why-requires c =
    let gives : line_rule c.args.line.now ≡ Some (rule_view c.in-Some.rule) = sym c.in_ok-rule.ensures ∙ ap (option_map rule_view) c.in-Some.is in
    subst (λ xs. list_all is_named_path (map path_view xs) ≡ true) (sym c.deref.ensures.value) (line_rule-paths c.args.line.now (rule_view c.in-Some.rule) gives)

pub returns-clause-rule : goal.returns-clause-rule
returns-clause-rule c = grind (arith, common_steps)

pub returns-clause-none : goal.returns-clause-none
returns-clause-none c = grind (arith, common_steps)

pub returns-in-Some-2-clause-fault : goal.returns-in-Some-2-clause-fault
returns-in-Some-2-clause-fault c = grind (arith, common_steps)
