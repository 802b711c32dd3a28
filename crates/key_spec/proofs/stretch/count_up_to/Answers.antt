use Rattle.std.proofs.Common.{◌≡◌, rules, of_calls}
use Rattle.std.proofs.lemmas.Fn.{always_returns_same}
use Rattle.std.specs.Ordering.{is_le}
use Rattle.key_spec.specs.Rules.{path_cmp, is_up_to}
use Rattle.key_spec.specs.RuleView.{rule_view, names_view}
use Rattle.key_spec.specs.declared.rule.Rule.{Rule}
use Rattle.key_spec.proofs.AtContext.{parted-up_to, front-length}
use Rattle.key_spec.proofs.stretch.count_up_to.Goals as goal

pub returns-clause-count : goal.returns-clause-count
returns-clause-count c =
    let path = names_view c.args.path.now in
    let all = c.args.rules.now in
    let by = always_returns_same _ (λ a r. r ≡ is_le (path_cmp (rule_view a.0.now).context path)) _ (λ a r f k. search (rules, of_calls)) in
    let point = c.partition_point.ensures.partitioned (λ (r : Rule). is_le (path_cmp (rule_view r).context path)) by (parted-up_to rule_view all path c.requires) in
    front-length rule_view (is_up_to path) all c.partition_point.result c.partition_point.ensures.bound point
