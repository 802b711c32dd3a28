use Rattle.std.proofs.Common.{◌≡◌, map, ◌∙◌, rules, of_calls}
use Rattle.std.proofs.lemmas.Fn.{always_returns_same}
use Rattle.key_spec.specs.Rules.{path_cmp}
use Rattle.key_spec.specs.RuleView.{rule_view, names_view}
use Rattle.key_spec.specs.declared.rule.Rule.{Rule}
use Rattle.key_spec.proofs.SearchLemmas.{kept-sorted, context-search}
use Rattle.key_spec.proofs.spec.Spec.is_frontier.Goals as goal

pub returns : goal.returns
returns c =
    let path = names_view c.args.path.now in
    let by = always_returns_same _ (λ a r. r ≡ path_cmp (rule_view a.0.now).context path) _ (λ a r f k. search (rules, of_calls)) in
    let items = c.args.self.now.rules.items in
    c.is_err.ensures.value ∙ context-search rule_view items c.deref-2.result.now c.deref-2.ensures.value (kept-sorted (map rule_view items) c.args.self.now.closed) path c.binary_search_by.result
    c.binary_search_by.ensures.bound (c.binary_search_by.ensures.position (λ (r : Rule). path_cmp (rule_view r).context path) by)
