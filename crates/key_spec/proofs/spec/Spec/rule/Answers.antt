use Rattle.std.proofs.Common.{◌≡◌, ◌<◌, ◌≤◌, [], length, map, get_or, sym, ap, subst, ◌∙◌, arith, rules, of_calls}
use Rattle.std.proofs.lemmas.List.{length-map}
use Rattle.std.proofs.lemmas.Fn.{always_returns_same}
use Rattle.key_spec.specs.Data.{PlainRule}
use Rattle.key_spec.specs.Laws.{rule_cmp_total}
use Rattle.key_spec.specs.Rules.{rule_cmp}
use Rattle.key_spec.specs.RuleView.{rule_view, names_view}
use Rattle.key_spec.specs.declared.rule.Rule.{Rule}
use Rattle.key_spec.proofs.FewPaths.{kept-few}
use Rattle.key_spec.proofs.SearchLemmas.{kept-sorted, search-found, search-none}
use Rattle.key_spec.proofs.spec.Spec.rule.Goals as goal

pub returns-in-Ok-clause-rule : goal.returns-in-Ok-clause-rule
returns-in-Ok-clause-rule c =
    let key : PlainRule = record { context = names_view c.args.context.now; tag = c.args.tag.now; paths = [] } in
    let by = always_returns_same _ (λ a r. r ≡ rule_cmp (rule_view a.0.now) key) _ (λ a r f k. search (rules, of_calls)) in
    let items = c.args.self.now.rules.items in
    search-found rule_cmp_total rule_view items c.deref.result.now c.deref.ensures.value (kept-sorted (map rule_view items) c.args.self.now.closed) key c.in-Ok.at c.index.result.now
    c.in-Ok.ensures.bound (c.index.ensures ∙ ap (λ xs. get_or xs c.in-Ok.at c.index.result.now) (sym c.deref.ensures.value)) (c.in-Ok.ensures.position (λ (r : Rule). rule_cmp (rule_view r) key) by)

pub returns-in-Err-clause-rule : goal.returns-in-Err-clause-rule
returns-in-Err-clause-rule c =
    let key : PlainRule = record { context = names_view c.args.context.now; tag = c.args.tag.now; paths = [] } in
    let by = always_returns_same _ (λ a r. r ≡ rule_cmp (rule_view a.0.now) key) _ (λ a r f k. search (rules, of_calls)) in
    let items = c.args.self.now.rules.items in
    search-none rule_cmp_total rule_view items c.deref.result.now c.deref.ensures.value (kept-sorted (map rule_view items) c.args.self.now.closed) key c.in-Err.field-0
    (c.in-Err.ensures.position (λ (r : Rule). rule_cmp (rule_view r) key) by)

pub returns-in-Ok-clause-few_paths : goal.returns-in-Ok-clause-few_paths
returns-in-Ok-clause-few_paths c =
    let items = c.args.self.now.rules.items in
    let within : c.in-Ok.at < length items = subst (λ xs. c.in-Ok.at < length xs) c.deref.ensures.value c.in-Ok.ensures.bound in
    let few = kept-few rule_view items c.in-Ok.at c.index.result.now c.args.self.now.closed within in
    let short : length c.index.result.now.paths.items ≤ 16 = simp length-map at (subst (λ (r : Rule). length (rule_view r).paths ≤ 16) (sym c.index.ensures) few) in
    omega (arith, c.index.result.now.paths.ok.0)
