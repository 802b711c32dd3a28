use Rattle.std.proofs.Common.{◌≤◌, ◌<◌, ◌+◌, length, ap, sym, subst, ◌∙◌, arith}
use Rattle.std.proofs.lemmas.List.{length-map}
use Rattle.std.specs.List.Sorted.{IsStrictlySortedBy}
use Rattle.key_spec.specs.Closed.{IsClosed}
use Rattle.key_spec.specs.ContextView.{context_path, context_rules}
use Rattle.key_spec.specs.RuleView.{rule_view}
use Rattle.key_spec.specs.Rules.{tag_cmp, tagged}
use Rattle.key_spec.specs.declared.rule.Rule.{Rule}
use Rattle.key_spec.proofs.AtContext.{tags-ascend}
use Rattle.key_spec.proofs.FewPaths.{kept-few}
use Rattle.key_spec.proofs.SpecLaws.{spec_closed}
use Rattle.key_spec.proofs.StretchLaws.{by-tag, cut, cut-at, cut-within, found-place, found-target, none-below, path-behind}
use Rattle.key_spec.proofs.context.Context.rule.Goals as goal

pub find_tag-requires : goal.find_tag-requires
find_tag-requires c =
    let rules' = context_rules c.args.self in
    let path = context_path c.args.self in
    let here = cut rule_view c.rules-rules.result.now rules' path c.stretch-start.result.start c.stretch-start.result.end c.rules-rules.ensures.rules c.rules-rules.ensures.ascending c.stretch-start.ensures.start c.stretch-start.ensures.end in
    subst (IsStrictlySortedBy tag_cmp) (sym here) (tags-ascend path rules' c.rules-rules.ensures.ascending)

pub returns-in_default-clause-rule : goal.returns-in_default-clause-rule
returns-in_default-clause-rule c =
    let rules' = context_rules c.args.self in
    let path = context_path c.args.self in
    let here = cut rule_view c.rules-rules.result.now rules' path c.stretch-start.result.start c.stretch-start.result.end c.rules-rules.ensures.rules c.rules-rules.ensures.ascending c.stretch-start.ensures.start c.stretch-start.ensures.end in
    c.in_default.ensures.rule ∙ ap (λ rs. tagged rs c.args.tag.now) here ∙ by-tag path rules' c.args.tag.now

pub returns-in_default-clause-none : goal.returns-in_default-clause-none
returns-in_default-clause-none c = λ _. none-below (context_rules c.args.self) (spec_closed c.args.self.spec.now) (context_path c.args.self) c.args.tag.now (sym (returns-in_default-clause-rule c))

pub returns-clause-rule : goal.returns-clause-rule
returns-clause-rule c =
    let rules' = context_rules c.args.self in
    let path = context_path c.args.self in
    let all = c.rules-rules.result.now in
    let a = c.stretch-start.result.start in
    let b = c.stretch-start.result.end in
    let here = cut rule_view all rules' path a b c.rules-rules.ensures.rules c.rules-rules.ensures.ascending c.stretch-start.ensures.start c.stretch-start.ensures.end in
    sym (cut-at rule_view all a b c.in-Some.at c.index-rules-number.result c.in-Some.ensures.within c.index-rules-number.is)
    ∙ c.in-Some.ensures.rule ∙ ap (λ rs. tagged rs c.args.tag.now) here ∙ by-tag path rules' c.args.tag.now

pub returns-clause-few_paths : goal.returns-clause-few_paths
returns-clause-few_paths c =
    let all = c.rules-rules.result.now in
    let i = c.stretch-start.result.start + c.in-Some.at in
    let within : i < length all = cut-within rule_view all c.stretch-start.result.start c.stretch-start.result.end c.in-Some.at c.in-Some.ensures.within in
    let few = kept-few rule_view all i c.index-rules-number.result ∣ subst IsClosed (sym c.rules-rules.ensures.rules) (spec_closed c.args.self.spec.now) ∣₁ within in
    let short : length c.index-rules-number.result.paths.items ≤ 16 = simp length-map at (subst (λ (r : Rule). length (rule_view r).paths ≤ 16) (sym c.index-rules-number.is) few) in
    omega (arith, short, c.index-rules-number.result.paths.ok.0)

pub returns-clause-tag : goal.returns-clause-tag
returns-clause-tag c = (found-place (context_rules c.args.self) (context_path c.args.self) c.args.tag.now (rule_view c.index-rules-number.result) (sym (returns-clause-rule c))).1

pub returns-clause-path : goal.returns-clause-path
returns-clause-path c =
    let all = c.rules-rules.result.now in
    let i = c.stretch-start.result.start + c.in-Some.at in
    let within : i < length all = cut-within rule_view all c.stretch-start.result.start c.stretch-start.result.end c.in-Some.at c.in-Some.ensures.within in
    path-behind rule_view all (context_rules c.args.self) i c.index-rules-number.result c.rules-rules.ensures.rules within c.index-rules-number.is
    ∙ found-target (context_rules c.args.self) (context_path c.args.self) c.args.tag.now (rule_view c.index-rules-number.result) (sym (returns-clause-rule c))
