use Rattle.std.proofs.Common.{◌≡◌, [], refl, sym, ◌∙◌, rules, of_calls}
use Rattle.std.proofs.lemmas.Fn.{always_returns_same}
use Rattle.key_spec.specs.Data.{PlainRule}
use Rattle.key_spec.specs.Laws.{tag_cmp_total}
use Rattle.key_spec.specs.Rules.{tag_cmp}
use Rattle.key_spec.specs.RuleView.{rule_view}
use Rattle.key_spec.specs.declared.rule.Rule.{Rule}
use Rattle.key_spec.proofs.AtContext.{tagged-find}
use Rattle.key_spec.proofs.SearchLemmas.{search-found, search-none}
use Rattle.key_spec.proofs.StretchLaws.{place-at, some-at}
use Rattle.key_spec.proofs.tagged.find_tag.Goals as goal

pub returns-in-Ok-clause-rule : goal.returns-in-Ok-clause-rule
returns-in-Ok-clause-rule c =
    let key : PlainRule = record { context = []; tag = c.args.tag.now; paths = [] } in
    let by = always_returns_same _ (λ a r. r ≡ tag_cmp (rule_view a.0.now) key) _ (λ a r f k. search (rules, of_calls)) in
    let all = c.args.rules.now in
    let x = some-at all c.in-Ok.at c.in-Ok.ensures.bound in
    place-at rule_view all c.in-Ok.at x.0 c.in-Ok.ensures.bound x.1
    ∙ search-found tag_cmp_total rule_view all all refl c.requires key c.in-Ok.at x.0 c.in-Ok.ensures.bound x.1 (c.in-Ok.ensures.position (λ (r : Rule). tag_cmp (rule_view r) key) by)
    ∙ sym (tagged-find _ c.args.tag.now)

pub returns-in-Err-clause-rule : goal.returns-in-Err-clause-rule
returns-in-Err-clause-rule c =
    let key : PlainRule = record { context = []; tag = c.args.tag.now; paths = [] } in
    let by = always_returns_same _ (λ a r. r ≡ tag_cmp (rule_view a.0.now) key) _ (λ a r f k. search (rules, of_calls)) in
    let all = c.args.rules.now in
    search-none tag_cmp_total rule_view all all refl c.requires key c.in-Err.field-0 (c.in-Err.ensures.position (λ (r : Rule). tag_cmp (rule_view r) key) by)
    ∙ sym (tagged-find _ c.args.tag.now)
