use Rattle.std.proofs.Common.{[], List, String, Global, map, ap, ◌∙◌}
use Rattle.key_spec.specs.Closed.{target_of}
use Rattle.key_spec.specs.RuleView.{names_view, rule_view}
use Rattle.key_spec.specs.StretchView.{start_of, end_of}
use Rattle.key_spec.specs.Stretches.{count_before, count_up_to}
use Rattle.key_spec.specs.declared.rule.Rule.{Rule}
use Rattle.key_spec.proofs.StretchRows.{first-row, next-row, whole-row}
use Rattle.key_spec.proofs.stretch.stretches.Goals as goal

pub loop-rule-init : goal.loop-rule-init
loop-rule-init c =
    let old = c.in_ok-all.all.items in
    let new = c.push.new.self.items in
    let rules' = map rule_view c.args.rules.now in (
      first-row start_of old new c.stretch_of.result (count_before rules' []) c.in_ok-push.ensures.items c.in_ok-all.ensures.items c.stretch_of.ensures.start,
      first-row end_of old new c.stretch_of.result (count_up_to rules' []) c.in_ok-push.ensures.items c.in_ok-all.ensures.items c.stretch_of.ensures.end,
    )

pub loop-rule-preserved : goal.loop-rule-preserved
loop-rule-preserved c =
    let old = c.loop-rule.all.items in
    let new = c.push-in-loop-rule.new.self.items in
    let all = c.args.rules.now in
    let rules' = map rule_view all in
    let i = c.loop-rule.rule-index in
    let r = c.rule-item.result in
    let start = c.stretch_of-in-loop-rule.ensures.start ∙ ap (λ (names : List (String Global)). count_before rules' (names_view names)) c.deref.ensures.value ∙ ap (count_before rules') c.in_ok-target.ensures in
    let end = c.stretch_of-in-loop-rule.ensures.end ∙ ap (λ (names : List (String Global)). count_up_to rules' (names_view names)) c.deref.ensures.value ∙ ap (count_up_to rules') c.in_ok-target.ensures in (
      next-row start_of (λ (r : Rule). count_before rules' (target_of (rule_view r))) old new c.stretch_of-in-loop-rule.result (count_before rules' []) all i r c.in_ok-push-2.ensures.items c.loop-rule.invariant.0 start c.loop-rule-test.true c.rule-item.is,
      next-row end_of (λ (r : Rule). count_up_to rules' (target_of (rule_view r))) old new c.stretch_of-in-loop-rule.result (count_up_to rules' []) all i r c.in_ok-push-2.ensures.items c.loop-rule.invariant.1 end c.loop-rule-test.true c.rule-item.is,
    )

pub returns-clause-starts : goal.returns-clause-starts
returns-clause-starts c =
    let rules' = map rule_view c.args.rules.now in
    whole-row rule_view (count_before rules') c.args.rules.now c.loop-rule.rule-index (map start_of c.loop-rule.all.items) (count_before rules' []) c.loop-rule.invariant.0 c.loop-rule-test.false

pub returns-clause-ends : goal.returns-clause-ends
returns-clause-ends c =
    let rules' = map rule_view c.args.rules.now in
    whole-row rule_view (count_up_to rules') c.args.rules.now c.loop-rule.rule-index (map end_of c.loop-rule.all.items) (count_up_to rules' []) c.loop-rule.invariant.1 c.loop-rule-test.false
