use Rattle.std.proofs.lemmas.Grind.{common_steps}
use Rattle.std.proofs.Common.{◌≡◌, [], length, map, fold, ap, ◌∙◌, arith}
use Rattle.std.proofs.lemmas.Bool.{OnFalse_at}
use Rattle.std.proofs.lemmas.List.Sums.{fold-append}
use Rattle.std.specs.BTreeSet.{replace_key}
use Rattle.key_spec.specs.Rules.{rule_cmp}
use Rattle.key_spec.specs.Closed.{implied_rules}
use Rattle.key_spec.specs.View.{rules_view, placed_view, placed_rules}
use Rattle.key_spec.proofs.CloseLemmas.{length-put_all}
use Rattle.key_spec.proofs.close.close.Goals as goal

pub returns-then-not-branch-clause-none : goal.returns-then-not-branch-clause-none
returns-then-not-branch-clause-none c =
    let rules = rules_view c.args.given.items in
    let put = replace_key rule_cmp in
    let start : placed_rules c.new-closed.result ≡ [] = ap (map placed_view) c.new-closed.ensures.empty in
    let many = OnFalse_at c.if-not-branch.true c.in_ok-put_all_implied.ensures.many in
    let same : fold put (placed_rules c.new-closed.result) (implied_rules (rules_view c.deref.result.now)) ≡ fold put [] (implied_rules rules) =
    ap (λ s. fold put s (implied_rules (rules_view c.deref.result.now))) start ∙ ap (λ g. fold put [] (implied_rules (rules_view g))) c.deref.ensures.value in
    let grown = length-put_all rule_cmp (fold put [] (implied_rules rules)) rules in
    let whole = ap length (fold-append put [] (implied_rules rules) rules) in
    omega (arith, many, ap length same, grown, whole)

pub returns-then-len-gt-MOST_RULES-clause-none : goal.returns-then-len-gt-MOST_RULES-clause-none
returns-then-len-gt-MOST_RULES-clause-none c = grind (arith, common_steps)

pub returns-clause-some : goal.returns-clause-some
returns-clause-some c = grind (arith, common_steps)

pub returns-clause-few : goal.returns-clause-few
returns-clause-few c = grind (arith, common_steps)

pub returns-then-not-branch-clause-some : goal.returns-then-not-branch-clause-some
returns-then-not-branch-clause-some c = grind (arith, common_steps)

pub returns-then-not-branch-clause-few : goal.returns-then-not-branch-clause-few
returns-then-not-branch-clause-few c = grind (arith, common_steps)

pub returns-then-len-gt-MOST_RULES-clause-some : goal.returns-then-len-gt-MOST_RULES-clause-some
returns-then-len-gt-MOST_RULES-clause-some c = grind (arith, common_steps)

pub returns-then-len-gt-MOST_RULES-clause-few : goal.returns-then-len-gt-MOST_RULES-clause-few
returns-then-len-gt-MOST_RULES-clause-few c = grind (arith, common_steps)

pub returns-clause-none : goal.returns-clause-none
returns-clause-none c = grind (arith, common_steps)
