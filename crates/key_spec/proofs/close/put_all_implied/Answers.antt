use Rattle.std.proofs.lemmas.Grind.{common_steps}
use Rattle.std.proofs.Common.{◌≡◌, ◌+◌, length, drop, fold, sym, ap, ◌∙◌, arith}
use Rattle.std.proofs.lemmas.List.{length-map}
use Rattle.std.proofs.lemmas.List.Sums.{fold-append}
use Rattle.std.specs.BTreeSet.{replace_key}
use Rattle.key_spec.specs.Rules.{rule_cmp}
use Rattle.key_spec.specs.Closed.{implied_by, implied_rules}
use Rattle.key_spec.specs.View.{rules_view, rule_view, placed_view, placed_rules}
use Rattle.key_spec.specs.declared.given.Given.{Given}
use Rattle.key_spec.proofs.CloseLemmas.{length-put_all}
use Rattle.key_spec.proofs.Steps.{map-drop}
use Rattle.key_spec.proofs.close.put_all_implied.Goals as goal

pub returns-then-len-gt-MOST_RULES-clause-many : goal.returns-then-len-gt-MOST_RULES-clause-many
returns-then-len-gt-MOST_RULES-clause-many c =
    let given = c.args.given.now in
    let i = c.loop-one.one-index in
    let item = c.one-item.result in
    let rest = rules_view (drop (i + 1) given) in
    let put = replace_key rule_cmp in
    let now = placed_rules c.put_implied.new.closed in
    let all : fold put (placed_rules c.args.closed.now) (implied_rules (rules_view given)) ≡ fold put now (implied_rules rest) =
    c.loop-one.invariant
    ∙ ap (λ rs. fold put (placed_rules c.loop-one.closed) (implied_rules rs)) (map-drop (λ (g : Given). rule_view g.rule) given i item (omega arith) c.one-item.is)
    ∙ fold-append put (placed_rules c.loop-one.closed) (implied_by (rule_view item.rule)) (implied_rules rest)
    ∙ ap (λ rs. fold put rs (implied_rules rest)) (sym c.in_ok-put_implied.ensures) in
    let grown = length-put_all rule_cmp now (implied_rules rest) in
    let size : length now ≡ c.len.result = length-map c.put_implied.new.closed.keys placed_view ∙ sym c.len.ensures.len in
    let same = ap length all in
    omega (arith, grown, size, same, c.if-len-gt-MOST_RULES.true)

pub loop-one-preserved : goal.loop-one-preserved
loop-one-preserved c = grind (arith, common_steps)
