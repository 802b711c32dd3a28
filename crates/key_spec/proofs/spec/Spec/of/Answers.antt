use Rattle.std.proofs.Common.{◌≡◌, ◌≤◌, List, length, map, sym, subst, arith}
use Rattle.std.proofs.lemmas.List.{length-map}
use Rattle.std.specs.List.Sorted.{IsStrictlySortedBy}
use Rattle.key_spec.specs.RuleView.{rule_view}
use Rattle.key_spec.specs.Rules.{rule_cmp}
use Rattle.key_spec.specs.StretchView.{start_of, end_of}
use Rattle.key_spec.specs.Stretches.{places, count_before, count_up_to}
use Rattle.key_spec.specs.declared.rule.Rule.{Rule}
use Rattle.key_spec.proofs.ClosedLaws.{closed_list}
use Rattle.key_spec.proofs.SearchLemmas.{closed-sorted}
use Rattle.key_spec.proofs.spec.Spec.of.Goals as goal

pub stretches-requires : goal.stretches-requires
stretches-requires c =
    let items = c.args.rules.items in
    let all = closed_list c.requires.0 (map rule_view items) c.requires.1 in
    let few : length items ≤ 4096 = omega (arith, all.few, length-map items rule_view) in
    record {
      ascending = subst (λ (xs : List Rule). IsStrictlySortedBy rule_cmp (map rule_view xs)) (sym c.deref.ensures.value) (closed-sorted (map rule_view items) c.requires);
      few = subst (λ (xs : List Rule). length xs ≤ 4096) (sym c.deref.ensures.value) few;
    }

pub invariant_of-result : goal.invariant_of-result
invariant_of-result c = record {
  closed = ∣ c.requires ∣₁;
  starts = subst (λ (xs : List Rule). map start_of c.in_ok-stretches.stretches.items ≡ map (count_before (map rule_view xs)) (places (map rule_view xs))) c.deref.ensures.value c.in_ok-stretches.ensures.starts;
  ends = subst (λ (xs : List Rule). map end_of c.in_ok-stretches.stretches.items ≡ map (count_up_to (map rule_view xs)) (places (map rule_view xs))) c.deref.ensures.value c.in_ok-stretches.ensures.ends;
}
