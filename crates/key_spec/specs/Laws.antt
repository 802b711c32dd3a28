-- The orders of paths and rules are total.
use Rattle.std.proofs.lemmas.Cmp.{nat_list_cmp_total, lists_total, on_total, then_total}
use Rattle.std.specs.Cmp.{IsTotalOrder}
use Rattle.key_spec.specs.Data.{PlainRule}
use Rattle.key_spec.specs.Rules.{path_cmp, rule_cmp, tag_cmp}

pub path_cmp_total : IsTotalOrder path_cmp
path_cmp_total = lists_total nat_list_cmp_total

pub rule_cmp_total : IsTotalOrder rule_cmp
rule_cmp_total = then_total (on_total (λ (r : PlainRule). r.context) path_cmp_total) (on_total (λ (r : PlainRule). r.tag) nat_list_cmp_total)

pub tag_cmp_total : IsTotalOrder tag_cmp
tag_cmp_total = on_total (λ (r : PlainRule). r.tag) nat_list_cmp_total
