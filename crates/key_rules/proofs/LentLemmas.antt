-- The label by the rule that was found.
use Rattle.std.proofs.Common.{◌≡◌, ℕ, List, Some, ap, sym, ◌∙◌}
use Rattle.jsonml_tree.specs.Data.{PlainContent}
use Rattle.key_spec.specs.Data.{PlainRule}
use Rattle.key_spec.specs.Rules.{rule_of}
use Rattle.key_spec.proofs.StretchLaws.{found-place}
use Rattle.key_rules.specs.Labels.{label_by, label_in}

pub label_in-rule : (rules : List PlainRule) (context : List (List ℕ)) (t : List ℕ) (c : PlainContent) (r : PlainRule) → rule_of rules context t ≡ Some r → label_in rules context t c ≡ label_by (Some r) r.tag c
label_in-rule rules context t c r e = ap (λ o. label_by o t c) e ∙ ap (λ s. label_by (Some r) s c) (sym (found-place rules context t r e).1)
