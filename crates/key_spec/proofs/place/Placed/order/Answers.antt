use Rattle.std.proofs.Common.{ap₂, ◌∙◌}
use Rattle.key_spec.specs.Rules.{name_cmp}
use Rattle.key_spec.specs.RuleView.{rule_view}
use Rattle.key_spec.proofs.PlaceLemmas.{place_bytes-cmp}
use Rattle.key_spec.proofs.place.Placed.order.Goals as goal

pub returns : goal.returns
returns c =
    let ours = c.args.self.now in
    let theirs = c.args.other.now in
    c.cmp.ensures ∙ ap₂ name_cmp (c.as_slice.ensures.value ∙ ours.fits) (c.as_slice-2.ensures.value ∙ theirs.fits) ∙ place_bytes-cmp (rule_view ours.rule) (rule_view theirs.rule)
