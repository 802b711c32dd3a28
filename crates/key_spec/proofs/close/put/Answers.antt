use Rattle.std.proofs.Common.{map, ap, ◌∙◌}
use Rattle.key_spec.specs.Rules.{rule_cmp}
use Rattle.key_spec.specs.View.{placed_view}
use Rattle.key_spec.proofs.CloseLemmas.{replace_key-map}
use Rattle.key_spec.proofs.close.put.Goals as goal

pub returns : goal.returns
returns c = ap (map placed_view) c.in_ok-replace.ensures.keys ∙ replace_key-map placed_view rule_cmp c.args.closed.now.keys _
