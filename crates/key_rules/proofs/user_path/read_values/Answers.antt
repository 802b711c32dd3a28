use Rattle.std.proofs.Common.{map, arith}
use Rattle.std.proofs.lemmas.Grind.{common_steps}
use Rattle.std.proofs.lemmas.List.{length-map}
use Rattle.key_spec.specs.View.{path_view}
use Rattle.key_rules.proofs.UserPathLemmas.{values-apart}
use Rattle.key_rules.proofs.user_path.read_values.Goals as goal

pub returns-then-values-paths-clause-keys : goal.returns-then-values-paths-clause-keys
returns-then-values-paths-clause-keys c =
    values-apart (map path_view c.args.paths.now) c.args.values.now (λ e. omega (arith, c.if-values-paths.true, e, length-map c.args.paths.now path_view))

pub loop-number-init : goal.loop-number-init
loop-number-init c = grind (arith, common_steps)

pub loop-number-preserved : goal.loop-number-preserved
loop-number-preserved c = grind (arith, common_steps)

pub returns-in_default-clause-keys : goal.returns-in_default-clause-keys
returns-in_default-clause-keys c = grind (arith, common_steps)

pub returns-clause-keys : goal.returns-clause-keys
returns-clause-keys c = grind (arith, common_steps)
