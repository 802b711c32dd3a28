use Rattle.std.proofs.Common.{arith}
use Rattle.std.proofs.lemmas.Grind.{common_steps}
use Rattle.jsonml_tree.specs.View.{scalar_view}
use Rattle.jsonml_tree.specs.declared.scalar.Scalar.{Scalar}
use Rattle.jsonml_text.proofs.Spelling.{Reads-handed}
use Rattle.jsonml_text.proofs.scalar.read_attr.Goals as goal

pub returns-in_err-value-clause-scalar : goal.returns-in_err-value-clause-scalar
returns-in_err-value-clause-scalar c =
    λ place. Reads-handed {T = Scalar} scalar_view _ _ _ place place place c.in_err-value.field-0.0 _ (λ fault e. e) (c.in_err-value.ensures.scalar place) c.from_residual.ensures.1

pub returns-clause-in_range : goal.returns-clause-in_range
returns-clause-in_range c = grind (arith, common_steps)

pub returns-clause-name : goal.returns-clause-name
returns-clause-name c = grind (arith, common_steps)

pub returns-clause-scalar : goal.returns-clause-scalar
returns-clause-scalar c = grind (arith, common_steps)
