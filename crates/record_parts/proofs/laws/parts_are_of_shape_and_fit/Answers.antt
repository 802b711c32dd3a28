use Rattle.record_parts.specs.Encodable.{label_there, label_back, value_there, value_back}
use Rattle.record_parts.specs.Sets.{set_parts, stamp_there, stamp_back}
use Rattle.record_parts.specs.ShapeLaws.{label_parts, value_parts}
use Rattle.record_parts.proofs.laws.parts_are_of_shape_and_fit.Goals as goal

pub returns-clause-values : goal.returns-clause-values
returns-clause-values c = value_parts

pub returns-clause-labels : goal.returns-clause-labels
returns-clause-labels c = label_parts

pub returns-clause-value_tests : goal.returns-clause-value_tests
returns-clause-value_tests c = λ k. (value_there k, value_back k)

pub returns-clause-label_tests : goal.returns-clause-label_tests
returns-clause-label_tests c = λ l. (label_there l, label_back l)

pub returns-clause-sets : goal.returns-clause-sets
returns-clause-sets c = set_parts

pub returns-clause-stamp_tests : goal.returns-clause-stamp_tests
returns-clause-stamp_tests c = λ s. (stamp_there s, stamp_back s)
