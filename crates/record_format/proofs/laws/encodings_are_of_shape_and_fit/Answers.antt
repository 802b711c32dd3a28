use Rattle.record_format.proofs.ShapeLaws.{dir_parts}
use Rattle.record_format.proofs.laws.encodings_are_of_shape_and_fit.Goals as goal

pub returns : goal.returns
returns c = dir_parts
