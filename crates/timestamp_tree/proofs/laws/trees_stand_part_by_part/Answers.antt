use Rattle.std.proofs.Common.{refl, sym}
use Rattle.timestamp_tree.proofs.Reversed.{tree_of_halves}
use Rattle.timestamp_tree.proofs.Standing.{stand_parts}
use Rattle.timestamp_tree.proofs.Stored.{size_is}
use Rattle.timestamp_tree.proofs.laws.trees_stand_part_by_part.Goals as goal

pub returns-clause-size : goal.returns-clause-size
returns-clause-size c = λ set left. sym (size_is set left)

pub returns-clause-parts : goal.returns-clause-parts
returns-clause-parts c = stand_parts

pub returns-clause-one : goal.returns-clause-one
returns-clause-one c = λ set. refl

pub returns-clause-halves : goal.returns-clause-halves
returns-clause-halves c = tree_of_halves
