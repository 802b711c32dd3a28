use Rattle.row_ends.proofs.Sizes.{kids-pieces}
use Rattle.row_ends.proofs.laws.kids_stand_for_pieces.Goals as goal

pub returns : goal.returns
returns c = kids-pieces
