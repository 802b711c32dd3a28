use Rattle.std.proofs.Common.{◌≡◌, map, take}
use Rattle.keyed_tree.specs.View.{keyed_view}
use Rattle.key_annotate.specs.LentView.{lent_view}
use Rattle.key_annotate.proofs.lent.+own.Given as goal

abbrev pub invariant-own_kids-loop-kid : goal.invariant-own_kids-loop-kid
invariant-own_kids-loop-kid l = map keyed_view l.copies.items ≡ map lent_view (take l.kid-index l.kids)
