use Rattle.std.proofs.Common.{◌≡◌, length, map, take, vec_len, vec_capacity}
use Rattle.keyed_tree.specs.View.{keyed_view}
use Rattle.keyed_tree.proofs.keyed.+copy.Given as goal

abbrev pub invariant-copy_kids-loop-kid : goal.invariant-copy_kids-loop-kid
invariant-copy_kids-loop-kid l =
    (map keyed_view l.copies.items ≡ map keyed_view (take l.kid-index l.kids)) × (vec_len l.copies ≡ l.kid-index) × (vec_capacity l.copies ≡ length l.kids)
