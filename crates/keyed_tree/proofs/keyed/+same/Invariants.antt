use Rattle.std.proofs.Common.{◌≡◌, map, drop}
use Rattle.keyed_tree.specs.Data.{kids_from}
use Rattle.keyed_tree.specs.Same.{are_same}
use Rattle.keyed_tree.specs.View.{keyed_view}
use Rattle.keyed_tree.proofs.keyed.+same.Given as goal

-- what is left decides
abbrev pub invariant-all_match-loop-a : goal.invariant-all_match-loop-a
invariant-all_match-loop-a l =
    are_same (kids_from (map keyed_view l.ours)) (kids_from (map keyed_view l.theirs))
    ≡ are_same (kids_from (map keyed_view (drop l.a-index l.ours))) (kids_from (map keyed_view l.others.rest.now))
