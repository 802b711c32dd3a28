use Rattle.std.proofs.Common.{[], ◌∷◌, ◌≡◌, map, drop}
use Rattle.archive_tree.specs.Read.{body_at}
use Rattle.archive_tree.specs.View.{alt_view}
use Rattle.archive_rekey.proofs.lend.first_body.Given as goal

-- what is left decides
abbrev pub invariant-loop-alt : goal.invariant-loop-alt
invariant-loop-alt l =
    body_at l.number (l.number ∷ []) (map alt_view l.alts) ≡ body_at l.number (l.number ∷ []) (map alt_view (drop l.alt-index l.alts))
