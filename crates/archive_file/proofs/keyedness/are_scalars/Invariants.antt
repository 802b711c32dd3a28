use Rattle.std.proofs.Common.{◌≡◌, map, drop}
use Rattle.std.specs.List.{list_all}
use Rattle.keyed_tree.specs.Proper.{is_scalar}
use Rattle.archive_tree.specs.Data.{PlainAlt}
use Rattle.archive_tree.specs.View.{alt_view}
use Rattle.archive_file.proofs.keyedness.are_scalars.Given as goal

-- what is left decides
abbrev pub invariant-loop-alt : goal.invariant-loop-alt
invariant-loop-alt l = list_all (λ (x : PlainAlt). is_scalar x.body) (map alt_view l.alts) ≡ list_all (λ (x : PlainAlt). is_scalar x.body) (map alt_view (drop l.alt-index l.alts))
