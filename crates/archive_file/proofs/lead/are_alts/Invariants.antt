use Rattle.std.proofs.Common.{◌≡◌, map, drop}
use Rattle.std.specs.List.{list_all}
use Rattle.std.specs.Ordering.{is_eq}
use Rattle.keyed_tree.specs.Order.{key_cmp}
use Rattle.keyed_tree.specs.View.{key_view}
use Rattle.archive_tree.specs.Data.{PlainAlt}
use Rattle.archive_tree.specs.View.{alt_view}
use Rattle.archive_file.proofs.lead.are_alts.Given as goal

-- what is left decides
abbrev pub invariant-loop-alt : goal.invariant-loop-alt
invariant-loop-alt l =
    list_all (λ (x : PlainAlt). is_eq (key_cmp x.body (key_view l.value))) (map alt_view l.alts) ≡ list_all (λ (x : PlainAlt). is_eq (key_cmp x.body (key_view l.value))) (map alt_view (drop l.alt-index l.alts))
