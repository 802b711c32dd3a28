use Rattle.std.proofs.Common.{◌≡◌, nat_lt, map, drop}
use Rattle.std.specs.List.{list_all}
use Rattle.jsonml_tree.specs.Data.{content_depth}
use Rattle.keyed_tree.specs.Plain.{content_of}
use Rattle.archive_tree.specs.Data.{PlainAlt}
use Rattle.archive_tree.specs.View.{alt_view}
use Rattle.archive_file.proofs.level.are_alts_shallow.Given as goal

-- what is left decides
abbrev pub invariant-loop-alt : goal.invariant-loop-alt
invariant-loop-alt l =
    list_all (λ (x : PlainAlt). nat_lt (content_depth (content_of x.body)) l.left) (map alt_view l.alts)
    ≡ list_all (λ (x : PlainAlt). nat_lt (content_depth (content_of x.body)) l.left) (map alt_view (drop l.alt-index l.alts))
