use Rattle.std.proofs.Common.{◌≡◌, map, drop, option_map, string_bytes}
use Rattle.std.specs.List.{list_all}
use Rattle.keyed_tree.specs.View.{key_view}
use Rattle.archive_tree.specs.Data.{PlainAlt}
use Rattle.archive_tree.specs.View.{alt_view}
use Rattle.archive_file.specs.NodeFits.{ends_in}
use Rattle.archive_file.proofs.lead.do_end.Given as goal

-- what is left decides
abbrev pub invariant-loop-alt : goal.invariant-loop-alt
invariant-loop-alt l =
    list_all (λ (x : PlainAlt). ends_in (option_map string_bytes l.attr) (key_view l.value) x.body) (map alt_view l.alts)
    ≡ list_all (λ (x : PlainAlt). ends_in (option_map string_bytes l.attr) (key_view l.value) x.body) (map alt_view (drop l.alt-index l.alts))
