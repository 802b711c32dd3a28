use Rattle.std.proofs.Common.{◌≡◌, ◌++◌, map, drop}
use Rattle.jsonml_tree.specs.Data.{list_of}
use Rattle.jsonml_tree.specs.View.{tree_view}
use Rattle.keyed_tree.specs.Data.{kids_from}
use Rattle.keyed_tree.specs.Plain.{items_among}
use Rattle.keyed_tree.specs.View.{keyed_view}
use Rattle.keyed_tree.proofs.keyed.+plain.Given as goal

-- what is done, and then what the kids that are left give
abbrev pub invariant-items_of-loop-kid : goal.invariant-items_of-loop-kid
invariant-items_of-loop-kid l =
    list_of (items_among (kids_from (map keyed_view l.kids)))
    ≡ map tree_view l.items.items ++ list_of (items_among (kids_from (map keyed_view (drop l.kid-index l.kids))))
