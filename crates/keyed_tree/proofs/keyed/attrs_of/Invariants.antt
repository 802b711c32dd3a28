use Rattle.std.proofs.Common.{◌≡◌, ◌++◌, map, drop}
use Rattle.jsonml_tree.specs.View.{attr_view}
use Rattle.keyed_tree.specs.Data.{kids_from}
use Rattle.keyed_tree.specs.Plain.{attrs_among}
use Rattle.keyed_tree.specs.View.{keyed_view}
use Rattle.keyed_tree.proofs.keyed.attrs_of.Given as goal

-- what is done, and then what the kids that are left give
abbrev pub invariant-loop-kid : goal.invariant-loop-kid
invariant-loop-kid l =
    attrs_among (kids_from (map keyed_view l.kids))
    ≡ map attr_view l.attrs.items ++ attrs_among (kids_from (map keyed_view (drop l.kid-index l.kids)))
