-- The archives of the files that are searched, as plain data.
use Rattle.std.specs.Prelude.{ℕ, List, [], ◌∷◌, Some, None, codes, pos}
use Rattle.jsonml_tree.specs.Data.{whole, content, no_trees}
use Rattle.keyed_tree.specs.Data.{PlainLabel, tag, scalar, inside}
use Rattle.archive_tree.specs.Data.{PlainNode, inner_node, leaf_node, nodes_from, PlainArchive}

abbrev pub db : PlainLabel
db = record { name = tag (codes "db"); keys = [] }

abbrev pub e : ℕ → PlainLabel
e j = record { name = tag (codes "e"); keys = scalar (whole (pos j)) ∷ [] }

-- a leaf with its key as an attribute, in these versions
abbrev pub keyed : ℕ → List (ℕ × ℕ) → PlainNode
keyed j set =
    leaf_node (e j) (Some set) (record { stamp = None; body = inside (content (record { name = codes "id"; value = whole (pos j) } ∷ []) no_trees) } ∷ [])

-- one version, without content
abbrev pub one : PlainArchive
one = record { n = 1; kids = nodes_from (leaf_node db None (record { stamp = None; body = inside (content [] no_trees) } ∷ []) ∷ []) }

-- six versions: of 1, 2 and 4; of 3; of 5 and 6; of 7 and 8; of 3; and of none
abbrev pub six : PlainArchive
six = record {
  n = 6;
  kids = nodes_from (inner_node db None (nodes_from (
      keyed 1 ((1, 1) ∷ []) ∷ keyed 2 ((1, 1) ∷ []) ∷ keyed 3 ((2, 2) ∷ (5, 5) ∷ []) ∷ keyed 4 ((1, 1) ∷ [])
      ∷ keyed 5 ((3, 3) ∷ []) ∷ keyed 6 ((3, 3) ∷ []) ∷ keyed 7 ((4, 4) ∷ []) ∷ keyed 8 ((4, 4) ∷ []) ∷ [])) ∷ []);
}
