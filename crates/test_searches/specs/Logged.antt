-- Versions with a salary, as plain data.
use Rattle.std.specs.Prelude.{ℕ, List, [], ◌∷◌, codes, pos}
use Rattle.jsonml_tree.specs.Data.{whole}
use Rattle.keyed_tree.specs.Data.{PlainKey, scalar, PlainLabel, tag, attr, PlainKeyed, inner, leaf, no_kids, kid}
use Rattle.content_log.specs.Log.{Entry}

abbrev pub db : PlainLabel
db = record { name = tag (codes "db"); keys = [] }

abbrev pub sal : PlainLabel
sal = record { name = attr (codes "sal"); keys = [] }

abbrev pub body : ℕ → PlainKey
body n = scalar (whole (pos n))

-- a version with this salary, and one without
abbrev pub paid : ℕ → PlainKeyed
paid n = inner db (kid (leaf sal (body n)) no_kids)

abbrev pub none : PlainKeyed
none = inner db no_kids

abbrev pub entry : List ℕ → ℕ → Entry
entry ns n = record { numbers = ns; body = body n }
