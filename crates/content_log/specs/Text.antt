-- The lines of a content log.
use Rattle.std.specs.Prelude.{ℕ, List, [], ◌∷◌, ◌++◌}
use Rattle.std.specs.List.{flat_map}
use Rattle.version_set.specs.Members.{intervals}
use Rattle.version_set.specs.Text.{set_text}
use Rattle.jsonml_tree.specs.Data.{element}
use Rattle.jsonml_print.specs.Printed.{scalar_text, tree_text}
use Rattle.keyed_tree.specs.Data.{name_bytes, PlainKey, scalar, inside, PlainLabel, PlainKeyed}
use Rattle.content_log.specs.Log.{Entry, log}

-- a content as the element of this tag, a scalar as itself
abbrev pub body_text : List ℕ → PlainKey → List ℕ
body_text tag (scalar v) = scalar_text v
body_text tag (inside c) = tree_text (element tag c)

-- the numbers as the fewest intervals, a blank, the body, a line feed
abbrev pub entry_text : List ℕ → Entry → List ℕ
entry_text tag e = set_text (intervals e.numbers) ++ (32 ∷ (body_text tag e.body ++ 10 ∷ []))

-- the name of the last label
abbrev pub last_name : List PlainLabel → List ℕ
last_name [] = []
last_name (l ∷ []) = name_bytes l.name
last_name (l ∷ m ∷ ls) = last_name (m ∷ ls)

abbrev pub log_text : List PlainKeyed → List PlainLabel → List ℕ
log_text vs path = flat_map (entry_text (last_name path)) (log vs path)
