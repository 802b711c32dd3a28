-- What an archive holds.
use Rattle.std.specs.Prelude.{ℕ, List, [], ◌∷◌, ◌++◌, length, replicate}
use Rattle.key_spec.specs.Data.{PlainRule}
use Rattle.keyed_tree.specs.Data.{PlainKeyed}

-- the rules of an archive, its versions in order, and the note of each
pub record Contents : Type 0 where
  pub rules : List PlainRule
  pub versions : List PlainKeyed
  pub notes : List (List ℕ)

-- what a header tells of it: the rules, and how many versions there are
abbrev pub header_of : Contents → List PlainRule × ℕ
header_of c = (c.rules, length c.versions)

-- these versions, all notes of which are empty
abbrev pub unnoted : List PlainRule → List PlainKeyed → Contents
unnoted rules vs = record { rules = rules; versions = vs; notes = replicate (length vs) [] }

-- with a version more, and its note
abbrev pub with_version : Contents → PlainKeyed → List ℕ → Contents
with_version c k note = record { rules = c.rules; versions = c.versions ++ k ∷ []; notes = c.notes ++ note ∷ [] }

-- these trees under other rules, with the same notes
abbrev pub with_keys : Contents → List PlainRule → List PlainKeyed → Contents
with_keys c rules vs = record { rules = rules; versions = vs; notes = c.notes }
