-- Which values, labels and timestamps have an encoding: each text is UTF-8, each number, length and count fits its field,
-- attributes ascend by name, the numbers of sets are at most 999,999, and elements nest at most 120 deep.
use Rattle.std.specs.Prelude.{ℕ, ◌≢◌, ◌<◌, ◌≤◌, ◌^◌, pos, negsuc, List, [], length, Some, None, ⊤, IsTrue}
use Rattle.std.specs.List.{AllByRecursion}
use Rattle.jsonml_tree.specs.Data.{PlainScalar, null, boolean, whole, string, PlainAttr, PlainTree, text, element, PlainContent, content, PlainTrees, no_trees, tree, list_of, content_depth}
use Rattle.jsonml_tree.specs.WellFormed.{is_ascending}
use Rattle.keyed_tree.specs.Data.{name_bytes, PlainKey, scalar, inside, PlainLabel}
use Rattle.archive_tree.specs.Data.{Stamp}
use Rattle.version_set.specs.Pairs.{IsCanonical}
use Rattle.xa_fields.specs.Spelling.{IsText}
use Rattle.xa_fields.specs.declared.limits.TheConstants.{FIELD}
use Rattle.record_parts.specs.declared.limits.TheConstants.{DEEPEST, MOST_VERSIONS}

-- ---- values

abbrev pub IsScalar : PlainScalar → Type 0
IsScalar null = ⊤
IsScalar (boolean b) = ⊤
IsScalar (whole (pos n)) = n < 2 ^ 64
IsScalar (whole (negsuc n)) = n < 2 ^ 63
IsScalar (string s) = IsText s

pub record IsAttr (a : PlainAttr) : Type 0 where
  pub name : IsText a.name
  pub value : IsScalar a.value

pub record AreAttrs (xs : List PlainAttr) : Type 0 where
  pub few : length xs < FIELD
  pub each : AllByRecursion IsAttr xs
  pub ascending : IsTrue (is_ascending xs)

-- whatever the depth
abbrev mutual
  pub IsItem : PlainTree → Type 0
  IsItem (text s) = IsText s
  IsItem (element t c) = IsText t × IsInside c

  pub IsInside : PlainContent → Type 0
  IsInside (content xs ts) = AreAttrs xs × (length (list_of ts) < FIELD) × AreItems ts

  pub AreItems : PlainTrees → Type 0
  AreItems no_trees = ⊤
  AreItems (tree t ts) = IsItem t × AreItems ts

-- a content whose elements nest at most so deep
pub record IsContent (limit : ℕ) (c : PlainContent) : Type 0 where
  pub inside : IsInside c
  pub depth : content_depth c ≤ limit

-- how deep elements may nest
abbrev pub deepest : ℕ
deepest = DEEPEST

abbrev pub IsValue : PlainKey → Type 0
IsValue (scalar s) = IsScalar s
IsValue (inside c) = IsContent deepest c

-- ---- labels and timestamps

pub record IsLabel (l : PlainLabel) : Type 0 where
  pub name : IsText (name_bytes l.name)
  pub few : length l.keys < FIELD
  pub keys : AllByRecursion IsValue l.keys

-- the greatest number of a version
abbrev pub most : ℕ
most = MOST_VERSIONS

-- the intervals of a set of such numbers
pub record IsSet (s : List (ℕ × ℕ)) : Type 0 where
  pub canonical : IsCanonical s
  pub within : AllByRecursion (λ p. p.1 ≤ most) s

-- a stored set is not empty
abbrev pub IsStamp : Stamp → Type 0
IsStamp None = ⊤
IsStamp (Some s) = IsSet s × (s ≢ [])
