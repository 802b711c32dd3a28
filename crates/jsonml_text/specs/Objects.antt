-- For private clauses: what a reader that goes straight through a text has read of an object, and behind a tag.
use Rattle.std.specs.Prelude.{◌≡◌, ℕ, ◌+◌, ◌<◌, ◌≤◌, List, length, IsTrue}
use Rattle.std.specs.Str.{IsUtf8}
use Rattle.json.specs.Lex.{after_value}
use Rattle.json.specs.Token.{Token}
use Rattle.jsonml_tree.specs.Data.{PlainAttr, PlainTrees, content}
use Rattle.jsonml_tree.specs.LentView.{only_text}
use Rattle.jsonml_tree.specs.WellFormed.{is_in_range}
use Rattle.jsonml_text.specs.Kept.{AreAttrsKept}
use Rattle.jsonml_text.specs.Straight.{tokens_from, HasMember, HasAttrs, HasItems, HasContent, put_attr}

-- a member that spells this attribute, which is in range
pub record ReadsMember (text : List ℕ) (at : ℕ) (x : PlainAttr) (next : ℕ) : Type 0 where
  pub member : HasMember text at x next
  pub in_range : IsTrue (is_in_range x.value)

-- such an attribute is put among others
pub record PutsMember (text : List ℕ) (at : ℕ) (old new : List PlainAttr) (next : ℕ) : Type 0 where
  pub attr : PlainAttr
  pub reads : ReadsMember text at attr next
  pub placed : new ≡ put_attr attr old

-- an object that spells these attributes, up to an offset
pub record ReadsObject (text : List ℕ) (at : ℕ) (xs : List PlainAttr) (next : ℕ) : Type 0 where
  pub attrs : (depth : ℕ) → HasAttrs (depth + 1) text at xs (tokens_from after_value text next)
  pub kept : AreAttrsKept xs
  pub later : at < next
  pub within : next ≤ length text

-- behind a tag a text and the end of its element
pub record ReadsAlone (text : List ℕ) (at : ℕ) (s : List ℕ) (next : ℕ) : Type 0 where
  pub reads : (depth : ℕ) → HasContent depth text at (only_text s) (tokens_from after_value text next)
  pub utf8 : IsUtf8 s
  pub later : at < next
  pub within : next ≤ length text

-- behind a tag these attributes, or nothing where there are none, and then any items
pub record ReadsFront (text : List ℕ) (at : ℕ) (xs : List PlainAttr) (next : ℕ) : Type 0 where
  pub reads : (depth : ℕ) (ts : PlainTrees) (rest : List Token) → 0 < depth → HasItems depth text next ts rest → HasContent depth text at (content xs ts) rest
  pub kept : AreAttrsKept xs
  pub later : at ≤ next
