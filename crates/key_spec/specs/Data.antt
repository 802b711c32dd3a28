-- What a specification is made of: plain data, with a list of bytes for each name.
use Rattle.std.specs.Prelude.{ℕ, List, Option}

-- A key path: tags from element to child element, and then an attribute of the last one where one is given. The path `.`,
-- which names the target itself, has no tags and no attribute.
pub record PlainPath : Type 0 where
  pub tags : List (List ℕ)
  pub attr : Option (List ℕ)

-- Under each node at the context the nodes of the tag are told apart by their values at the key paths.
pub record PlainRule : Type 0 where
  pub context : List (List ℕ)
  pub tag : List ℕ
  pub paths : List PlainPath

-- The rule that a line gives, with the line's number.
pub record GivenRule : Type 0 where
  pub line : ℕ
  pub rule : PlainRule

-- Why a text is no specification: the number of the line, 0 for the text as a whole, and the kind of the fault.
pub record PlainSpecFault : Type 0 where
  pub line : ℕ
  pub why : ℕ
