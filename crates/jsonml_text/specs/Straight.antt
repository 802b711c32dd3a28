-- For private clauses: what a text has from one offset to another.
use Rattle.std.specs.Prelude.{◌≡◌, ℕ, ◌<◌, ◌≤◌, List, [], ◌∷◌, length, drop, Bool, true, false, Some, Ok}
use Rattle.std.specs.List.{fold}
use Rattle.std.specs.Ordering.{match_ordering}
use Rattle.std.specs.Str.{IsUtf8}
use Rattle.json.specs.Token.{Token}
use Rattle.json.specs.Token as token
use Rattle.json.specs.Json as json
use Rattle.json.specs.Lex.{Lexeme, lex, between, Place, fresh, after_value, may_begin, punctuate}
use Rattle.serde_json.specs.Data.{Data, Items, Members, no_members}
use Rattle.serde_json.specs.Read.{of_json, of_items, of_members}
use Rattle.jsonml_tree.specs.Data.{PlainScalar, null, boolean, whole, string, PlainAttr, PlainTree, PlainContent, PlainTrees}
use Rattle.jsonml_tree.specs.Order.{text_cmp}
use Rattle.jsonml_text.specs.Texts.{IsScalarText}
use Rattle.jsonml_text.specs.Spelled.{scalar_at, attrs_at, item_at, content_at, items_at}

-- the lexemes from an offset on
abbrev pub lexemes : List ℕ → ℕ → List Lexeme
lexemes text at = lex between (drop at text)

-- the tokens from an offset on, where the text before it leaves this place
abbrev pub tokens_from : Place → List ℕ → ℕ → List Token
tokens_from p text at = punctuate p (lexemes text at)

-- the lexeme at an offset; the next one stands at or behind `next`
pub record HasLexeme (text : List ℕ) (at : ℕ) (l : Lexeme) (next : ℕ) : Type 0 where
  pub lexed : lexemes text at ≡ l ∷ lexemes text next
  pub later : at < next
  pub within : next ≤ length text

-- a string that is a value, wherever one may begin
pub record HasString (text : List ℕ) (at : ℕ) (s : List ℕ) (next : ℕ) : Type 0 where
  pub reads : (p : Place) → may_begin p ≡ true → tokens_from p text at ≡ token.string s ∷ tokens_from after_value text next
  pub utf8 : IsUtf8 s
  pub later : at < next
  pub within : next ≤ length text

-- a name with its colon
pub record HasKey (text : List ℕ) (at : ℕ) (s : List ℕ) (next : ℕ) : Type 0 where
  pub reads : (p : Place) → may_begin p ≡ true → tokens_from p text at ≡ token.key s ∷ tokens_from fresh text next
  pub utf8 : IsUtf8 s
  pub later : at < next
  pub within : next ≤ length text

-- a value that spells this scalar, behind a name
pub record HasScalar (text : List ℕ) (at : ℕ) (x : PlainScalar) (next : ℕ) : Type 0 where
  pub parsed : json.Json
  pub value : Data
  pub of : of_json parsed ≡ Some value
  pub spells : (place : List ℕ) → scalar_at place value ≡ Ok x
  pub reads : (depth : ℕ) → json.value depth (tokens_from fresh text at) ≡ Some (parsed, tokens_from after_value text next)
  pub utf8 : IsScalarText x
  pub later : at ≤ next
  pub within : next ≤ length text

-- a name and a value that spell this attribute, wherever a value may begin
pub record HasMember (text : List ℕ) (at : ℕ) (x : PlainAttr) (next : ℕ) : Type 0 where
  pub begun : ℕ
  pub key : HasKey text at x.name begun
  pub scalar : HasScalar text begun x.value next

-- an object that spells these attributes, wherever a value may begin, and the tokens behind it
pub record HasAttrs (depth : ℕ) (text : List ℕ) (at : ℕ) (xs : List PlainAttr) (rest : List Token) : Type 0 where
  pub parsed : json.Members
  pub members : Members
  pub of : of_members parsed no_members ≡ Some members
  pub spells : (place : List ℕ) → attrs_at place members ≡ Ok xs
  pub reads : (p : Place) → may_begin p ≡ true → json.value depth (tokens_from p text at) ≡ Some (json.object parsed, rest)

-- items up to the end of their array, and the tokens behind it; they spell these trees at every position
pub record HasItems (depth : ℕ) (text : List ℕ) (at : ℕ) (ts : PlainTrees) (rest : List Token) : Type 0 where
  pub parsed : json.Items
  pub items : Items
  pub of : of_items parsed ≡ Some items
  pub spells : (place : List ℕ) (position : ℕ) → items_at place position items ≡ Ok ts
  pub reads : (n : ℕ) → length (tokens_from after_value text at) ≤ n → json.items (json.value depth) n (tokens_from after_value text at) ≡ Some (parsed, rest)

-- the same of items that spell this content
pub record HasContent (depth : ℕ) (text : List ℕ) (at : ℕ) (c : PlainContent) (rest : List Token) : Type 0 where
  pub parsed : json.Items
  pub items : Items
  pub of : of_items parsed ≡ Some items
  pub spells : (place : List ℕ) → content_at place items ≡ Ok c
  pub reads : (n : ℕ) → length (tokens_from after_value text at) ≤ n → json.items (json.value depth) n (tokens_from after_value text at) ≡ Some (parsed, rest)

-- a value that spells this tree, wherever one may begin
pub record HasTree (depth : ℕ) (text : List ℕ) (at : ℕ) (t : PlainTree) (next : ℕ) : Type 0 where
  pub parsed : json.Json
  pub value : Data
  pub of : of_json parsed ≡ Some value
  pub spells : (place : List ℕ) → item_at place value ≡ Ok t
  pub reads : (p : Place) → may_begin p ≡ true → json.value depth (tokens_from p text at) ≡ Some (parsed, tokens_from after_value text next)
  pub later : at < next
  pub within : next ≤ length text

-- the attribute among others whose names ascend; one that has its name takes its value
abbrev pub put_attr : PlainAttr → List PlainAttr → List PlainAttr
put_attr a [] = a ∷ []
put_attr a (x ∷ xs) = match_ordering (text_cmp a.name x.name) (a ∷ x ∷ xs) (record { name = x.name; value = a.value } ∷ xs) (x ∷ put_attr a xs)

-- the attributes put one after another, in the order of a text
abbrev pub placed : List PlainAttr → List PlainAttr
placed xs = fold (λ ys a. put_attr a ys) [] xs

-- a scalar that is written without quotes
abbrev pub is_word : PlainScalar → Bool
is_word null = true
is_word (boolean b) = true
is_word (whole n) = true
is_word (string s) = false
