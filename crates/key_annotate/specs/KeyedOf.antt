-- Which keyed tree stands for an element under a specification.
use Rattle.std.specs.Prelude.{◌≡◌, ◌⊎◌, ℕ, List, [], Any, Contains, Ok, MatchBool, ⊤}
use Rattle.std.specs.List.{AllByRecursion}
use Rattle.jsonml_tree.specs.Data.{PlainAttr, PlainTree, text, element, PlainContent, content, PlainTrees, no_trees, tree}
use Rattle.keyed_tree.specs.Data.{attr, scalar, inside, PlainKeyed, inner, leaf, kids_from, kids_of, label_of}
use Rattle.keyed_tree.specs.Kids.{Ascend}
use Rattle.key_spec.specs.Data.{PlainRule}
use Rattle.key_spec.specs.Rules.{is_frontier, below}
use Rattle.key_rules.specs.Labels.{label_in}

-- an attribute of an inner element is a leaf with its name, no key values, and its scalar
abbrev pub attr_leaf : PlainAttr → PlainKeyed
attr_leaf a = leaf (record { name = attr a.name; keys = [] }) (scalar a.value)

-- Above the frontier: a node whose kids ascend strictly. Each attribute and each element item stands among them, and every kid is one of these.
pub record InnerKeyed (xs : List PlainAttr) (k : PlainKeyed) (each : Type 0) (is_item : PlainKeyed → Type 0) : Type 0 where
  pub node : k ≡ inner (label_of k) (kids_from (kids_of k))
  pub ascending : Ascend (kids_from (kids_of k))
  pub attrs : AllByRecursion (λ a. Contains (kids_of k) (attr_leaf a)) xs
  pub items : each
  pub only : AllByRecursion (λ c. Any (λ a. c ≡ attr_leaf a) xs ⊎ is_item c) (kids_of k)

abbrev mutual
  -- the tree k stands for an element, under a context; a text has none
  pub KeyedOf : List PlainRule → List (List ℕ) → PlainTree → PlainKeyed → Type 0
  KeyedOf rules context (text s) k = ⊥
  KeyedOf rules context (element t c) k = (label_in rules context t c ≡ Ok (label_of k)) × ContentKeyed rules (below context t) c k

  -- At the frontier a leaf holds the content unchanged.
  pub ContentKeyed : List PlainRule → List (List ℕ) → PlainContent → PlainKeyed → Type 0
  ContentKeyed rules path (content xs ts) k =
      MatchBool (is_frontier rules path) (k ≡ leaf (label_of k) (inside (content xs ts))) (InnerKeyed xs k (EachIsKid rules path ts k) (IsOfItem rules path ts))

  -- some kid stands for the item, where it is an element
  pub IsKid : List PlainRule → List (List ℕ) → PlainTree → PlainKeyed → Type 0
  IsKid rules path (text s) k = ⊤
  IsKid rules path (element t c) k = Any (λ x. (label_in rules path t c ≡ Ok (label_of x)) × ContentKeyed rules (below path t) c x) (kids_of k)

  pub EachIsKid : List PlainRule → List (List ℕ) → PlainTrees → PlainKeyed → Type 0
  EachIsKid rules path no_trees k = ⊤
  EachIsKid rules path (tree t ts) k = IsKid rules path t k × EachIsKid rules path ts k

  -- the tree stands for one of the items
  pub IsOfItem : List PlainRule → List (List ℕ) → PlainTrees → PlainKeyed → Type 0
  IsOfItem rules path no_trees x = ⊥
  IsOfItem rules path (tree t ts) x = KeyedOf rules path t x ⊎ IsOfItem rules path ts x

-- the tree k stands for a document
abbrev pub IsKeyedTreeOf : List PlainRule → PlainTree → PlainKeyed → Type 0
IsKeyedTreeOf rules t k = KeyedOf rules [] t k
