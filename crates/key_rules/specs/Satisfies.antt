-- Which documents satisfy the keys of a specification.
use Rattle.std.specs.Prelude.{◌≡◌, ◌≢◌, ℕ, ◌==◌, ◌||◌, Bool, List, [], ◌∷◌, Option, Some, None, Result, Ok, Err, IsTrue, IsOk, slice_get, ⊤}
use Rattle.std.specs.Bool.{OnFalse}
use Rattle.std.specs.Option.{option_and_then}
use Rattle.std.specs.List.{list_all, AllByRecursion}
use Rattle.jsonml_tree.specs.Data.{PlainTree, text, element, PlainContent, content, PlainTrees, no_trees, tree, list_of}
use Rattle.keyed_tree.specs.Data.{PlainLabel}
use Rattle.key_spec.specs.Data.{PlainRule}
use Rattle.key_spec.specs.Rules.{is_frontier, below}
use Rattle.key_rules.specs.Labels.{PlainLabelFault, label_in}

-- space, tab, LF and CR
abbrev pub is_space : ℕ → Bool
is_space b = (b == 32) || (b == 9) || (b == 10) || (b == 13)

-- a string that is dropped directly inside an inner element: it is empty or has only such bytes
abbrev pub is_space_only : List ℕ → Bool
is_space_only s = list_all is_space s

-- an item of an inner element: a dropped string, or an element with a label
abbrev pub ItemIsGood : List PlainRule → List (List ℕ) → PlainTree → Type 0
ItemIsGood rules path (text s) = IsTrue (is_space_only s)
ItemIsGood rules path (element t c) = IsOk (label_in rules path t c)

abbrev pub ok_of : Result PlainLabel PlainLabelFault → Option PlainLabel
ok_of (Ok l) = Some l
ok_of (Err e) = None

-- the label of an item, if it is an element that has one
abbrev pub item_label : List PlainRule → List (List ℕ) → PlainTree → Option PlainLabel
item_label rules path (text s) = None
item_label rules path (element t c) = ok_of (label_in rules path t c)

abbrev pub label_at : List PlainRule → List (List ℕ) → List PlainTree → ℕ → Option PlainLabel
label_at rules path items i = option_and_then (item_label rules path) (slice_get items i)

-- any two items at different positions have different labels
abbrev pub AreApart : List PlainRule → List (List ℕ) → List PlainTree → Type 0
AreApart rules path items =
    (i j : ℕ) (k l : PlainLabel) → i ≢ j → label_at rules path items i ≡ Some k → label_at rules path items j ≡ Some l → k ≢ l

-- what holds at an inner element of this path with these items; `within` says it of the inner elements below
pub record ItemsSatisfy (rules : List PlainRule) (path : List (List ℕ)) (items : List PlainTree) (within : Type 0) : Type 0 where
  pub good : AllByRecursion (ItemIsGood rules path) items
  pub apart : AreApart rules path items
  pub inside : within

-- An element above the frontier is inner. Below the frontier nothing is keyed.
abbrev mutual
  pub ContentSatisfies : List PlainRule → List (List ℕ) → PlainContent → Type 0
  ContentSatisfies rules path (content xs ts) = OnFalse (is_frontier rules path) (ItemsSatisfy rules path (list_of ts) (EachSatisfies rules path ts))

  pub TreeSatisfies : List PlainRule → List (List ℕ) → PlainTree → Type 0
  TreeSatisfies rules path (text s) = ⊤
  TreeSatisfies rules path (element t c) = ContentSatisfies rules (below path t) c

  pub EachSatisfies : List PlainRule → List (List ℕ) → PlainTrees → Type 0
  EachSatisfies rules path no_trees = ⊤
  EachSatisfies rules path (tree t ts) = TreeSatisfies rules path t × EachSatisfies rules path ts

-- The virtual root is inner, has the empty path, and the root element as its one item.
abbrev pub Satisfies : List PlainRule → PlainTree → Type 0
Satisfies rules t = ItemsSatisfy rules [] (t ∷ []) (TreeSatisfies rules [] t)
