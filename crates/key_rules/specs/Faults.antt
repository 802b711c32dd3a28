-- The first place at which a document does not satisfy the keys, and why.
use Rattle.std.specs.Prelude.{◌≡◌, ℕ, ◌+◌, ◌-◌, ◌==◌, ◌||◌, Bool, false, List, [], ◌∷◌, ◌++◌, map, length, take, Option, Some, None, Result, Ok, Err, if◌then◌else◌, slice_get}
use Rattle.std.specs.Option.{option_and_then, option_map, option_or, is_some}
use Rattle.std.specs.List.{find, list_any, range_with_len}
use Rattle.std.specs.Ordering.{is_eq}
use Rattle.jsonml_tree.specs.Data.{PlainTree, text, element, PlainContent, content, PlainTrees, no_trees, tree, list_of}
use Rattle.keyed_tree.specs.Data.{PlainLabel}
use Rattle.keyed_tree.specs.Order.{label_cmp}
use Rattle.key_spec.specs.Data.{PlainPath, PlainRule}
use Rattle.key_spec.specs.Rules.{rule_of, is_frontier, below}
use Rattle.key_rules.specs.Labels.{PlainLabelFault, unkeyed, missing, twice, label_by}
use Rattle.key_rules.specs.Satisfies.{is_space_only, item_label}

-- A fault: the place of the item, why, and for why 3 and 4 the key path.
pub record PlainKeyFault : Type 0 where
  pub place : List ℕ
  pub why : ℕ
  pub path : Option PlainPath

-- a key path stands beside why 3 and why 4, and beside no other
abbrev pub HasItsPath : PlainKeyFault → Type 0
HasItsPath f = is_some f.path ≡ (f.why == 3 || f.why == 4)

-- the key path of this number, from 1
abbrev pub path_at : Option PlainRule → ℕ → Option PlainPath
path_at None n = None
path_at (Some r) n = slice_get r.paths (n - 1)

-- 1: no rule is for the element; 3: a key path has no node; 4: it has several
abbrev pub label_fault : Option PlainRule → List ℕ → Result PlainLabel PlainLabelFault → Option PlainKeyFault
label_fault rule place (Ok l) = None
label_fault rule place (Err unkeyed) = Some (record { place = place; why = 1; path = None })
label_fault rule place (Err (missing n)) = Some (record { place = place; why = 3; path = path_at rule n })
label_fault rule place (Err (twice n)) = Some (record { place = place; why = 4; path = path_at rule n })

-- the fault of one item of an inner element; 2: a string that is not dropped
abbrev pub item_fault : List PlainRule → List (List ℕ) → List ℕ → PlainTree → Option PlainKeyFault
item_fault rules path place (text s) = if is_space_only s then None else Some (record { place = place; why = 2; path = None })
item_fault rules path place (element t c) = label_fault (rule_of rules path t) place (label_by (rule_of rules path t) t c)

-- the fault of the first item that has one; `at` gives the place of the item at each position
abbrev pub first_bad_item : List PlainRule → List (List ℕ) → (ℕ → List ℕ) → ℕ → List PlainTree → Option PlainKeyFault
first_bad_item rules path at n [] = None
first_bad_item rules path at n (t ∷ ts) = option_or (item_fault rules path (at n) t) (first_bad_item rules path at (n + 1) ts)

abbrev pub is_label : PlainLabel → Option PlainLabel → Bool
is_label l None = false
is_label l (Some k) = is_eq (label_cmp k l)

abbrev pub is_among : List (Option PlainLabel) → Option PlainLabel → Bool
is_among ls None = false
is_among ls (Some l) = list_any (is_label l) ls

-- the item at i, from 0, has the label of an earlier item
abbrev pub repeats : List (Option PlainLabel) → ℕ → Bool
repeats ls i = is_among (take i ls) (option_and_then (λ l. l) (slice_get ls i))

-- the least i whose item has the label of an earlier one
abbrev pub first_repeat : List (Option PlainLabel) → Option ℕ
first_repeat ls = find (repeats ls) (range_with_len 0 (length ls))

-- 5: the least item whose label equals an earlier item's
abbrev pub repeated_item : List PlainRule → List (List ℕ) → (ℕ → List ℕ) → List PlainTree → Option PlainKeyFault
repeated_item rules path at items = option_map (λ i. record { place = at (i + 1); why = 5; path = None }) (first_repeat (map (item_label rules path) items))

-- the checks of an inner element itself, and then what is found inside
abbrev pub fault_among : List PlainRule → List (List ℕ) → (ℕ → List ℕ) → List PlainTree → Option PlainKeyFault → Option PlainKeyFault
fault_among rules path at items inside = option_or (first_bad_item rules path at 1 items) (option_or (repeated_item rules path at items) inside)

-- the place of an item of the element at a place
abbrev pub item_place : List ℕ → ℕ → List ℕ
item_place place n = place ++ n ∷ []

-- Inner elements in preorder; the checks of each come before those of its items.
abbrev mutual
  pub content_fault : List PlainRule → List (List ℕ) → List ℕ → PlainContent → Option PlainKeyFault
  content_fault rules path place (content xs ts) =
      if is_frontier rules path then None else fault_among rules path (item_place place) (list_of ts) (row_fault rules path (item_place place) 1 ts)

  pub tree_fault : List PlainRule → List (List ℕ) → List ℕ → PlainTree → Option PlainKeyFault
  tree_fault rules path place (text s) = None
  tree_fault rules path place (element t c) = content_fault rules (below path t) place c

  pub row_fault : List PlainRule → List (List ℕ) → (ℕ → List ℕ) → ℕ → PlainTrees → Option PlainKeyFault
  row_fault rules path at n no_trees = None
  row_fault rules path at n (tree t ts) = option_or (tree_fault rules path (at n) t) (row_fault rules path at (n + 1) ts)

-- The virtual root comes first; its one item is the root element, whose place has no steps.
abbrev pub first_fault : List PlainRule → PlainTree → Option PlainKeyFault
first_fault rules t = fault_among rules [] (λ _. []) (t ∷ []) (tree_fault rules [] [] t)
