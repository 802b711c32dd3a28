-- A key path stands beside a missing node and several nodes, and beside no other fault.
use Rattle.std.proofs.Common.{◌≡◌, ℕ, zero, suc, ◌+◌, ◌-◌, ◌<◌, ◌≤◌, Bool, true, false, cond, List, [], ◌∷◌, map, length, Option, Some, None, IfSome, Result, Ok, Err, refl, arith}
use Rattle.std.specs.Option.{option_map, option_or, is_some}
use Rattle.std.specs.List.{slice_get}
use Rattle.jsonml_tree.specs.Data.{PlainTree, text, element, PlainContent, content, PlainTrees, no_trees, tree, list_of}
use Rattle.keyed_tree.specs.Data.{PlainKey, tag}
use Rattle.key_spec.specs.Data.{PlainPath, PlainRule}
use Rattle.key_spec.specs.Rules.{rule_of, is_frontier, below}
use Rattle.key_rules.specs.Reach.{reach}
use Rattle.key_rules.specs.Labels.{PlainLabelFault, unkeyed, missing, twice, and_then, one_of, keys_from, label_by}
use Rattle.key_rules.specs.Satisfies.{is_space_only, item_label}
use Rattle.key_rules.specs.Faults.{PlainKeyFault, HasItsPath, label_fault, item_fault, first_bad_item, first_repeat, repeated_item, fault_among, item_place, content_fault, tree_fault, row_fault, first_fault}

-- the number of a key path without one value is that of a path
abbrev Within : ℕ → ℕ → PlainLabelFault → Type 0
Within low high unkeyed = Unit {0}
Within low high (missing m) = (low ≤ m) × (m < high)
Within low high (twice m) = (low ≤ m) × (m < high)

wider : (a b c d : ℕ) (e : PlainLabelFault) → c ≤ a → b ≤ d → Within a b e → Within c d e
wider a b c d unkeyed h g w = tt
wider a b c d (missing m) h g w = (let low : a ≤ m = w.0 in let high : m < b = w.1 in (omega arith, omega arith))
wider a b c d (twice m) h g w = (let low : a ≤ m = w.0 in let high : m < b = w.1 in (omega arith, omega arith))

abbrev InErr : {A : Type 0} → ℕ → ℕ → Result A PlainLabelFault → Type 0
InErr low high (Ok x) = Unit {0}
InErr low high (Err e) = Within low high e

keys-within : (n : ℕ) (ps : List PlainPath) (c : PlainContent) → InErr n (n + length ps) (keys_from n ps c)
keys-within n [] c = tt
keys-within n (p ∷ ps) c =
    elim (reach c p) as (λ r. InErr n (n + length (p ∷ ps)) (and_then (one_of n r) (λ k. and_then (keys_from (n + 1) ps c) (λ ks. Ok (k ∷ ks))))) [
      | [] ↦ (omega arith, omega arith)
      | k ∷ r ↦ elim r as (λ r. InErr n (n + length (p ∷ ps)) (and_then (one_of n (k ∷ r)) (λ k. and_then (keys_from (n + 1) ps c) (λ ks. Ok (k ∷ ks))))) [
        | [] ↦ later n ps k (keys_from (n + 1) ps c) (keys-within (n + 1) ps c)
        | j ∷ r ↦ (omega arith, omega arith)
      ]
    ]
  where
    later : (n : ℕ) (ps : List PlainPath) (k : PlainKey) (r : Result (List PlainKey) PlainLabelFault) → InErr (n + 1) (n + 1 + length ps) r → InErr n (n + suc (length ps)) (and_then r (λ ks. Ok (k ∷ ks)))
    later n ps k (Ok ks) h = tt
    later n ps k (Err e) h = wider (n + 1) (n + 1 + length ps) n (n + suc (length ps)) e (omega arith) (omega arith) h

some-at : {X : Type 0} (xs : List X) (i : ℕ) → i < length xs → is_some (slice_get xs i) ≡ true
some-at [] i h = absurd (omega arith)
some-at (x ∷ xs) zero h = refl
some-at (x ∷ xs) (suc i) h = some-at xs i (omega arith)

label-path : (rule : Option PlainRule) (place : List ℕ) (t : List ℕ) (c : PlainContent) → IfSome (label_fault rule place (label_by rule t c)) HasItsPath
label-path None place t c = refl
label-path (Some r) place t c = go (keys_from 1 r.paths c) (keys-within 1 r.paths c)
  where
    go : (o : Result (List PlainKey) PlainLabelFault) → InErr 1 (1 + length r.paths) o → IfSome (label_fault (Some r) place (and_then o (λ ks. Ok (record { name = tag t; keys = ks })))) HasItsPath
    go (Ok ks) h = tt
    go (Err unkeyed) h = refl
    go (Err (missing n)) h = (let low : 1 ≤ n = h.0 in let high : n < 1 + length r.paths = h.1 in some-at r.paths (n - 1) (omega arith))
    go (Err (twice n)) h = (let low : 1 ≤ n = h.0 in let high : n < 1 + length r.paths = h.1 in some-at r.paths (n - 1) (omega arith))

or-path : (x y : Option PlainKeyFault) → IfSome x HasItsPath → IfSome y HasItsPath → IfSome (option_or x y) HasItsPath
or-path None y h g = g
or-path (Some f) y h g = h

text-path : (b : Bool) (place : List ℕ) → IfSome (cond b None (Some (record { place = place; why = 2; path = None }))) HasItsPath
text-path true place = tt
text-path false place = refl

item-path : (rules : List PlainRule) (path : List (List ℕ)) (place : List ℕ) (t : PlainTree) → IfSome (item_fault rules path place t) HasItsPath
item-path rules path place (text s) = text-path (is_space_only s) place
item-path rules path place (element t c) = label-path (rule_of rules path t) place t c

bad-path : (rules : List PlainRule) (path : List (List ℕ)) (at : ℕ → List ℕ) (n : ℕ) (ts : List PlainTree) → IfSome (first_bad_item rules path at n ts) HasItsPath
bad-path rules path at n [] = tt
bad-path rules path at n (t ∷ ts) = or-path (item_fault rules path (at n) t) (first_bad_item rules path at (n + 1) ts) (item-path rules path (at n) t) (bad-path rules path at (n + 1) ts)

repeat-path : (at : ℕ → List ℕ) (o : Option ℕ) → IfSome (option_map (λ i. record { place = at (i + 1); why = 5; path = None }) o) HasItsPath
repeat-path at None = tt
repeat-path at (Some i) = refl

among-path : (rules : List PlainRule) (path : List (List ℕ)) (at : ℕ → List ℕ) (ts : List PlainTree) (inside : Option PlainKeyFault) → IfSome inside HasItsPath → IfSome (fault_among rules path at ts inside) HasItsPath
among-path rules path at ts inside h =
    or-path (first_bad_item rules path at 1 ts) (option_or (repeated_item rules path at ts) inside) (bad-path rules path at 1 ts)
    (or-path (repeated_item rules path at ts) inside (repeat-path at (first_repeat (map (item_label rules path) ts))) h)

frontier-path : (b : Bool) (o : Option PlainKeyFault) → IfSome o HasItsPath → IfSome (cond b None o) HasItsPath
frontier-path true o h = tt
frontier-path false o h = h

mutual
  content-path : (rules : List PlainRule) (path : List (List ℕ)) (place : List ℕ) (c : PlainContent) → IfSome (content_fault rules path place c) HasItsPath
  content-path rules path place (content xs ts) =
      frontier-path (is_frontier rules path) (fault_among rules path (item_place place) (list_of ts) (row_fault rules path (item_place place) 1 ts))
      (among-path rules path (item_place place) (list_of ts) (row_fault rules path (item_place place) 1 ts) (row-path rules path (item_place place) 1 ts))

  tree-path : (rules : List PlainRule) (path : List (List ℕ)) (place : List ℕ) (t : PlainTree) → IfSome (tree_fault rules path place t) HasItsPath
  tree-path rules path place (text s) = tt
  tree-path rules path place (element t c) = content-path rules (below path t) place c

  row-path : (rules : List PlainRule) (path : List (List ℕ)) (at : ℕ → List ℕ) (n : ℕ) (ts : PlainTrees) → IfSome (row_fault rules path at n ts) HasItsPath
  row-path rules path at n no_trees = tt
  row-path rules path at n (tree t ts) = or-path (tree_fault rules path (at n) t) (row_fault rules path at (n + 1) ts) (tree-path rules path (at n) t) (row-path rules path at (n + 1) ts)

pub first_fault-path : (rules : List PlainRule) (t : PlainTree) → IfSome (first_fault rules t) HasItsPath
first_fault-path rules t = among-path rules [] (λ _. []) (t ∷ []) (tree_fault rules [] [] t) (tree-path rules [] [] t)

pub ruleset paths = (first_fault-path)
