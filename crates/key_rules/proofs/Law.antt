-- There is no first fault exactly where the keys are satisfied.
use Rattle.std.proofs.Common.{◌≡◌, ◌↔◌, ℕ, zero, suc, ◌+◌, Bool, true, false, cond, IsTrue, List, [], ◌∷◌, map, Option, Some, None, Result, Ok, Err, IfOk, refl, sym, ap, inl, inr, arith, true≢false}
use Rattle.std.specs.Result.{IsOk}
use Rattle.std.specs.Bool.{OnFalse}
use Rattle.std.specs.Option.{option_and_then, option_map, option_or, IsNone}
use Rattle.std.specs.List.{AllByRecursion, slice_get}
use Rattle.std.proofs.lemmas.Bool.{cases_lt}
use Rattle.jsonml_tree.specs.Data.{PlainTree, text, element, PlainContent, content, PlainTrees, no_trees, tree, list_of}
use Rattle.keyed_tree.specs.Data.{PlainLabel}
use Rattle.key_spec.specs.Data.{PlainRule}
use Rattle.key_spec.specs.Rules.{rule_of, is_frontier, below}
use Rattle.key_rules.specs.Labels.{PlainLabelFault, unkeyed, missing, twice, label_in}
use Rattle.key_rules.specs.Satisfies.{is_space_only, ItemIsGood, item_label, AreApart, ItemsSatisfy, ContentSatisfies, TreeSatisfies, EachSatisfies, Satisfies}
use Rattle.key_rules.specs.Faults.{PlainKeyFault, label_fault, item_fault, first_bad_item, first_repeat, repeated_item, fault_among, item_place, content_fault, tree_fault, row_fault, first_fault}
use Rattle.key_rules.proofs.Repeats.{Differ, first_repeat-None}

option_or-None : {A : Type 0} (x y : Option A) → (option_or x y ≡ None) ↔ ((x ≡ None) × (y ≡ None))
option_or-None None y = (λ e. (refl, e), λ h. h.1)
option_or-None (Some a) y = (λ e. cc, λ h. h.0)

label_fault-None : (rule : Option PlainRule) (place : List ℕ) (r : Result PlainLabel PlainLabelFault) → (label_fault rule place r ≡ None) ↔ IsOk r
label_fault-None rule place (Ok l) = (λ e. refl, λ h. refl)
label_fault-None rule place (Err unkeyed) = (λ e. cc, λ h. absurd (true≢false (sym h)))
label_fault-None rule place (Err (missing n)) = (λ e. cc, λ h. absurd (true≢false (sym h)))
label_fault-None rule place (Err (twice n)) = (λ e. cc, λ h. absurd (true≢false (sym h)))

blank_fault : (b : Bool) (f : PlainKeyFault) → (cond b None (Some f) ≡ None) ↔ IsTrue b
blank_fault true f = (λ e. refl, λ h. refl)
blank_fault false f = (λ e. cc, λ h. absurd (true≢false (sym h)))

item_fault-None : (rules : List PlainRule) (path : List (List ℕ)) (place : List ℕ) (t : PlainTree) → (item_fault rules path place t ≡ None) ↔ ItemIsGood rules path t
item_fault-None rules path place (text s) = blank_fault (is_space_only s) _
item_fault-None rules path place (element t c) = label_fault-None (rule_of rules path t) place (label_in rules path t c)

first_bad_item-None : (rules : List PlainRule) (path : List (List ℕ)) (at : ℕ → List ℕ) (n : ℕ) (ts : List PlainTree)
    → (first_bad_item rules path at n ts ≡ None) ↔ AllByRecursion (ItemIsGood rules path) ts
first_bad_item-None rules path at n [] = (λ e. tt, λ h. refl)
first_bad_item-None rules path at n (t ∷ ts) =
    let both = option_or-None (item_fault rules path (at n) t) (first_bad_item rules path at (n + 1) ts) in
    let this = item_fault-None rules path (at n) t in
    let rest = first_bad_item-None rules path at (n + 1) ts in
    (λ e. (let two = both.0 e in (this.0 two.0, rest.0 two.1)), λ h. both.1 (this.1 h.0, rest.1 h.1))

-- the label of an item, found among the labels of all items
label_at-get : (f : PlainTree → Option PlainLabel) (ts : List PlainTree) (i : ℕ) (l : PlainLabel)
    → (option_and_then f (slice_get ts i) ≡ Some l) ↔ (slice_get (map f ts) i ≡ Some (Some l))
label_at-get f [] i l = (λ e. cc, λ e. cc)
label_at-get f (t ∷ ts) zero l = (λ e. ap (λ o. Some o) e, λ e. cc)
label_at-get f (t ∷ ts) (suc i) l = label_at-get f ts i l

pub apart-differ : (rules : List PlainRule) (path : List (List ℕ)) (ts : List PlainTree) → AreApart rules path ts ↔ Differ (map (item_label rules path) ts)
apart-differ rules path ts =
    let at = label_at-get (item_label rules path) ts in (
      λ a i j k l low at_i at_j. a i j k l (λ e. absurd (omega arith)) ((at i k).1 at_i) ((at j l).1 at_j),
      λ d i j k l other at_i at_j. elim (cases_lt i j) [
        | inl h ↦ d i j k l h ((at i k).0 at_i) ((at j l).0 at_j)
        | inr h ↦ λ e. d j i l k (omega arith) ((at j l).0 at_j) ((at i k).0 at_i) (sym e)
      ],
    )

mapped-None : {A B : Type 0} (f : A → B) (o : Option A) → (option_map f o ≡ None) ↔ (o ≡ None)
mapped-None f None = (λ e. refl, λ e. refl)
mapped-None f (Some x) = (λ e. cc, λ e. cc)

repeated_item-None : (rules : List PlainRule) (path : List (List ℕ)) (at : ℕ → List ℕ) (ts : List PlainTree)
    → (repeated_item rules path at ts ≡ None) ↔ AreApart rules path ts
repeated_item-None rules path at ts =
    let ls = map (item_label rules path) ts in
    let mapped = mapped-None (λ i. record { place = at (i + 1); why = 5; path = None }) (first_repeat ls) in
    let differ = first_repeat-None ls in
    let apart = apart-differ rules path ts in
    (λ e. apart.1 (differ.0 (mapped.0 e)), λ a. mapped.1 (differ.1 (apart.0 a)))

fault_among-None : (rules : List PlainRule) (path : List (List ℕ)) (at : ℕ → List ℕ) (ts : List PlainTree) (inside : Option PlainKeyFault) (within : Type 0)
    → (inside ≡ None) ↔ within → (fault_among rules path at ts inside ≡ None) ↔ ItemsSatisfy rules path ts within
fault_among-None rules path at ts inside within h =
    let outer = option_or-None (first_bad_item rules path at 1 ts) (option_or (repeated_item rules path at ts) inside) in
    let inner = option_or-None (repeated_item rules path at ts) inside in
    let good = first_bad_item-None rules path at 1 ts in
    let apart = repeated_item-None rules path at ts in (
      λ e. (let two = outer.0 e in let three = inner.0 two.1 in record { good = good.0 two.0; apart = apart.0 three.0; inside = h.0 three.1 }),
      λ s. outer.1 (good.1 s.good, inner.1 (apart.1 s.apart, h.1 s.inside)),
    )

at_frontier : (b : Bool) (o : Option PlainKeyFault) (P : Type 0) → (o ≡ None) ↔ P → (cond b None o ≡ None) ↔ OnFalse b P
at_frontier true o P h = (λ e. tt, λ p. refl)
at_frontier false o P h = h

mutual
  content_fault-None : (rules : List PlainRule) (path : List (List ℕ)) (place : List ℕ) (c : PlainContent) → (content_fault rules path place c ≡ None) ↔ ContentSatisfies rules path c
  content_fault-None rules path place (content xs ts) =
      at_frontier (is_frontier rules path) _ _ (fault_among-None rules path (item_place place) (list_of ts) _ _ (row_fault-None rules path (item_place place) 1 ts))

  tree_fault-None : (rules : List PlainRule) (path : List (List ℕ)) (place : List ℕ) (t : PlainTree) → (tree_fault rules path place t ≡ None) ↔ TreeSatisfies rules path t
  tree_fault-None rules path place (text s) = (λ e. tt, λ h. refl)
  tree_fault-None rules path place (element t c) = content_fault-None rules (below path t) place c

  row_fault-None : (rules : List PlainRule) (path : List (List ℕ)) (at : ℕ → List ℕ) (n : ℕ) (ts : PlainTrees) → (row_fault rules path at n ts ≡ None) ↔ EachSatisfies rules path ts
  row_fault-None rules path at n no_trees = (λ e. tt, λ h. refl)
  row_fault-None rules path at n (tree t ts) =
      let both = option_or-None (tree_fault rules path (at n) t) (row_fault rules path at (n + 1) ts) in
      let this = tree_fault-None rules path (at n) t in
      let rest = row_fault-None rules path at (n + 1) ts in
      (λ e. (let two = both.0 e in (this.0 two.0, rest.0 two.1)), λ h. both.1 (this.1 h.0, rest.1 h.1))

-- there is no first fault exactly where the document satisfies the keys
pub first_fault-None : (rules : List PlainRule) (t : PlainTree) → (first_fault rules t ≡ None) ↔ Satisfies rules t
first_fault-None rules t = fault_among-None rules [] (λ _. []) (t ∷ []) _ _ (tree_fault-None rules [] [] t)

one_label : (o : Option PlainLabel) → first_repeat (o ∷ []) ≡ None
one_label None = refl
one_label (Some l) = refl

-- the root element is the one item of the virtual root, and so no item repeats its label
pub first_fault-root : (rules : List PlainRule) (t : PlainTree) → first_fault rules t ≡ option_or (item_fault rules [] [] t) (tree_fault rules [] [] t)
first_fault-root rules t = let none = one_label (item_label rules [] t) in rw none (right (item_fault rules [] [] t) (tree_fault rules [] [] t))
  where
    right : {A : Type 0} (x y : Option A) → option_or (option_or x None) y ≡ option_or x y
    right None y = refl
    right (Some x) y = refl

-- the same of the code's answer
pub none-where : {A : Type 0} (view : A → PlainKeyFault) (o : Option A) (rules : List PlainRule) (t : PlainTree) → option_map view o ≡ first_fault rules t → IsNone o ↔ Satisfies rules t
none-where view None rules t e = (λ _. (first_fault-None rules t).0 (sym e), λ _. refl)
none-where view (Some x) rules t e = (λ h. absurd (true≢false h), λ s. let none = (first_fault-None rules t).1 s in cc)

-- the same of an answer
pub none-in : {A E : Type 0} (view : A → PlainKeyFault) (r : Result (Option A) E) (rules : List PlainRule) (t : PlainTree)
    → IfOk r (λ f. option_map view f ≡ first_fault rules t) → IfOk r (λ f. IsNone f ↔ Satisfies rules t)
none-in view (Ok f) rules t e = none-where view f rules t e
none-in view (Err x) rules t h = tt

pub ruleset law = (first_fault-None, first_fault-root, none-where)
