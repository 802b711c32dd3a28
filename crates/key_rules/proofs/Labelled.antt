-- The label of an element that is well formed is well formed.
use Rattle.std.proofs.Common.{◌≡◌, ℕ, ◌+◌, Bool, true, false, cond, ◌&&◌, IsTrue, List, [], ◌∷◌, ◌++◌, Option, Some, None, Result, Ok, Err, IfOk, refl, ap, subst}
use Rattle.std.specs.Option.{option_map}
use Rattle.std.specs.List.{AllByRecursion, find, flat_map, cons_option}
use Rattle.std.specs.Str.{bytes_eq}
use Rattle.jsonml_tree.specs.Data.{PlainScalar, PlainAttr, PlainTree, text, element, PlainContent, content, PlainTrees, no_trees, tree}
use Rattle.jsonml_tree.specs.WellFormed.{is_in_range, is_ascending, are_in_range, is_content_well_formed, are_well_formed, IsWellFormed}
use Rattle.keyed_tree.specs.Data.{PlainKey, scalar, PlainLabel, tag}
use Rattle.keyed_tree.specs.View.{label_view}
use Rattle.keyed_tree.specs.declared.label.Label.{Label}
use Rattle.keyed_tree.specs.WellFormed.{is_key_well_formed, are_keys_well_formed, IsLabelWellFormed}
use Rattle.keyed_tree.proofs.Kids.{both}
use Rattle.key_spec.specs.Data.{PlainPath, PlainRule}
use Rattle.key_spec.specs.Rules.{rule_of}
use Rattle.key_rules.specs.Reach.{attrs_in, items_in, children, found, scalar_named, values_at, reach}
use Rattle.key_rules.specs.declared.fault.LabelFault.{LabelFault}
use Rattle.key_rules.specs.Labels.{PlainLabelFault, and_then, one_of, keys_from, label_by, label_in, tree_label}

abbrev IsGood : PlainContent → Type 0
IsGood c = IsTrue (is_content_well_formed c)

abbrev IsGoodKey : PlainKey → Type 0
IsGoodKey k = IsTrue (is_key_well_formed k)

pub all_append : {X : Type 0} (P : X → Type 0) (xs ys : List X) → AllByRecursion P xs → AllByRecursion P ys → AllByRecursion P (xs ++ ys)
all_append P [] ys h g = g
all_append P (x ∷ xs) ys h g = (h.0, all_append P xs ys h.1 g)

all_flat : {X Y : Type 0} (P : X → Type 0) (Q : Y → Type 0) (f : X → List Y) → ((x : X) → P x → AllByRecursion Q (f x)) → (xs : List X) → AllByRecursion P xs → AllByRecursion Q (flat_map f xs)
all_flat P Q f each [] h = tt
all_flat P Q f each (x ∷ xs) h = all_append Q (f x) (flat_map f xs) (each x h.0) (all_flat P Q f each xs h.1)

children_good : (t : List ℕ) (ts : PlainTrees) → IsTrue (are_well_formed ts) → AllByRecursion IsGood (children t ts)
children_good t no_trees h = tt
children_good t (tree (text s) ts) h = children_good t ts h
children_good t (tree (element u c) ts) h =
    let two = both (is_content_well_formed c) (are_well_formed ts) h in
    elim (bytes_eq u t) as (λ b. AllByRecursion IsGood (cond b (c ∷ children t ts) (children t ts))) [
      | true ↦ (two.0, children_good t ts two.1)
      | false ↦ children_good t ts two.1
    ]

items_good : (c : PlainContent) → IsGood c → IsTrue (are_well_formed (items_in c))
items_good (content xs ts) h = (both (is_ascending xs && are_in_range xs) (are_well_formed ts) h).1

attrs_good : (c : PlainContent) → IsGood c → IsTrue (are_in_range (attrs_in c))
attrs_good (content xs ts) h = (both (is_ascending xs) (are_in_range xs) (both (is_ascending xs && are_in_range xs) (are_well_formed ts) h).0).1

found_good : (ts : List (List ℕ)) (c : PlainContent) → IsGood c → AllByRecursion IsGood (found ts c)
found_good [] c h = (h, tt)
found_good (t ∷ ts) c h = all_flat IsGood IsGood (found ts) (found_good ts) (children t (items_in c)) (children_good t (items_in c) (items_good c h))

scalar_good : (name : List ℕ) (xs : List PlainAttr) (v : PlainScalar) → IsTrue (are_in_range xs) → scalar_named name xs ≡ Some v → IsTrue (is_in_range v)
scalar_good name [] v h e = cc
scalar_good name (a ∷ xs) v h e =
    let two = both (is_in_range a.value) (are_in_range xs) h in
    elim (bytes_eq a.name name) as (λ b. option_map (λ (x : PlainAttr). x.value) (cond b (Some a) (find (λ x. bytes_eq x.name name) xs)) ≡ Some v → IsTrue (is_in_range v)) [
      | true ↦ λ f. (let same : a.value ≡ v = cc in subst (λ w. IsTrue (is_in_range w)) same two.0)
      | false ↦ λ f. scalar_good name xs v two.1 f
    ] e

values_good : (name : Option (List ℕ)) (cs : List PlainContent) → AllByRecursion IsGood cs → AllByRecursion IsGoodKey (values_at name cs)
values_good None [] h = tt
values_good None (c ∷ cs) h = (h.0, values_good None cs h.1)
values_good (Some name) [] h = tt
values_good (Some name) (c ∷ cs) h =
    elim (scalar_named name (attrs_in c)) as (λ o. scalar_named name (attrs_in c) ≡ o → AllByRecursion IsGoodKey (cons_option (option_map scalar o) (values_at (Some name) cs))) [
      | None ↦ λ e. values_good (Some name) cs h.1
      | Some v ↦ λ e. (scalar_good name (attrs_in c) v (attrs_good c h.0) e, values_good (Some name) cs h.1)
    ] refl

pub both_true : (a b : Bool) → IsTrue a → IsTrue b → IsTrue (a && b)
both_true true b h g = g
both_true false b h g = h

-- the value, or another where there is a fault
abbrev value_or : {A : Type 0} → A → Result A PlainLabelFault → A
value_or other (Ok x) = x
value_or other (Err e) = other

keys_good : (n : ℕ) (ps : List PlainPath) (c : PlainContent) (ks : List PlainKey) → IsGood c → keys_from n ps c ≡ Ok ks → IsTrue (are_keys_well_formed ks)
keys_good n [] c ks h e = subst (λ z. IsTrue (are_keys_well_formed z)) (ap (value_or ks) e) refl
keys_good n (p ∷ ps) c ks h e =
    elim (reach c p) as (λ r. AllByRecursion IsGoodKey r → and_then (one_of n r) (λ k. and_then (keys_from (n + 1) ps c) (λ js. Ok (k ∷ js))) ≡ Ok ks → IsTrue (are_keys_well_formed ks)) [
      | [] ↦ λ g f. cc
      | k ∷ r ↦ elim r as (λ r. AllByRecursion IsGoodKey (k ∷ r) → and_then (one_of n (k ∷ r)) (λ k. and_then (keys_from (n + 1) ps c) (λ js. Ok (k ∷ js))) ≡ Ok ks → IsTrue (are_keys_well_formed ks)) [
        | [] ↦ λ g f. elim (keys_from (n + 1) ps c) as (λ o. keys_from (n + 1) ps c ≡ o → and_then o (λ js. Ok (k ∷ js)) ≡ Ok ks → IsTrue (are_keys_well_formed ks)) [
          | Ok js ↦ λ d f. subst (λ z. IsTrue (are_keys_well_formed z)) (ap (value_or ks) f) (both_true (is_key_well_formed k) (are_keys_well_formed js) g.0 (keys_good (n + 1) ps c js h d))
          | Err x ↦ λ d f. cc
        ] refl f
        | j ∷ r ↦ λ g f. cc
      ]
    ] (values_good p.attr (found p.tags c) (found_good p.tags c h)) e

pub label_by-good : (rule : Option PlainRule) (t : List ℕ) (c : PlainContent) (l : PlainLabel) → IsTrue (is_content_well_formed c) → label_by rule t c ≡ Ok l → IsLabelWellFormed l
label_by-good None t c l h e = cc
label_by-good (Some r) t c l h e =
    elim (keys_from 1 r.paths c) as (λ o. keys_from 1 r.paths c ≡ o → and_then o (λ ks. Ok (record { name = tag t; keys = ks })) ≡ Ok l → IsLabelWellFormed l) [
      | Ok ks ↦ λ d f. subst IsLabelWellFormed (ap (value_or l) f) (keys_good 1 r.paths c ks h d)
      | Err x ↦ λ d f. cc
    ] refl e

-- the label of an element that is well formed
pub label_in-good : (rules : List PlainRule) (context : List (List ℕ)) (t : List ℕ) (c : PlainContent) (l : PlainLabel) → IsTrue (is_content_well_formed c) → label_in rules context t c ≡ Ok l → IsLabelWellFormed l
label_in-good rules context t c l h e = label_by-good (rule_of rules context t) t c l h e

-- the same of a tree
pub tree_label-good : (rules : List PlainRule) (context : List (List ℕ)) (t : PlainTree) (l : PlainLabel) → IsWellFormed t → tree_label rules context t ≡ Ok l → IsLabelWellFormed l
tree_label-good rules context (text s) l h e = cc
tree_label-good rules context (element t c) l h e = label_in-good rules context t c l h e

-- the same of an answer
pub tree_label-all : (rules : List PlainRule) (context : List (List ℕ)) (t : PlainTree) (r : Result Label LabelFault) → IsWellFormed t
    → IfOk r (λ l. tree_label rules context t ≡ Ok (label_view l)) → IfOk r (λ l. IsLabelWellFormed (label_view l))
tree_label-all rules context t (Ok l) h e = tree_label-good rules context t (label_view l) h e
tree_label-all rules context t (Err x) h e = tt
