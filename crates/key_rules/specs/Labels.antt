-- The label of an element: its tag, with the one value of each key path of its rule.
use Rattle.std.specs.Prelude.{ℕ, ◌+◌, List, [], ◌∷◌, Option, Some, None, Result, Ok, Err}
use Rattle.jsonml_tree.specs.Data.{PlainTree, text, element, PlainContent}
use Rattle.keyed_tree.specs.Data.{PlainKey, PlainLabel, tag}
use Rattle.key_spec.specs.Data.{PlainPath, PlainRule}
use Rattle.key_spec.specs.Rules.{rule_of}
use Rattle.key_rules.specs.Reach.{reach}

-- why an element has no label: no rule is for it, or the key path of this number, from 1, has no value or several
pub data PlainLabelFault : Type 0 where
  unkeyed : PlainLabelFault
  missing : ℕ → PlainLabelFault
  twice : ℕ → PlainLabelFault

-- go on with the value, or keep the fault
abbrev pub and_then : {A B : Type 0} → Result A PlainLabelFault → (A → Result B PlainLabelFault) → Result B PlainLabelFault
and_then (Ok x) f = f x
and_then (Err e) f = Err e

-- the value of the n-th key path, which reaches exactly one
abbrev pub one_of : ℕ → List PlainKey → Result PlainKey PlainLabelFault
one_of n [] = Err (missing n)
one_of n (k ∷ []) = Ok k
one_of n (k ∷ j ∷ ks) = Err (twice n)

-- the one value of each key path, the first of which has the number n
abbrev pub keys_from : ℕ → List PlainPath → PlainContent → Result (List PlainKey) PlainLabelFault
keys_from n [] c = Ok []
keys_from n (p ∷ ps) c = and_then (one_of n (reach c p)) (λ k. and_then (keys_from (n + 1) ps c) (λ ks. Ok (k ∷ ks)))

abbrev pub label_by : Option PlainRule → List ℕ → PlainContent → Result PlainLabel PlainLabelFault
label_by None t c = Err unkeyed
label_by (Some r) t c = and_then (keys_from 1 r.paths c) (λ ks. Ok (record { name = tag t; keys = ks }))

-- the label of an element of this tag and content, under a context
abbrev pub label_in : List PlainRule → List (List ℕ) → List ℕ → PlainContent → Result PlainLabel PlainLabelFault
label_in rules context t c = label_by (rule_of rules context t) t c

-- the same of a tree, which is an element: a text has no tag, and so no rule
abbrev pub tree_label : List PlainRule → List (List ℕ) → PlainTree → Result PlainLabel PlainLabelFault
tree_label rules context (text s) = Err unkeyed
tree_label rules context (element t c) = label_in rules context t c
