-- Kids that ascend by label, and the kid with a label.
use Rattle.std.specs.Prelude.{◌≢◌, Bool, true, ◌&&◌, List, Option, IsTrue}
use Rattle.std.specs.List.{find}
use Rattle.std.specs.Ordering.{is_eq, is_lt}
use Rattle.keyed_tree.specs.Data.{PlainLabel, PlainKeyed, inner, leaf, PlainKids, no_kids, kid, label_of, kids_of}
use Rattle.keyed_tree.specs.Lists.{Has}
use Rattle.keyed_tree.specs.Order.{label_cmp}

-- each label is above the one before it, the first above this one
abbrev pub ascend_from : PlainLabel → PlainKids → Bool
ascend_from l no_kids = true
ascend_from l (kid k ks) = is_lt (label_cmp l (label_of k)) && ascend_from (label_of k) ks

abbrev pub ascend : PlainKids → Bool
ascend no_kids = true
ascend (kid k ks) = ascend_from (label_of k) ks

abbrev mutual
  pub is_ordered : PlainKeyed → Bool
  is_ordered (inner l ks) = ascend ks && are_ordered ks
  is_ordered (leaf l b) = true

  pub are_ordered : PlainKids → Bool
  are_ordered no_kids = true
  are_ordered (kid k ks) = is_ordered k && are_ordered ks

-- kids ascend strictly by label
abbrev pub Ascend : PlainKids → Type 0
Ascend ks = IsTrue (ascend ks)

-- kids ascend strictly by label at every node
abbrev pub IsOrdered : PlainKeyed → Type 0
IsOrdered k = IsTrue (is_ordered k)

-- the kid with the label: the first, where several have it
abbrev pub kid_at : PlainLabel → List PlainKeyed → Option PlainKeyed
kid_at l ks = find (λ k. is_eq (label_cmp (label_of k) l)) ks

-- no kid has the label
abbrev pub HasNoKid : PlainLabel → PlainKeyed → Type 0
HasNoKid l t = (k : PlainKeyed) → Has k (kids_of t) → label_of k ≢ l
