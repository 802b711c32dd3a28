-- Which keyed trees are proper: those that spell an element.
use Rattle.std.specs.Prelude.{Bool, true, false, ◌&&◌, List, [], ◌∷◌, IsTrue}
use Rattle.keyed_tree.specs.Data.{PlainName, attr, tag, PlainKey, scalar, inside, PlainKeyed, inner, leaf, PlainKids, no_kids, kid}
use Rattle.keyed_tree.specs.Kids.{ascend}

abbrev pub is_tag : PlainName → Bool
is_tag (attr s) = false
is_tag (tag s) = true

-- the tree is named by a tag
abbrev pub IsElement : PlainKeyed → Type 0
IsElement (inner l ks) = IsTrue (is_tag l.name)
IsElement (leaf l b) = IsTrue (is_tag l.name)

abbrev pub has_no_keys : List PlainKey → Bool
has_no_keys [] = true
has_no_keys (k ∷ ks) = false

abbrev pub is_scalar : PlainKey → Bool
is_scalar (scalar s) = true
is_scalar (inside c) = false

abbrev pub is_content : PlainKey → Bool
is_content (scalar s) = false
is_content (inside c) = true

-- a leaf named by an attribute has no key values and a scalar as body, one named by a tag has a content as body
abbrev pub is_leaf_proper : PlainName → List PlainKey → PlainKey → Bool
is_leaf_proper (attr s) keys b = has_no_keys keys && is_scalar b
is_leaf_proper (tag s) keys b = is_content b

abbrev mutual
  pub is_proper : PlainKeyed → Bool
  is_proper (inner l ks) = is_tag l.name && ascend ks && are_proper ks
  is_proper (leaf l b) = is_leaf_proper l.name l.keys b

  pub are_proper : PlainKids → Bool
  are_proper no_kids = true
  are_proper (kid k ks) = is_proper k && are_proper ks

-- kids ascend strictly at every node, a node named by an attribute is a leaf without key values whose body is a scalar,
-- and a leaf named by a tag has a content as body
abbrev pub IsProper : PlainKeyed → Type 0
IsProper k = IsTrue (is_proper k)
