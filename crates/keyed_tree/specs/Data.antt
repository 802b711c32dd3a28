-- What a keyed tree is: plain data, with a list of bytes for each text.
use Rattle.std.specs.Prelude.{ℕ, List, [], ◌∷◌}
use Rattle.jsonml_tree.specs.Data.{PlainScalar, PlainContent}

-- the name of a node: that of an attribute, or the tag of an element
pub data PlainName : Type 0 where
  attr : List ℕ → PlainName
  tag : List ℕ → PlainName

abbrev pub name_bytes : PlainName → List ℕ
name_bytes (attr s) = s
name_bytes (tag s) = s

-- a key value, and likewise the body of a leaf
pub data PlainKey : Type 0 where
  scalar : PlainScalar → PlainKey
  inside : PlainContent → PlainKey

pub record PlainLabel : Type 0 where
  pub name : PlainName
  pub keys : List PlainKey

mutual
  pub data PlainKeyed : Type 0 where
    inner : PlainLabel → PlainKids → PlainKeyed
    leaf : PlainLabel → PlainKey → PlainKeyed

  pub data PlainKids : Type 0 where
    no_kids : PlainKids
    kid : PlainKeyed → PlainKids → PlainKids

-- the kids of a list, one after another
abbrev pub kids_from : List PlainKeyed → PlainKids
kids_from [] = no_kids
kids_from (k ∷ ks) = kid k (kids_from ks)

-- the kids of a row, as a list
abbrev pub kids_list : PlainKids → List PlainKeyed
kids_list no_kids = []
kids_list (kid k ks) = k ∷ kids_list ks

abbrev pub label_of : PlainKeyed → PlainLabel
label_of (inner l ks) = l
label_of (leaf l b) = l

-- the kids of an inner node, and none of a leaf
abbrev pub kids_of : PlainKeyed → List PlainKeyed
kids_of (inner l ks) = kids_list ks
kids_of (leaf l b) = []
