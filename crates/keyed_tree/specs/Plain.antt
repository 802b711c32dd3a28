-- The element that a proper keyed tree spells.
pub use Rattle.keyed_tree.specs.Data.{name_bytes}
use Rattle.std.specs.Prelude.{List, [], ◌∷◌}
use Rattle.jsonml_tree.specs.Data.{PlainAttr, PlainTree, element, PlainContent, content, PlainTrees, no_trees, tree}
use Rattle.keyed_tree.specs.Data.{PlainName, attr, tag, PlainKey, scalar, inside, PlainKeyed, inner, leaf, PlainKids, no_kids, kid, label_of}

-- the content of a leaf's body; a scalar, which a proper tree has at attributes alone, spells no content
abbrev pub content_of : PlainKey → PlainContent
content_of (scalar s) = content [] no_trees
content_of (inside c) = c

-- an attribute of this name and scalar before the others
abbrev pub attr_before : PlainName → PlainKey → List PlainAttr → List PlainAttr
attr_before (attr s) (scalar v) rest = record { name = s; value = v } ∷ rest
attr_before (attr s) (inside c) rest = rest
attr_before (tag s) b rest = rest

-- a leaf that is named by an attribute, as that attribute before the others
abbrev pub attr_onto : PlainKeyed → List PlainAttr → List PlainAttr
attr_onto (inner l ks) rest = rest
attr_onto (leaf l b) rest = attr_before l.name b rest

-- the attributes among the kids, in their order
abbrev pub attrs_among : PlainKids → List PlainAttr
attrs_among no_kids = []
attrs_among (kid k ks) = attr_onto k (attrs_among ks)

-- a kid that is named by a tag, before the other items
abbrev pub item_onto : PlainName → PlainTree → PlainTrees → PlainTrees
item_onto (attr s) t rest = rest
item_onto (tag s) t rest = tree t rest

abbrev mutual
  -- A leaf is the element of its tag and its body. An inner node is the element of its tag with its attribute kids as
  -- attributes and its element kids as items, in their order.
  pub plain : PlainKeyed → PlainTree
  plain (inner l ks) = element (name_bytes l.name) (content (attrs_among ks) (items_among ks))
  plain (leaf l b) = element (name_bytes l.name) (content_of b)

  pub items_among : PlainKids → PlainTrees
  items_among no_kids = no_trees
  items_among (kid k ks) = item_onto (label_of k).name (plain k) (items_among ks)
