-- The kids of a lent keyed tree, and what is inside each.
use Rattle.std.specs.Prelude.{List, ◌++◌, map}
use Rattle.jsonml_tree.specs.LentAttrs.{lent_attr_view}
use Rattle.keyed_tree.specs.Data.{PlainLabel, PlainKeyed, inner, leaf, kids_from}
use Rattle.keyed_tree.specs.LentView.{lent_val_view}
use Rattle.key_annotate.specs.KeyedOf.{attr_leaf}
use Rattle.key_annotate.specs.LentView.{lent_view}
use Rattle.keyed_parts.specs.declared.kid.Inside.{Inside}
use Rattle.keyed_parts.specs.declared.kid.Inside.TheVariants as held
use Rattle.keyed_parts.specs.declared.kid.Kid.{Kid}
use Rattle.keyed_parts.specs.declared.kid.Kid.TheVariants.{Attr, Node}
use Rattle.keyed_parts.specs.declared.kids.Kids.{Kids}

-- first the attributes, then the elements
abbrev pub kids_view : Kids → List PlainKeyed
kids_view ks = map attr_leaf (map lent_attr_view ks.attrs.now) ++ map lent_view ks.nodes.now

abbrev pub kid_view : Kid → PlainKeyed
kid_view (Attr a) = attr_leaf (lent_attr_view a.now)
kid_view (Node k) = lent_view k.now

-- the keyed tree with this label that has this inside
abbrev pub with_inside : PlainLabel → Inside → PlainKeyed
with_inside l (held.Kids ks) = inner l (kids_from (kids_view ks))
with_inside l (held.Body b) = leaf l (lent_val_view b)
