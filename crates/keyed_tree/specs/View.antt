-- The plain data that each value stands for.
use Rattle.std.specs.Prelude.{map, string_bytes}
use Rattle.jsonml_tree.specs.View.{scalar_view, content_view}
use Rattle.keyed_tree.specs.Data.{PlainName, attr, tag, PlainKey, scalar, inside, PlainLabel, PlainKeyed, inner, leaf, kids_from}
use Rattle.keyed_tree.specs.declared.label.Name.{Name}
use Rattle.keyed_tree.specs.declared.label.Name.TheVariants.{Attr, Tag}
use Rattle.keyed_tree.specs.declared.label.KeyVal.{KeyVal}
use Rattle.keyed_tree.specs.declared.label.KeyVal.TheVariants.{Scalar, Content}
use Rattle.keyed_tree.specs.declared.label.Label.{Label}
use Rattle.keyed_tree.specs.declared.keyed.Keyed.{Keyed, Keyed-F, fold-Keyed}

abbrev pub name_view : Name → PlainName
name_view (Attr s) = attr (string_bytes s)
name_view (Tag s) = tag (string_bytes s)

abbrev pub key_view : KeyVal → PlainKey
key_view (Scalar s) = scalar (scalar_view s)
key_view (Content c) = inside (content_view c)

abbrev pub label_view : Label → PlainLabel
label_view l = record { name = name_view l.name; keys = map key_view l.keys.items }

abbrev pub keyed_step : Keyed-F PlainKeyed → PlainKeyed
keyed_step (Keyed-F.Inner l ks) = inner (label_view l) (kids_from ks.items)
keyed_step (Keyed-F.Leaf l b) = leaf (label_view l) (key_view b)

abbrev pub keyed_view : Keyed → PlainKeyed
keyed_view = fold-Keyed PlainKeyed keyed_step
