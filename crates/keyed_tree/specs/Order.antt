-- The order of key values and labels.
use Rattle.std.specs.Ordering.{ordering_then}
use Rattle.std.specs.declared.cmp.Ordering.{Ordering}
use Rattle.std.specs.declared.cmp.Ordering.TheVariants.{Less, Greater}
use Rattle.std.specs.Cmp.Lexicographic.{slice_cmp}
use Rattle.jsonml_tree.specs.Order.{text_cmp, scalar_cmp, content_cmp}
use Rattle.keyed_tree.specs.Data.{PlainName, attr, tag, PlainKey, scalar, inside, PlainLabel}

-- attributes before elements, and each by the bytes of its name
abbrev pub name_cmp : PlainName → PlainName → Ordering
name_cmp (attr r) (attr s) = text_cmp r s
name_cmp (attr r) (tag s) = Less
name_cmp (tag r) (attr s) = Greater
name_cmp (tag r) (tag s) = text_cmp r s

-- a scalar before a content
abbrev pub key_cmp : PlainKey → PlainKey → Ordering
key_cmp (scalar r) (scalar s) = scalar_cmp r s
key_cmp (scalar r) (inside d) = Less
key_cmp (inside c) (scalar s) = Greater
key_cmp (inside c) (inside d) = content_cmp c d

-- by name, then by the list of key values
abbrev pub label_cmp : PlainLabel → PlainLabel → Ordering
label_cmp a b = ordering_then (name_cmp a.name b.name) (slice_cmp key_cmp a.keys b.keys)
