-- What the element that a keyed tree spells holds.
use Rattle.jsonml_tree.specs.Data.{PlainContent, content}
use Rattle.keyed_tree.specs.Data.{PlainKeyed, inner, leaf}
use Rattle.keyed_tree.specs.Plain.{attrs_among, content_of, items_among}

-- all behind its tag
abbrev pub inside_of : PlainKeyed → PlainContent
inside_of (inner l ks) = content (attrs_among ks) (items_among ks)
inside_of (leaf l b) = content_of b
