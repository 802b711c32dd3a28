-- The keyed tree that a lent one is.
use Rattle.std.specs.Prelude.{ℕ, List, ◌++◌, map}
use Rattle.jsonml_tree.specs.Data.{PlainContent}
use Rattle.jsonml_tree.specs.LentAttrs.{lent_attr_view}
use Rattle.jsonml_tree.specs.LentView.{lent_content_view, lent_row_view, only_text}
use Rattle.keyed_tree.specs.Data.{PlainKeyed, inner, leaf, inside, kids_from}
use Rattle.key_annotate.specs.KeyedOf.{attr_leaf}
use Rattle.key_annotate.specs.LabelView.{keyed_label_view, label_of_tag}
use Rattle.key_annotate.specs.declared.lent.LentKeyed.{LentKeyed, LentKeyed-F, fold-LentKeyed}

-- an element with this tag and content as a leaf without key values
abbrev pub bare_leaf : List ℕ → PlainContent → PlainKeyed
bare_leaf t c = leaf (label_of_tag t) (inside c)

abbrev pub lent_step : LentKeyed-F PlainKeyed → PlainKeyed
lent_step (LentKeyed-F.Text t s) = bare_leaf t.now (only_text s.now)
lent_step (LentKeyed-F.Row t row) = bare_leaf t.now (lent_row_view row.now)
lent_step (LentKeyed-F.Leaf l c) = leaf (keyed_label_view l.value) (inside (lent_content_view c))
lent_step (LentKeyed-F.Inner h ks) = inner (keyed_label_view h.value.label) (kids_from (map attr_leaf (map lent_attr_view h.value.attrs.now) ++ ks.items))

abbrev pub lent_view : LentKeyed → PlainKeyed
lent_view = fold-LentKeyed PlainKeyed lent_step
