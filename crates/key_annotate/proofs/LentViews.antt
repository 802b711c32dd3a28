-- The view of each shape of a lent keyed tree.
use Rattle.std.proofs.Common.{◌≡◌, ℕ, true, List, ◌++◌, refl, ap, ◌∙◌, map, rules, Vec, Box, Global, Bor}
use Rattle.jsonml_tree.specs.LentAttrs.{lent_attr_view}
use Rattle.jsonml_tree.specs.LentView.{lent_content_view, lent_row_view, only_text}
use Rattle.jsonml_tree.specs.declared.lent.LentContent.{LentContent}
use Rattle.jsonml_tree.specs.declared.lent.LentRow.{LentRow}
use Rattle.keyed_tree.specs.Data.{PlainKeyed, inner, leaf, inside, kids_from, label_of}
use Rattle.keyed_tree.specs.Proper.{is_tag}
use Rattle.key_annotate.specs.KeyedOf.{attr_leaf}
use Rattle.key_annotate.specs.LabelView.{keyed_label_view, values_view}
use Rattle.key_annotate.specs.LentView.{bare_leaf, lent_step, lent_view}
use Rattle.key_annotate.specs.declared.label.KeyedLabel.{KeyedLabel}
use Rattle.key_annotate.specs.declared.label.Values.{Values}
use Rattle.key_annotate.specs.declared.label.Values.TheVariants as values
use Rattle.key_annotate.specs.declared.lent.Head.{Head}
use Rattle.key_annotate.specs.declared.lent.LentKeyed.{LentKeyed, LentKeyed-F, Text, Row, Leaf, Inner, fold_out-LentKeyed, the_lemmas}

pub lent_view-Text : (t s : Bor (List ℕ)) → lent_view (Text t s) ≡ bare_leaf t.now (only_text s.now)
lent_view-Text t s = search (rules, the_lemmas)

pub lent_view-Row : (t : Bor (List ℕ)) (row : Bor LentRow) → lent_view (Row t row) ≡ bare_leaf t.now (lent_row_view row.now)
lent_view-Row t row = search (rules, the_lemmas)

pub lent_view-Leaf : (l : Box KeyedLabel Global) (c : LentContent) → lent_view (Leaf l c) ≡ leaf (keyed_label_view l.value) (inside (lent_content_view c))
lent_view-Leaf l c = search (rules, the_lemmas)

pub lent_view-Inner : (h : Box Head Global) (ks : Vec LentKeyed Global)
    → lent_view (Inner h ks) ≡ inner (keyed_label_view h.value.label) (kids_from (map attr_leaf (map lent_attr_view h.value.attrs.now) ++ map lent_view ks.items))
lent_view-Inner h ks = search (rules, the_lemmas)

-- the label of an element is named by a tag
values-tagged : (v : Values) → is_tag (values_view v).name ≡ true
values-tagged (values.Text t f) = refl
values-tagged (values.Other l) = refl

pub label-tagged : (l : KeyedLabel) → is_tag (keyed_label_view l).name ≡ true
label-tagged l = values-tagged l.values

-- so is that of a lent keyed tree
step-tagged : (k : LentKeyed-F PlainKeyed) → is_tag (label_of (lent_step k)).name ≡ true
step-tagged (LentKeyed-F.Text t s) = refl
step-tagged (LentKeyed-F.Row t row) = refl
step-tagged (LentKeyed-F.Leaf l c) = label-tagged l.value
step-tagged (LentKeyed-F.Inner h ks) = label-tagged h.value.label

pub lent-tagged : (k : LentKeyed) → is_tag (label_of (lent_view k)).name ≡ true
lent-tagged k = ap (λ v. is_tag (label_of v).name) (fold_out-LentKeyed PlainKeyed lent_step k) ∙ step-tagged _

pub ruleset lent_views = (lent_view-Text, lent_view-Row, lent_view-Leaf, lent_view-Inner)
