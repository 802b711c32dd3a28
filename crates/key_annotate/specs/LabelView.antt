-- The label of a lent keyed tree.
use Rattle.std.specs.Prelude.{ℕ, Bool, true, false, List, [], ◌∷◌, map}
use Rattle.jsonml_tree.specs.Data.{string}
use Rattle.jsonml_tree.specs.LentView.{only_text}
use Rattle.keyed_tree.specs.Data.{PlainKey, scalar, inside, PlainLabel, tag}
use Rattle.keyed_tree.specs.LentView.{lent_val_view}
use Rattle.key_rules.specs.LentView.{lent_label_view}
use Rattle.key_annotate.specs.FrontedText.{fronted_text}
use Rattle.key_annotate.specs.declared.label.KeyList.{KeyList}
use Rattle.key_annotate.specs.declared.label.KeyList.TheVariants.{One, Row}
use Rattle.key_annotate.specs.declared.label.KeyedLabel.{KeyedLabel}
use Rattle.key_annotate.specs.declared.label.TextKey.{TextKey}
use Rattle.key_annotate.specs.declared.label.Values.{Values}
use Rattle.key_annotate.specs.declared.label.Values.TheVariants.{Text, Other}

-- a key value that is one text: a scalar, or the content of this text and nothing else
abbrev pub key_of_text : Bool → List ℕ → PlainKey
key_of_text true s = scalar (string s)
key_of_text false s = inside (only_text s)

abbrev pub text_key_view : TextKey → PlainKey
text_key_view k = key_of_text k.is_scalar (fronted_text k.text)

-- a tag without key values
abbrev pub label_of_tag : List ℕ → PlainLabel
label_of_tag t = record { name = tag t; keys = [] }

-- a tag with one key value
abbrev pub label_of_one : List ℕ → PlainKey → PlainLabel
label_of_one t k = record { name = tag t; keys = k ∷ [] }

abbrev pub values_view : Values → PlainLabel
values_view (Text t k) = label_of_one t.now (text_key_view k)
values_view (Other l) = lent_label_view l

abbrev pub keyed_label_view : KeyedLabel → PlainLabel
keyed_label_view l = values_view l.values

abbrev pub key_list_view : KeyList → List PlainKey
key_list_view (One k) = lent_val_view k ∷ []
key_list_view (Row ks) = map lent_val_view ks.now
