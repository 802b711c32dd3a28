-- Labels that a document lends.
use Rattle.std.specs.Prelude.{List, [], ◌∷◌, map}
use Rattle.keyed_tree.specs.Data.{PlainKey, PlainLabel, tag}
use Rattle.keyed_tree.specs.LentView.{lent_val_view}
use Rattle.key_rules.specs.declared.lent.LentKeys.{LentKeys}
use Rattle.key_rules.specs.declared.lent.LentKeys.TheVariants.{One, Row}
use Rattle.key_rules.specs.declared.lent.LentLabel.{LentLabel}

abbrev pub lent_keys_view : LentKeys → List PlainKey
lent_keys_view (One k) = lent_val_view k ∷ []
lent_keys_view (Row ks) = map lent_val_view ks.items

abbrev pub lent_label_view : LentLabel → PlainLabel
lent_label_view l = record { name = tag l.tag.now; keys = lent_keys_view l.keys }
