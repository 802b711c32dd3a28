-- What lent names and labels show.
pub use Rattle.keyed_tree.specs.LentView.{shown_name}
use Rattle.std.specs.Prelude.{List, map}
use Rattle.keyed_tree.specs.Data.{PlainLabel}
use Rattle.keyed_tree.specs.LentView.{lent_val_view}
use Rattle.keyed_tree.specs.declared.lent.LentVal.{LentVal}
use Rattle.keyed_tree.specs.declared.lent.NameView.{NameView}

-- the label of this name and these key values
abbrev pub named : NameView → List LentVal → PlainLabel
named name keys = record { name = shown_name name; keys = map lent_val_view keys }
