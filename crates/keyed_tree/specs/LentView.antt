-- The plain data that lent names, key values and bodies stand for.
use Rattle.jsonml_tree.specs.LentAttrs.{lent_scalar_view}
use Rattle.jsonml_tree.specs.LentView.{lent_content_view}
use Rattle.keyed_tree.specs.Data.{PlainName, attr, tag, PlainKey, scalar, inside}
use Rattle.keyed_tree.specs.declared.lent.LentVal.{LentVal}
use Rattle.keyed_tree.specs.declared.lent.LentVal.TheVariants.{Scalar, Content}
use Rattle.keyed_tree.specs.declared.lent.NameView.{NameView}
use Rattle.keyed_tree.specs.declared.lent.NameView.TheVariants.{Attr, Tag}

abbrev pub shown_name : NameView → PlainName
shown_name (Attr s) = attr s.now
shown_name (Tag s) = tag s.now

abbrev pub lent_val_view : LentVal → PlainKey
lent_val_view (Scalar s) = scalar (lent_scalar_view s)
lent_val_view (Content c) = inside (lent_content_view c)
