-- The plain data that lent attributes and their values stand for.
use Rattle.jsonml_tree.specs.Data.{PlainScalar, null, boolean, whole, string, PlainAttr}
use Rattle.jsonml_tree.specs.View.{attr_view}
use Rattle.jsonml_tree.specs.declared.lent_attr.LentAttr.{LentAttr}
use Rattle.jsonml_tree.specs.declared.lent_attr.LentAttr.TheVariants.{Lent, Own}
use Rattle.jsonml_tree.specs.declared.lent_attr.LentScalar.{LentScalar}
use Rattle.jsonml_tree.specs.declared.lent_attr.LentScalar.TheVariants.{Null, Bool, Whole, Text}

abbrev pub lent_scalar_view : LentScalar → PlainScalar
lent_scalar_view Null = null
lent_scalar_view (Bool b) = boolean b
lent_scalar_view (Whole n) = whole n
lent_scalar_view (Text s) = string s.now

abbrev pub lent_attr_view : LentAttr → PlainAttr
lent_attr_view (Lent n v) = record { name = n.now; value = lent_scalar_view v }
lent_attr_view (Own a) = attr_view a.value
