use Rattle.std.proofs.Common.{◌≡◌, map, take}
use Rattle.jsonml_tree.specs.LentAttrs.{lent_attr_view}
use Rattle.keyed_tree.specs.View.{keyed_view}
use Rattle.key_annotate.specs.KeyedOf.{attr_leaf}
use Rattle.key_annotate.proofs.lent.behind_attrs.Given as goal

abbrev pub invariant-loop-attr : goal.invariant-loop-attr
invariant-loop-attr l = map keyed_view l.all.items ≡ map attr_leaf (map lent_attr_view (take l.attr-index l.attrs))
