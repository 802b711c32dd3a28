use Rattle.std.proofs.Common.{◌≡◌, map, drop}
use Rattle.jsonml_tree.specs.LentAttrs.{lent_attr_view}
use Rattle.key_rules.specs.Reach.{scalar_named}
use Rattle.key_rules.proofs.node.attribute.Given as goal

-- what is left decides
abbrev pub invariant-loop-attr : goal.invariant-loop-attr
invariant-loop-attr l = scalar_named l.name (map lent_attr_view l.attrs) ≡ scalar_named l.name (map lent_attr_view (drop l.attr-index l.attrs))
