-- What is known inside a content.
use Rattle.std.proofs.Common.{ℕ, ◌<◌, length, map, ap, subst, ◌∙◌}
use Rattle.std.proofs.lemmas.List.{length-map}
use Rattle.std.specs.List.{AllByRecursion}
use Rattle.jsonml_tree.specs.Data.{content}
use Rattle.jsonml_tree.specs.View.{attr_view, tree_view, content_view, items_view}
use Rattle.jsonml_tree.specs.declared.tree.Content.{Content}
use Rattle.jsonml_tree.proofs.Trees.{content_view-is, list_of-trees_of}
use Rattle.xa_fields.specs.declared.limits.TheConstants.{FIELD}
use Rattle.record_parts.specs.Shapes.{FitsAttr, FitItems, FitsInside}

inside_fits : (c : Content) → FitsInside (content_view c) → FitsInside (content (map attr_view c.attrs.items) (items_view c.items.items))
inside_fits c h = subst FitsInside (content_view-is c) h

pub few_attrs : (c : Content) → FitsInside (content_view c) → length c.attrs.items < FIELD
few_attrs c h = subst (λ (n : ℕ). n < FIELD) (length-map c.attrs.items attr_view) (inside_fits c h).0

pub each_attr : (c : Content) → FitsInside (content_view c) → AllByRecursion FitsAttr (map attr_view c.attrs.items)
each_attr c h = (inside_fits c h).1

pub few_items : (c : Content) → FitsInside (content_view c) → length c.items.items < FIELD
few_items c h = subst (λ (n : ℕ). n < FIELD) (ap length (list_of-trees_of (map tree_view c.items.items)) ∙ length-map c.items.items tree_view) (inside_fits c h).2

pub each_item : (c : Content) → FitsInside (content_view c) → FitItems (items_view c.items.items)
each_item c h = (inside_fits c h).3

pub ruleset insides = (few_attrs, each_attr, few_items, each_item)
