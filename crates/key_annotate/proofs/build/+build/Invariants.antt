use Rattle.std.proofs.Common.{◌≡◌, map, drop}
use Rattle.jsonml_tree.specs.LentView.{lent_items_view}
use Rattle.key_annotate.specs.LentView.{lent_view}
use Rattle.key_spec.specs.ContextView.{context_path, context_rules}
use Rattle.key_annotate.specs.Ordered.{built_items}
use Rattle.key_annotate.proofs.Added.{after}
use Rattle.key_annotate.proofs.build.+build.Given as goal

-- the kids so far, followed by those of what is left
abbrev pub invariant-item_kids-loop-item : goal.invariant-item_kids-loop-item
invariant-item_kids-loop-item l =
    built_items (context_rules l.context) (context_path l.context) (lent_items_view l.items)
    ≡ after (map lent_view l.kids.items) (built_items (context_rules l.context) (context_path l.context) (lent_items_view (drop l.item-index l.items)))
