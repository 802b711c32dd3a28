use Rattle.std.proofs.Common.{◌≡◌, [], refl, ap, ◌∙◌}
use Rattle.jsonml_tree.specs.LentView.{lent_content_view}
use Rattle.keyed_tree.specs.Data.{PlainLabel, inside, leaf}
use Rattle.keyed_tree.specs.LentView.{lent_val_view}
use Rattle.key_rules.specs.LentView.{lent_keys_view, lent_label_view}
use Rattle.key_annotate.proofs.TagOrders.{bare-label, no-values}
use Rattle.key_annotate.proofs.build.leaf.Goals as goal

pub returns-then-is_empty : goal.returns-then-is_empty
returns-then-is_empty c =
    let l = c.args.label in
    let none : lent_keys_view l.keys ≡ [] = no-values lent_val_view c.as_slice.result.now (lent_keys_view l.keys) c.is_empty.result c.is_empty.ensures c.if-is_empty.true c.as_slice.ensures in
    let label = bare-label (lent_label_view l) l.tag.now refl refl none in
    c.bare.ensures ∙ ap (λ (m : PlainLabel). leaf m (inside (lent_content_view c.args.content))) label
