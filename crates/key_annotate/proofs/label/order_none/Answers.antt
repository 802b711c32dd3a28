use Rattle.keyed_tree.specs.LentView.{lent_val_view}
use Rattle.key_annotate.proofs.TagOrders.{above-none}
use Rattle.key_annotate.proofs.label.order_none.Goals as goal

pub returns-else-is_empty : goal.returns-else-is_empty
returns-else-is_empty c = above-none lent_val_view c.args.keys.now c.is_empty.result c.is_empty.ensures c.if-is_empty.false
