use Rattle.std.proofs.Common.{sym, ap, ◌∙◌}
use Rattle.std.specs.Ordering.{ordering_reverse}
use Rattle.jsonml_tree.specs.Laws.{content_cmp_total}
use Rattle.jsonml_tree.specs.LentView.{only_text, lent_row_view}
use Rattle.jsonml_tree.proofs.both_lent.order_row_text.Goals as goal

pub returns : goal.returns
returns c = c.reverse.ensures ∙ ap ordering_reverse c.order_text.ensures ∙ sym (content_cmp_total.antisymm (lent_row_view c.args.row.now) (only_text c.args.text.now))
