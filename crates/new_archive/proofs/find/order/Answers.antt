use Rattle.std.proofs.Common.{◌∙◌, sym, ap}
use Rattle.std.specs.Ordering.{ordering_reverse}
use Rattle.keyed_tree.specs.Data.{label_of}
use Rattle.keyed_tree.specs.Laws.{label_cmp_total}
use Rattle.keyed_tree.specs.Order.{label_cmp}
use Rattle.keyed_parts.specs.View.{kid_view}
use Rattle.new_archive.specs.Full.{full_label}
use Rattle.new_archive.specs.View.{full_view}
use Rattle.new_archive.proofs.find.order.Goals as goal

pub returns : goal.returns
returns c = (let other = label_cmp_total.antisymm (full_label (full_view c.args.node.now)) (label_of (kid_view c.args.kid)) in c.reverse.ensures ∙ ap ordering_reverse (c.order.ensures ∙ ap (label_cmp (label_of (kid_view c.args.kid))) c.label.ensures) ∙ sym other)
