use Rattle.std.proofs.Common.{[], ap, sym, ◌∙◌}
use Rattle.std.specs.Cmp.Lexicographic.{slice_cmp}
use Rattle.keyed_tree.specs.Order.{key_cmp}
use Rattle.key_annotate.specs.LabelView.{keyed_label_view}
use Rattle.key_annotate.proofs.LentViews.{label-tagged}
use Rattle.key_annotate.proofs.TagOrders.{tag-equal, tag-other}
use Rattle.key_annotate.proofs.label.KeyedLabel.order_tag.Goals as goal

pub returns-in-Equal : goal.returns-in-Equal
returns-in-Equal c =
    tag-equal (keyed_label_view c.args.self.now) c.tag.result.now c.args.tag.now c.order_none.result (label-tagged c.args.self.now) c.tag.ensures (sym c.cmp.ensures ∙ c.in-Equal.is)
    (c.order_none.ensures ∙ ap (λ ks. slice_cmp key_cmp ks []) (c.as_slice.ensures ∙ c.keys.ensures))

pub returns-in_default : goal.returns-in_default
returns-in_default c =
    tag-other (keyed_label_view c.args.self.now) c.tag.result.now c.args.tag.now c.cmp.result (label-tagged c.args.self.now) c.tag.ensures c.cmp.ensures c.in_default.not-Equal
