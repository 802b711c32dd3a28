use Rattle.std.proofs.Common.{ap, ap₂, ◌∙◌}
use Rattle.std.specs.Ordering.{ordering_reverse}
use Rattle.keyed_tree.specs.Data.{label_of}
use Rattle.keyed_tree.specs.Order.{label_cmp}
use Rattle.key_annotate.specs.LentView.{lent_view}
use Rattle.key_annotate.proofs.LentViews.{lent-tagged}
use Rattle.key_annotate.proofs.TagOrders.{bare-label, label-back, tags-first}
use Rattle.key_annotate.proofs.lent.LentKeyed.order.Goals as goal

pub returns-in-Some-Some : goal.returns-in-Some-Some
returns-in-Some-Some c = c.order.ensures ∙ ap₂ label_cmp c.in-Some-Some.ensures.some c.in-Some-Some.ensures'.some

pub returns-in-Some-None : goal.returns-in-Some-None
returns-in-Some-None c =
    let other = c.args.other.now in
    let theirs = bare-label (label_of (lent_view other)) c.tag.result.now (lent-tagged other) c.tag.ensures c.in-Some-None.ensures'.none in
    c.order_tag.ensures ∙ ap₂ label_cmp c.in-Some-None.ensures.some theirs

pub returns-in-None-Some : goal.returns-in-None-Some
returns-in-None-Some c =
    let self = c.args.self.now in
    let ours = bare-label (label_of (lent_view self)) c.tag-in-None-Some.result.now (lent-tagged self) c.tag-in-None-Some.ensures c.in-None-Some.ensures.none in
    c.reverse.ensures ∙ ap ordering_reverse (c.order_tag-in-None-Some.ensures ∙ ap₂ label_cmp c.in-None-Some.ensures'.some ours)
    ∙ label-back (label_of (lent_view c.args.other.now)) (label_of (lent_view self))

pub returns-in-None-None : goal.returns-in-None-None
returns-in-None-None c =
    let self = c.args.self.now in
    let other = c.args.other.now in
    let ours = bare-label (label_of (lent_view self)) c.tag-in-None-None.result.now (lent-tagged self) c.tag-in-None-None.ensures c.in-None-None.ensures.none in
    let theirs = bare-label (label_of (lent_view other)) c.tag-in-None-None-2.result.now (lent-tagged other) c.tag-in-None-None-2.ensures c.in-None-None.ensures'.none in
    c.cmp.ensures ∙ tags-first c.tag-in-None-None.result.now c.tag-in-None-None-2.result.now ∙ ap₂ label_cmp ours theirs
