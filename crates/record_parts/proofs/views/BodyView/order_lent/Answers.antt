use Rattle.keyed_tree.specs.LentView.{lent_val_view}
use Rattle.keyed_tree.specs.Order.{key_cmp}
use Rattle.record_parts.specs.ShownParts.{value_answer, value_answered}
use Rattle.record_parts.proofs.views.BodyView.order_lent.Goals as goal

pub returns-in-Some : goal.returns-in-Some
returns-in-Some c = value_answer c.args.self.now.bytes.now (λ k. key_cmp k (lent_val_view c.args.other)) c.in-Some.order c.in-Some.field-0-1 c.args.self.now.valid c.in-Some.ensures

pub returns-in-None : goal.returns-in-None
returns-in-None c = absurd (value_answered c.args.self.now.bytes.now (λ k. key_cmp k (lent_val_view c.args.other)) c.args.self.now.valid c.in-None.ensures)
