use Rattle.keyed_tree.specs.Order.{key_cmp}
use Rattle.keyed_tree.specs.View.{key_view}
use Rattle.record_parts.specs.ShownParts.{value_answer, value_answered}
use Rattle.record_parts.proofs.views.BodyView.order.Goals as goal

pub returns-in-Some : goal.returns-in-Some
returns-in-Some c = value_answer c.args.self.now.bytes.now (λ k. key_cmp k (key_view c.args.other.now)) c.in-Some.order c.in-Some.field-0-1 c.args.self.now.valid c.in-Some.ensures

pub returns-in-None : goal.returns-in-None
returns-in-None c = absurd (value_answered c.args.self.now.bytes.now (λ k. key_cmp k (key_view c.args.other.now)) c.args.self.now.valid c.in-None.ensures)
