use Rattle.keyed_tree.specs.Order.{label_cmp}
use Rattle.record_parts.specs.Shown.{named}
use Rattle.record_parts.specs.ShownParts.{label_answer, label_answered}
use Rattle.record_parts.proofs.views.LabelView.order_lent.Goals as goal

pub returns-in-Some : goal.returns-in-Some
returns-in-Some c = label_answer c.args.self.now.bytes.now (λ l. label_cmp l (named c.args.name c.args.keys.now)) c.in-Some.order c.in-Some.field-0-1 c.args.self.now.valid c.in-Some.ensures

pub returns-in-None : goal.returns-in-None
returns-in-None c = absurd (label_answered c.args.self.now.bytes.now (λ l. label_cmp l (named c.args.name c.args.keys.now)) c.args.self.now.valid c.in-None.ensures)
