use Rattle.record_parts.specs.ShownParts.{labels_answer, labels_answered}
use Rattle.record_parts.proofs.views.LabelView.compare.Goals as goal

pub returns-in-Some : goal.returns-in-Some
returns-in-Some c = labels_answer c.args.self.now.bytes.now c.args.other.now.bytes.now c.in-Some.order c.in-Some.field-0-1 c.in-Some.field-0-2 c.args.self.now.valid c.args.other.now.valid c.in-Some.ensures

pub returns-in-None : goal.returns-in-None
returns-in-None c = absurd (labels_answered c.args.self.now.bytes.now c.args.other.now.bytes.now c.args.self.now.valid c.args.other.now.valid c.in-None.ensures)
