use Rattle.std.proofs.Common.{drop}
use Rattle.record_parts.specs.Shown.{shown_name}
use Rattle.record_parts.specs.ShownParts.{label_has_name, label_named}
use Rattle.record_parts.proofs.views.LabelView.name.Goals as goal

pub returns-in-Some : goal.returns-in-Some
returns-in-Some c = label_named c.args.self.now.bytes.now (shown_name c.in-Some.name) (drop c.in-Some.field-0-1 c.args.self.now.bytes.now) c.args.self.now.valid c.in-Some.ensures.found

pub returns-in-None : goal.returns-in-None
returns-in-None c = absurd (label_has_name c.args.self.now.bytes.now c.args.self.now.valid c.in-None.ensures.found)
