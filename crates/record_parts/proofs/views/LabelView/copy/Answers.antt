use Rattle.std.proofs.Common.{drop}
use Rattle.keyed_tree.specs.View.{label_view}
use Rattle.record_parts.specs.ShownParts.{label_found}
use Rattle.record_parts.proofs.views.LabelView.copy.Goals as goal

pub returns-in-Ok : goal.returns-in-Ok
returns-in-Ok c = label_found c.args.self.now.bytes.now (label_view c.in-Ok.label) (drop c.in-Ok.field-0-1 c.args.self.now.bytes.now) c.args.self.now.valid c.in-Ok.ensures.found
