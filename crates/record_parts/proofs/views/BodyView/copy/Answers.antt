use Rattle.std.proofs.Common.{drop}
use Rattle.keyed_tree.specs.View.{key_view}
use Rattle.record_parts.specs.ShownParts.{value_found}
use Rattle.record_parts.proofs.views.BodyView.copy.Goals as goal

pub returns-in-Ok : goal.returns-in-Ok
returns-in-Ok c = value_found c.args.self.now.bytes.now (key_view c.in-Ok.body) (drop c.in-Ok.field-0-1 c.args.self.now.bytes.now) c.args.self.now.valid c.in-Ok.ensures.found
