use Rattle.std.proofs.Common.{drop}
use Rattle.archive_tree.specs.View.{stamp_view}
use Rattle.record_parts.specs.ShownParts.{stamp_found}
use Rattle.record_parts.proofs.views.StampView.copy.Goals as goal

pub returns-in-Ok : goal.returns-in-Ok
returns-in-Ok c = stamp_found c.args.self.now.bytes.now (stamp_view c.in-Ok.stamp) (drop c.in-Ok.field-0-1 c.args.self.now.bytes.now) c.args.self.now.valid c.in-Ok.ensures.found
