use Rattle.timestamp_tree.specs.View.{ts_view}
use Rattle.timestamp_tree.proofs.Searches.{visits_within}
use Rattle.timestamp_tree.proofs.tree.TsTree.select.Goals as goal

pub returns-clause-bound : goal.returns-clause-bound
returns-clause-bound g c = visits_within (ts_view c.args.self.now) c.args.i c.args.self.now.is_tree
