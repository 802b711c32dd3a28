use Rattle.archive_tree.specs.ArchiveView.{archive_view}
use Rattle.archive_tree.proofs.Readings.{one_list}
use Rattle.archive_tree.proofs.archive.Archive.kids.Goals as goal

pub returns-clause-one_list : goal.returns-clause-one_list
returns-clause-one_list c = λ vs us h g. one_list vs us (archive_view c.args.self.now) h g
