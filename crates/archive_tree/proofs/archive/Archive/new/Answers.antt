use Rattle.archive_tree.proofs.OneArchive.{one_archive}
use Rattle.archive_tree.proofs.archive.Archive.new.Goals as goal

pub returns-clause-one_archive : goal.returns-clause-one_archive
returns-clause-one_archive c = λ vs b h g. one_archive vs _ b h g
