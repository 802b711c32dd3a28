use Rattle.nested_merge.proofs.ArchiveGrows.{archive_grows}
use Rattle.nested_merge.proofs.laws.archives_grow_by_a_version.Goals as goal

pub returns : goal.returns
returns c = record { grows = archive_grows }
