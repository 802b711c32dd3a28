use Rattle.std.proofs.Common.{map, take}
use Rattle.keyed_tree.specs.View.{keyed_view}
use Rattle.archive_tree.specs.ArchiveView.{archive_view}
use Rattle.archive_tree.specs.Stands.{ArchiveOf}
use Rattle.nested_merge.proofs.version.merge_all.Given as goal

abbrev pub invariant-loop-version : goal.invariant-loop-version
invariant-loop-version l = ArchiveOf (map keyed_view (take l.version-index l.versions)) (archive_view l.archive)
