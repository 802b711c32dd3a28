use Rattle.std.proofs.Common.{List}
use Rattle.keyed_tree.specs.Data.{PlainKeyed}
use Rattle.key_spec.specs.View.{spec_view}
use Rattle.archive_tree.specs.ArchiveView.{archive_view}
use Rattle.new_archive.specs.ArchiveView.{new_archive_view}
use Rattle.archive_tree.specs.Stands.{ArchiveOf}
use Rattle.version_runs.specs.Runs.{versions_at}
use Rattle.archive_rekey.specs.Progress.{Reaches}
use Rattle.archive_rekey.proofs.versions.archive_of_runs.Given as goal

abbrev pub invariant-loop-before : goal.invariant-loop-before
invariant-loop-before l = (vs : List PlainKeyed) → ArchiveOf vs (archive_view l.old) → Reaches (spec_view l.spec) (versions_at l.starts vs) l.before (new_archive_view l.archive)
