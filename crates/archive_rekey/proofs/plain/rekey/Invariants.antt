use Rattle.std.proofs.Common.{List}
use Rattle.keyed_tree.specs.Data.{PlainKeyed}
use Rattle.key_spec.specs.View.{spec_view}
use Rattle.archive_tree.specs.ArchiveView.{archive_view}
use Rattle.archive_tree.specs.Stands.{ArchiveOf}
use Rattle.archive_rekey.specs.Progress.{Reaches}
use Rattle.archive_rekey.proofs.plain.rekey.Given as goal

abbrev pub invariant-loop-before : goal.invariant-loop-before
invariant-loop-before l = (vs : List PlainKeyed) → ArchiveOf vs (archive_view l.old) → Reaches (spec_view l.spec) vs l.before (archive_view l.archive)
