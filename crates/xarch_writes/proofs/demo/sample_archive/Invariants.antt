use Rattle.archive_tree.specs.ArchiveView.{archive_view}
use Rattle.xarch_meanings.specs.Demo.{IsSampleArchive}
use Rattle.xarch_writes.proofs.demo.sample_archive.Given as goal

abbrev pub invariant-loop-before : goal.invariant-loop-before
invariant-loop-before l = IsSampleArchive l.seed l.before (archive_view l.archive)
