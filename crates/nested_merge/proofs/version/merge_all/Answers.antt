use Rattle.std.proofs.lemmas.Grind.{common_steps}
use Rattle.std.proofs.Common.{arith}
use Rattle.keyed_tree.specs.Kids.{IsOrdered}
use Rattle.keyed_tree.specs.Proper.{IsElement}
use Rattle.keyed_tree.specs.WellFormed.{IsKeyedWellFormed}
use Rattle.keyed_tree.specs.View.{keyed_view}
use Rattle.archive_tree.specs.ArchiveView.{archive_view}
use Rattle.nested_merge.proofs.Kepts.{all_at, alike_at}
use Rattle.nested_merge.proofs.VersionsStay.{one_archive_of}
use Rattle.nested_merge.proofs.version.merge_all.Goals as goal

pub merge-requires-clause-element : goal.merge-requires-clause-element
merge-requires-clause-element c = all_at keyed_view c.args.versions.now c.loop-version.version-index c.version-item.result (omega arith) c.version-item.is IsElement c.requires.versions.elements

pub merge-requires-clause-ordered : goal.merge-requires-clause-ordered
merge-requires-clause-ordered c = all_at keyed_view c.args.versions.now c.loop-version.version-index c.version-item.result (omega arith) c.version-item.is IsOrdered c.requires.versions.ordered

pub merge-requires-clause-well_formed : goal.merge-requires-clause-well_formed
merge-requires-clause-well_formed c = all_at keyed_view c.args.versions.now c.loop-version.version-index c.version-item.result (omega arith) c.version-item.is IsKeyedWellFormed c.requires.well_formed

pub merge-requires-clause-alike : goal.merge-requires-clause-alike
merge-requires-clause-alike c = alike_at keyed_view c.args.versions.now c.loop-version.version-index c.version-item.result (omega arith) c.version-item.is (archive_view c.loop-version.archive) c.requires.versions.alike c.loop-version.invariant

pub returns-in-Err-clause-one_archive : goal.returns-in-Err-clause-one_archive
returns-in-Err-clause-one_archive c = one_archive_of

pub returns-clause-one_archive : goal.returns-clause-one_archive
returns-clause-one_archive c = one_archive_of

pub loop-version-init : goal.loop-version-init
loop-version-init c = grind (arith, common_steps)

pub loop-version-preserved : goal.loop-version-preserved
loop-version-preserved c = grind (arith, common_steps)

pub returns-clause-archive : goal.returns-clause-archive
returns-clause-archive c = grind (arith, common_steps)

pub returns-in-Err-clause-archive : goal.returns-in-Err-clause-archive
returns-in-Err-clause-archive c = grind (arith, common_steps)
