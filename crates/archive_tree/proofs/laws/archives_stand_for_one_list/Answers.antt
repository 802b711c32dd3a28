use Rattle.archive_tree.proofs.Necessary.{necessary}
use Rattle.archive_tree.proofs.OneArchive.{one_archive}
use Rattle.archive_tree.proofs.Readings.{one_list}
use Rattle.archive_tree.proofs.Rebuilt.{sufficient}
use Rattle.archive_tree.proofs.Told.{kept_told}
use Rattle.archive_tree.proofs.Versions.{version_item}
use Rattle.archive_tree.proofs.laws.archives_stand_for_one_list.Goals as goal

pub returns-clause-one_archive : goal.returns-clause-one_archive
returns-clause-one_archive c = one_archive

pub returns-clause-one_list : goal.returns-clause-one_list
returns-clause-one_list c = one_list

pub returns-clause-conditions : goal.returns-clause-conditions
returns-clause-conditions c = λ a. (sufficient a, λ k. necessary k.versions a k.is)

pub returns-clause-told : goal.returns-clause-told
returns-clause-told c = kept_told

pub returns-clause-versions : goal.returns-clause-versions
returns-clause-versions c = λ vs a i h. version_item vs a h i
