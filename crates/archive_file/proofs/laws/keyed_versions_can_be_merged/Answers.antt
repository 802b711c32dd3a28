use Rattle.archive_file.proofs.AlikeLaws.{keyed-alike}
use Rattle.archive_file.proofs.KeyedLaws.{keyed-is_element, keyed-is_proper, keyed-is_ordered, keyed-is_well_formed}
use Rattle.archive_file.proofs.ShapedArchives.{archive-shaped}
use Rattle.archive_file.proofs.laws.keyed_versions_can_be_merged.Goals as goal

pub returns-clause-alike : goal.returns-clause-alike
returns-clause-alike c = keyed-alike

pub returns-clause-elements : goal.returns-clause-elements
returns-clause-elements c = keyed-is_element

pub returns-clause-proper : goal.returns-clause-proper
returns-clause-proper c = keyed-is_proper

pub returns-clause-ordered : goal.returns-clause-ordered
returns-clause-ordered c = keyed-is_ordered

pub returns-clause-well_formed : goal.returns-clause-well_formed
returns-clause-well_formed c = keyed-is_well_formed

pub returns-clause-shaped : goal.returns-clause-shaped
returns-clause-shaped c = archive-shaped
