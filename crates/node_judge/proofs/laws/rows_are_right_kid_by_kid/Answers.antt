use Rattle.node_judge.proofs.RowLaws.{archive-goes, goes-is}
use Rattle.node_judge.proofs.laws.rows_are_right_kid_by_kid.Goals as goal

pub returns-clause-rows : goal.returns-clause-rows
returns-clause-rows c = goes-is

pub returns-clause-archive : goal.returns-clause-archive
returns-clause-archive c = archive-goes
