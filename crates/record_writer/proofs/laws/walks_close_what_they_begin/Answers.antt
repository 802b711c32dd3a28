use Rattle.record_writer.proofs.WalkLaws.{row-closes, node-closes, alts-keep}
use Rattle.record_writer.proofs.laws.walks_close_what_they_begin.Goals as goal

pub returns-clause-rows : goal.returns-clause-rows
returns-clause-rows c = row-closes

pub returns-clause-nodes : goal.returns-clause-nodes
returns-clause-nodes c = node-closes

pub returns-clause-alternatives : goal.returns-clause-alternatives
returns-clause-alternatives c = alts-keep
