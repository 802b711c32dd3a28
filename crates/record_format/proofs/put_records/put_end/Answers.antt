use Rattle.xa_fields.proofs.Combinators.{grows_to}
use Rattle.record_format.proofs.Frames.{closed_is}
use Rattle.record_format.proofs.put_records.put_end.Goals as goal

pub returns-clause-ok : goal.returns-clause-ok
returns-clause-ok c = closed_is _ _ _ _ _ 4 _ c.in_ok-at.ensures.ok c.in_ok-at.ensures.at c.in_ok-put_directory.ensures.ok c.close.ensures

pub returns-clause-grows : goal.returns-clause-grows
returns-clause-grows c = grows_to _ _ _ (closed_is _ _ _ _ _ 4 _ c.in_ok-at.ensures.ok c.in_ok-at.ensures.at c.in_ok-put_directory.ensures.ok c.close.ensures)
