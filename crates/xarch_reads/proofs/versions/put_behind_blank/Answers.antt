use Rattle.xa_outside.specs.TakenLaws.{Puts-after}
use Rattle.xarch_reads.proofs.versions.put_behind_blank.Goals as goal

pub returns-clause-bytes : goal.returns-clause-bytes
returns-clause-bytes g c = Puts-after _ _ _ _ _ _ c.in_ok-put_all.ensures.bytes c.put_all-2.ensures.bytes
