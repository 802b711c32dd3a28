use Rattle.std.proofs.Common.{refl}
use Rattle.spelled_archive.proofs.Bodies.{same_bodies}
use Rattle.spelled_archive.proofs.body.Spelled.same_lent.Goals as goal

pub returns : goal.returns
returns c = same_bodies c.same_lent.result _ _ _ _ c.lend.ensures refl c.same_lent.ensures
