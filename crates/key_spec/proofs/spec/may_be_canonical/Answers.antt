use Rattle.std.proofs.Common.{leb, refl}
use Rattle.key_spec.proofs.SpecLaws.{spelled_short}
use Rattle.key_spec.proofs.spec.may_be_canonical.Goals as goal

pub returns-clause-many : goal.returns-clause-many
returns-clause-many c = spelled_short c.args.len (leb c.args.len 1048576) refl
