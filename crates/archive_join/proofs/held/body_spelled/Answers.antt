use Rattle.std.proofs.Common.{arith}
use Rattle.record_parts.specs.ShownParts.{value_spelled}
use Rattle.archive_join.proofs.held.body_spelled.Goals as goal

pub returns-clause-spelled : goal.returns-clause-spelled
returns-clause-spelled c = value_spelled c.args.bytes.now (λ i. omega (arith, c.type_inv.bytes i)) c.requires
