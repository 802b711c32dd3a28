use Rattle.std.proofs.Common.{arith}
use Rattle.record_parts.specs.ShownParts.{stamp_spelled, stamp_is}
use Rattle.record_parts.proofs.shown.stamp_spelled.Goals as goal

pub returns-clause-spelled : goal.returns-clause-spelled
returns-clause-spelled c = stamp_spelled c.args.bytes.now (λ i. omega (arith, c.type_inv.bytes i)) c.requires

pub returns-clause-is : goal.returns-clause-is
returns-clause-is c = stamp_is c.args.bytes.now (λ i. omega (arith, c.type_inv.bytes i)) c.requires
