use Rattle.std.proofs.Common.{arith}
use Rattle.xa_fields.specs.Reading.{whole}
use Rattle.record_parts.specs.Reading.{value_at}
use Rattle.record_parts.specs.ShownViews.{value_in}
use Rattle.record_parts.specs.ShapeLaws.{value_parts}
use Rattle.record_parts.specs.ShownParts.{value_spelled, value_is}
use Rattle.record_parts.proofs.shown.body_spelled.Goals as goal

pub returns-clause-spelled : goal.returns-clause-spelled
returns-clause-spelled c = value_spelled c.args.bytes.now (λ i. omega (arith, c.type_inv.bytes i)) c.requires

pub returns-clause-is : goal.returns-clause-is
returns-clause-is c = value_is c.args.bytes.now (λ i. omega (arith, c.type_inv.bytes i)) c.requires

pub returns-clause-shape : goal.returns-clause-shape
returns-clause-shape c = ((value_parts (value_in (whole value_at c.args.bytes.now))).0 (value_is c.args.bytes.now (λ i. omega (arith, c.type_inv.bytes i)) c.requires)).0

pub returns-clause-fits : goal.returns-clause-fits
returns-clause-fits c = ((value_parts (value_in (whole value_at c.args.bytes.now))).0 (value_is c.args.bytes.now (λ i. omega (arith, c.type_inv.bytes i)) c.requires)).1
