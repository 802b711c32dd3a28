use Rattle.std.proofs.Common.{arith}
use Rattle.xa_fields.specs.Reading.{whole}
use Rattle.record_parts.specs.Reading.{label_at}
use Rattle.record_parts.specs.ShownViews.{label_in}
use Rattle.record_parts.specs.ShapeLaws.{label_parts}
use Rattle.record_parts.specs.ShownParts.{label_spelled, label_is}
use Rattle.record_parts.proofs.shown.label_spelled.Goals as goal

pub returns-clause-spelled : goal.returns-clause-spelled
returns-clause-spelled c = label_spelled c.args.bytes.now (λ i. omega (arith, c.type_inv.bytes i)) c.requires

pub returns-clause-is : goal.returns-clause-is
returns-clause-is c = label_is c.args.bytes.now (λ i. omega (arith, c.type_inv.bytes i)) c.requires

pub returns-clause-shape : goal.returns-clause-shape
returns-clause-shape c = ((label_parts (label_in (whole label_at c.args.bytes.now))).0 (label_is c.args.bytes.now (λ i. omega (arith, c.type_inv.bytes i)) c.requires)).0

pub returns-clause-fits : goal.returns-clause-fits
returns-clause-fits c = ((label_parts (label_in (whole label_at c.args.bytes.now))).0 (label_is c.args.bytes.now (λ i. omega (arith, c.type_inv.bytes i)) c.requires)).1
