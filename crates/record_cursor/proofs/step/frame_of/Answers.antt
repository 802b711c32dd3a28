use Rattle.std.proofs.Common.{arith}
use Rattle.record_cursor.proofs.Fills.{frame-is}
use Rattle.record_cursor.proofs.step.frame_of.Goals as goal

pub returns : goal.returns
returns c = frame-is c.args.frame.now c.in_ok-size.size c.in_ok-size.field-0-1 c.requires (λ i. omega (arith, c.type_inv.frame i)) c.in_ok-size.ensures.found (omega (arith, c.in_ok-size.ensures.next.0))
