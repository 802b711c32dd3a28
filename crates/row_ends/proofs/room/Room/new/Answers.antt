use Rattle.std.proofs.Common.{arith, length-drop}
use Rattle.row_ends.proofs.room.Room.new.Goals as goal

pub invariant_of-result : goal.invariant_of-result
invariant_of-result c =
    let e = c.in_ok-expected.ensures in
    (omega arith, e, c.in_ok-read.ensures, omega (arith, e, length-drop 65536 c.in_ok-expected.expected.items))
