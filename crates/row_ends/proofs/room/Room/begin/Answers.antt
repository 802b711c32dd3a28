use Rattle.std.proofs.Common.{arith, length-drop}
use Rattle.std.proofs.lemmas.List.{drop_all}
use Rattle.row_ends.proofs.room.Room.begin.Goals as goal

pub invariant_of-self : goal.invariant_of-self
invariant_of-self c =
    let i = c.self.invariant in
    (omega arith, i.1, i.2, omega (arith, length-drop 65536 c.self.inside.expected.items, i.1, c.requires))

pub returns : goal.returns
returns c = (λ k. record { low = c.args.low; at = c.args.at; pending = drop_all 65536 c.self.inside.expected.items (omega (arith, c.self.invariant.1)) k })
