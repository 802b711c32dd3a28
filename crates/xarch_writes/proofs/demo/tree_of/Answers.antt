use Rattle.xarch_writes.proofs.demo.tree_of.Goals as goal

pub unreachable-requires : goal.unreachable-requires
unreachable-requires c =
    let some = rw c.in-Err-Key.field-0-is at c.in-Err-Key.ensures.key in
    let none = c.keyed.ensures.laws.satisfied c.requires.satisfies in
    cc (some, none)
