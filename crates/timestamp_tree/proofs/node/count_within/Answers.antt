use Rattle.std.proofs.Common.{◌≤◌, ap, length, arith}
use Rattle.std.proofs.lemmas.List.{length-take}
use Rattle.timestamp_tree.proofs.Stored.{count_is, too_short}
use Rattle.timestamp_tree.proofs.node.count_within.Goals as goal

pub returns-in_default-clause-told : goal.returns-in_default-clause-told
returns-in_default-clause-told c = λ piece size front most. (
    let few = c.requires.front in
    let four : 4 ≤ length piece = omega (arith, few, ap length front, length-take 4 piece) in
    let count = count_is piece c.args.front.now _ c.in-Some.count four front c.in-Some.ensures.found in
    too_short most c.in-Some.count piece count (omega (arith, size, c.if-from-room.false, c.from.ensures)))

pub returns-in-Some-clause-told : goal.returns-in-Some-clause-told
returns-in-Some-clause-told c = λ piece size front. (
    let few = c.requires.front in
    let four : 4 ≤ length piece = omega (arith, few, ap length front, length-take 4 piece) in
    count_is piece c.args.front.now _ c.in-Some.count four front c.in-Some.ensures.found)
