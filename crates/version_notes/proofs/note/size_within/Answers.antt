use Rattle.std.proofs.Common.{◌≤◌, ap, length, arith}
use Rattle.std.proofs.lemmas.List.{length-take}
use Rattle.version_notes.proofs.Fronts.{size_is, too_short, too_long}
use Rattle.version_notes.proofs.note.size_within.Goals as goal

pub returns-in_default-clause-told : goal.returns-in_default-clause-told
returns-in_default-clause-told c = λ piece size front. (
    let few = c.requires.front in
    let four : 4 ≤ length piece = omega (arith, few, ap length front, length-take 4 piece) in
    let is = size_is piece c.args.front.now _ c.in-Some.size four front c.in-Some.ensures.found in
    too_short piece c.in-Some.size is (omega (arith, size, c.if-from-room.false, c.from.ensures)))

pub returns-in_default-2-clause-told : goal.returns-in_default-2-clause-told
returns-in_default-2-clause-told c = λ piece size front. (
    let few = c.requires.front in
    let four : 4 ≤ length piece = omega (arith, few, ap length front, length-take 4 piece) in
    let is = size_is piece c.args.front.now _ c.in-Some.size four front c.in-Some.ensures.found in
    too_long piece c.in-Some.size is (omega (arith, c.if-size-le-LONGEST_NOTE.false)))
