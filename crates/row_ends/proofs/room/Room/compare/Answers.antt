use Rattle.std.proofs.Common.{◌≡◌, ◌∙◌, ◌-◌, [], length, take, drop, subst, arith, length-drop, ap}
use Rattle.std.proofs.lemmas.List.{drop_all, take_all}
use Rattle.row_ends.specs.Expected.{Expected}
use Rattle.row_ends.specs.Rooms.{PlainRoom}
use Rattle.row_ends.proofs.Steps.{looked}
use Rattle.row_ends.proofs.room.Room.compare.Goals as goal

pub invariant_of-self : goal.invariant_of-self
invariant_of-self g c =
    let i = c.self.invariant in
    (omega arith, i.1, c.find.ensures.room ∙ i.2, omega (arith, i.0, i.1, i.3, length-drop 65536 c.self.inside.expected.items, length-drop c.self.inside.from c.self.inside.expected.items))

pub returns-clause-expected : goal.returns-clause-expected
returns-clause-expected g c =
    let f = g.F.Folder in
    let i = c.self.inside in
    let v = c.self.invariant in
    let bytes = i.expected.items in
    let before : PlainRoom = record { low = i.low; at = i.at; pending = drop i.from bytes } in
    let after : PlainRoom = record { low = i.low; at = i.at - (65536 - i.from); pending = drop 65536 bytes } in
    let at : i.at - (65536 - i.from) ≡ i.at - length (drop i.from bytes) = omega (arith, v.1, length-drop i.from bytes) in
    let d = c.deref.result.now in
    let same : take (length d - i.from) (drop i.from d) ≡ drop i.from bytes = take_all (length d - i.from) (drop i.from d) (omega (arith, length-drop i.from d)) ∙ ap (drop i.from) c.deref.ensures.value in
    let none : drop 65536 bytes ≡ [] = drop_all 65536 bytes (omega (arith, v.1)) in
    subst (λ (p : PlainRoom). Expected f.files f.draft f.numbers f.faults c.args.name.now [] c.args.folder.now c.find.new.folder p after c.find.result) c.self.view_is
    (looked f.files f.draft f.numbers f.faults c.args.name.now c.args.folder.now c.find.new.folder before c.find.result v.3 (take (length d - i.from) (drop i.from d)) (i.at - (65536 - i.from)) same at after (λ k. record { low = i.low; at = at k; pending = none k })
    c.find.ensures.reads c.find.ensures.pulls c.find.ensures.told)

pub returns-clause-none : goal.returns-clause-none
returns-clause-none g c = drop_all 65536 c.self.inside.expected.items (omega (arith, c.self.invariant.1))
