use Rattle.std.proofs.Common.{◌++◌, [], ap, append-nil, arith}
use Rattle.row_ends.specs.Expected.{so_far}
use Rattle.row_ends.specs.Rooms.{PlainRoom}
use Rattle.row_ends.proofs.Steps.{rewritten, then, passes, put-front}
use Rattle.row_ends.proofs.room.Room.expect.Goals as goal

pub returns-in_err-make_room : goal.returns-in_err-make_room
returns-in_err-make_room g c =
    let f = g.F.Folder in
    let text = c.args.text.now in
    let e = c.in_err-make_room in
    rewritten f.files f.draft f.numbers f.faults c.args.name.now (text ++ []) text c.args.folder.now c.make_room.new.folder c.args.self.now c.make_room.new.self c.from_residual.result (append-nil text)
    (passes f.files f.draft f.numbers f.faults c.args.name.now [] text c.args.folder.now c.make_room.new.folder c.args.self.now c.make_room.new.self e.field-0.0 c.from_residual.result c.from_residual.ensures.1 e.ensures.expected)

pub returns : goal.returns
returns g c =
    let f = g.F.Folder in
    let text = c.args.text.now in
    let h = c.in_ok-make_room.ensures.expected in
    let moved = h.moved in
    let same = h.same_low in
    let low = ap (λ (p : PlainRoom). p.low) c.self.view_is in
    let t = c.make_room.new.folder in
    let b = c.make_room.new.self in
    rewritten f.files f.draft f.numbers f.faults c.args.name.now (text ++ []) text c.args.folder.now t c.args.self.now c.put.new.self so_far (append-nil text)
    (then f.files f.draft f.numbers f.faults c.args.name.now [] text c.args.folder.now t t c.args.self.now b tt h c.put.new.self so_far
    (put-front f.files f.draft f.numbers f.faults c.args.name.now t (g.met.F.Folder.metered t) b c.put.new.self text tt c.put.ensures (omega (arith, moved, same, low, c.place.ensures.is, c.place.ensures.within, c.if-place-self.false))))
