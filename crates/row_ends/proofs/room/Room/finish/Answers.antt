use Rattle.std.proofs.Common.{ap, arith}
use Rattle.row_ends.specs.Rooms.{PlainRoom}
use Rattle.row_ends.proofs.Steps.{finished}
use Rattle.row_ends.proofs.room.Room.finish.Goals as goal

pub returns : goal.returns
returns g c =
    let f = g.F.Folder in
    let low = ap (λ (p : PlainRoom). p.low) c.self.view_is in
    finished f.files f.draft f.numbers f.faults c.args.name.now c.args.folder.now c.compare.new.folder c.args.self.now c.compare.new.self c.compare.result c.compare.ensures.none (omega (arith, c.place.ensures.is, c.if-place-self.false, low)) (omega (arith, c.place.ensures.is, c.place.ensures.within)) c.compare.ensures.expected
