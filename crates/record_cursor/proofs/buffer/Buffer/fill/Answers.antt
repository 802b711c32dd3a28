use Rattle.std.proofs.Common.{take, drop}
use Rattle.record_cursor.proofs.Rooms.{filled-as, few-bytes, many-bytes}
use Rattle.record_cursor.proofs.buffer.Buffer.fill.Goals as goal

pub returns-then-size-le-SHORT-clause-told : goal.returns-then-size-le-SHORT-clause-told
returns-then-size-le-SHORT-clause-told g c = λ end bytes tells fits. (
    let a = c.args in
    filled-as c.fill_first.result _ _ (few-bytes a.size c.fill_first.new.room c.give_back.new.room.items (take a.size (drop a.at bytes)) c.if-size-le-SHORT.true) (c.fill_first.ensures.told end bytes tells fits))

pub returns-else-size-le-SHORT-clause-told : goal.returns-else-size-le-SHORT-clause-told
returns-else-size-le-SHORT-clause-told g c = λ end bytes tells fits. (
    let a = c.args in
    filled-as c.fill_long.result _ _ (many-bytes a.size c.self.inside.short c.fill_long.new.room.items (take a.size (drop a.at bytes)) c.if-size-le-SHORT.false) (c.fill_long.ensures.told end bytes tells fits))
