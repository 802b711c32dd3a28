use Rattle.std.proofs.Common.{◌+◌, ◌-◌, ◌/◌, Ok, refl, arith}
use Rattle.keyed_tree.specs.View.{label_view}
use Rattle.record_cursor.specs.Faults.{IfDamage}
use Rattle.file_rows.specs.View.{row_view, child_view}
use Rattle.file_history.specs.View.{part_view, left_opened, left_probed, room_of}
use Rattle.file_history.proofs.Probing.{turned-room, look, looked, looked-few, read-few, told-child, known}
use Rattle.file_history.proofs.Pulls.{but-behind}
use Rattle.file_history.proofs.search.probe.Goals as goal

pub returns-in-Ok-open_child-clause-pulls : goal.returns-in-Ok-open_child-clause-pulls
returns-in-Ok-open_child-clause-pulls g c =
    let child = c.in-Ok.child in
    let o = c.in-Ok-open_child.opened in
    let place = c.args.part.low + (c.args.part.high - c.args.part.low) / 2 in
    but-behind 24 (child.end - child.first) (left_opened (Ok o)) (room_of c.args.part) (left_probed (Ok c.turn.result)) (g.F.Folder.numbers c.args.folder.now) (g.F.Folder.numbers c.read_child.new.folder) (g.F.Folder.numbers c.open_child.new.folder)
    (turned-room c.args.part place (child_view child) o c.turn.result c.turn.ensures c.in-Ok.ensures.within.0 child.ordered c.in-Ok.ensures.within.1 (omega arith) (omega (arith, c.requires.some)))
    c.in-Ok.ensures.pulls c.in-Ok-open_child.ensures.pulls

pub returns-in-Err-open_child-clause-pulls : goal.returns-in-Err-open_child-clause-pulls
returns-in-Err-open_child-clause-pulls g c =
    let child = c.in-Ok.child in
    but-behind 24 (child.end - child.first) 0 (room_of c.args.part) 0 (g.F.Folder.numbers c.args.folder.now) (g.F.Folder.numbers c.read_child.new.folder) (g.F.Folder.numbers c.open_child.new.folder)
    (omega (arith, c.requires.some, c.in-Ok.ensures.within.0, child.ordered, c.in-Ok.ensures.within.1))
    c.in-Ok.ensures.pulls c.in-Err-open_child.ensures.pulls

pub returns-in-Ok-open_child-clause-told : goal.returns-in-Ok-open_child-clause-told
returns-in-Ok-open_child-clause-told g c = λ bytes parent front mid back h. (
    let place = c.args.part.low + (c.args.part.high - c.args.part.low) / 2 in
    let told = g.F.Folder.files c.args.folder.now in
    let name = c.args.name.now in
    let row = row_view c.args.row in
    let part = part_view c.args.part in
    let child = child_view c.in-Ok.child in
    let k = known told (g.F.Folder.files c.read_child.new.folder) name c.args.cursor.now.name bytes row parent part front mid back place child h c.requires.some refl c.in-Ok.ensures.reads.same_files c.requires.name c.in-Ok.ensures.told in
    let a = g.F.Folder.numbers c.args.folder.now in
    let b = g.F.Folder.numbers c.read_child.new.folder in
    let d = g.F.Folder.numbers c.open_child.new.folder in
    looked told name bytes row parent part front mid back place h k.looks (label_view c.args.wanted.now) child a b d c.in-Ok-open_child.opened c.turn.result c.turn.ensures k.stands k.start
    (c.in-Ok-open_child.ensures.told bytes parent k.looks.k k.there) c.in-Ok.ensures.pulls (c.in-Ok-open_child.ensures.few bytes parent k.looks.k k.there))

pub returns-in-Ok-open_child-clause-few : goal.returns-in-Ok-open_child-clause-few
returns-in-Ok-open_child-clause-few g c = λ bytes parent front mid back h. (
    let place = c.args.part.low + (c.args.part.high - c.args.part.low) / 2 in
    let told = g.F.Folder.files c.args.folder.now in
    let name = c.args.name.now in
    let row = row_view c.args.row in
    let part = part_view c.args.part in
    let child = child_view c.in-Ok.child in
    let k = known told (g.F.Folder.files c.read_child.new.folder) name c.args.cursor.now.name bytes row parent part front mid back place child h c.requires.some refl c.in-Ok.ensures.reads.same_files c.requires.name c.in-Ok.ensures.told in
    let a = g.F.Folder.numbers c.args.folder.now in
    let b = g.F.Folder.numbers c.read_child.new.folder in
    let d = g.F.Folder.numbers c.open_child.new.folder in
    looked-few told name bytes row parent part front mid back place h k.looks a b d c.in-Ok.ensures.pulls (c.in-Ok-open_child.ensures.few bytes parent k.looks.k k.there))

pub returns-in-Err-open_child-clause-told : goal.returns-in-Err-open_child-clause-told
returns-in-Err-open_child-clause-told g c = λ bytes parent front mid back h. (
    let place = c.args.part.low + (c.args.part.high - c.args.part.low) / 2 in
    let told = g.F.Folder.files c.args.folder.now in
    let name = c.args.name.now in
    let row = row_view c.args.row in
    let part = part_view c.args.part in
    let child = child_view c.in-Ok.child in
    let k = known told (g.F.Folder.files c.read_child.new.folder) name c.args.cursor.now.name bytes row parent part front mid back place child h c.requires.some refl c.in-Ok.ensures.reads.same_files c.requires.name c.in-Ok.ensures.told in
    let a = g.F.Folder.numbers c.args.folder.now in
    let b = g.F.Folder.numbers c.read_child.new.folder in
    let d = g.F.Folder.numbers c.open_child.new.folder in
    c.in-Err-open_child.ensures.told bytes parent k.looks.k k.there)

pub returns-in-Err-open_child-clause-few : goal.returns-in-Err-open_child-clause-few
returns-in-Err-open_child-clause-few g c = λ bytes parent front mid back h. (
    let place = c.args.part.low + (c.args.part.high - c.args.part.low) / 2 in
    let told = g.F.Folder.files c.args.folder.now in
    let name = c.args.name.now in
    let row = row_view c.args.row in
    let part = part_view c.args.part in
    let child = child_view c.in-Ok.child in
    let k = known told (g.F.Folder.files c.read_child.new.folder) name c.args.cursor.now.name bytes row parent part front mid back place child h c.requires.some refl c.in-Ok.ensures.reads.same_files c.requires.name c.in-Ok.ensures.told in
    let a = g.F.Folder.numbers c.args.folder.now in
    let b = g.F.Folder.numbers c.read_child.new.folder in
    let d = g.F.Folder.numbers c.open_child.new.folder in
    looked-few told name bytes row parent part front mid back place h k.looks a b d c.in-Ok.ensures.pulls (c.in-Err-open_child.ensures.few bytes parent k.looks.k k.there))

pub returns-in-Err-clause-told : goal.returns-in-Err-clause-told
returns-in-Err-clause-told g c = λ bytes parent front mid back h. (
    let place = c.args.part.low + (c.args.part.high - c.args.part.low) / 2 in
    let told = g.F.Folder.files c.args.folder.now in
    let row = row_view c.args.row in
    let part = part_view c.args.part in
    let l = look told c.args.name.now bytes row parent part front mid back place h c.requires.some refl in
    told-child told c.args.name.now bytes row parent part front mid back place (λ bs p n. IfDamage c.in-Err.fault ⊥) h l c.in-Err.ensures.told)

pub returns-in-Err-clause-few : goal.returns-in-Err-clause-few
returns-in-Err-clause-few g c = λ bytes parent front mid back h. (
    let place = c.args.part.low + (c.args.part.high - c.args.part.low) / 2 in
    let told = g.F.Folder.files c.args.folder.now in
    let row = row_view c.args.row in
    let part = part_view c.args.part in
    let l = look told c.args.name.now bytes row parent part front mid back place h c.requires.some refl in
    read-few told c.args.name.now bytes row parent part front mid back place h l (g.F.Folder.numbers c.args.folder.now) (g.F.Folder.numbers c.read_child.new.folder) c.in-Err.ensures.pulls)
