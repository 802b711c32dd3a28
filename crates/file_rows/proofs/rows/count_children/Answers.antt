use Rattle.std.proofs.Common.{◌≡◌, ℕ, ◌<◌, ◌^◌, IsTrue, length, drop, length-drop, sym, ap, subst, refl, ◌∙◌, arith}
use Rattle.std.specs.Option.{option_map}
use Rattle.std.proofs.lemmas.Result.{IfOk-weaker}
use Rattle.record_format.proofs.Pieces.{entries-length}
use Rattle.record_cursor.proofs.Fills.{front-length, filled-from, never-short}
use Rattle.file_rows.specs.StandsAt.{IsHead, has_room}
use Rattle.file_rows.specs.View.{row_view}
use Rattle.file_rows.proofs.Children.{filled-of, head-stands}
use Rattle.file_rows.proofs.Fields.{answered, dir-may, room-entries}
use Rattle.file_rows.proofs.rows.count_children.Goals as goal

pub returns-in-Ok-clause-room : goal.returns-in-Ok-clause-room
returns-in-Ok-clause-room g c = answered (λ n. IsTrue (has_room n c.args.row.dir)) c.counted.result _ c.ok_or.result c.ok_or.ensures.value c.counted.ensures.room

pub returns-in-Ok-clause-within : goal.returns-in-Ok-clause-within
returns-in-Ok-clause-within g c =
    let room = answered (λ n. IsTrue (has_room n c.args.row.dir)) c.counted.result _ c.ok_or.result c.ok_or.ensures.value c.counted.ensures.room in
    IfOk-weaker c.ok_or.result _ _ (λ n h. room-entries n c.args.row.dir h) room

pub returns-in-Ok-clause-head : goal.returns-in-Ok-clause-head
returns-in-Ok-clause-head g c = λ end bytes tells fits. (
    let told = g.F.Folder.files c.args.folder.now in
    let row = c.args.row in
    let four = c.if-row-lt4.false in
    let len = front-length told c.args.name.now bytes end tells in
    let read = filled-from told c.args.name.now bytes end row.end 13 c.fill_part.new.out tells (omega (arith, four, fits)) (c.in-Ok.ensures.told tells.0 tells.1) in
    answered (IsHead (drop row.end bytes) row.dir) c.counted.result _ c.ok_or.result c.ok_or.ensures.value
    (c.counted.ensures.is (drop row.end bytes) (omega (arith, len, four, fits, length-drop row.end bytes)) read))

pub returns-in-Ok-clause-told : goal.returns-in-Ok-clause-told
returns-in-Ok-clause-told g c = λ end bytes ps tells fits h d. (
    let told = g.F.Folder.files c.args.folder.now in
    let row = c.args.row in
    let four = c.if-row-lt4.false in
    let few : length ps < 2 ^ 32 = omega (arith, d.few, entries-length 0 ps) in
    let room = subst (λ (n : ℕ). IsTrue (has_room (length ps) n)) (sym h.dir) (dir-may ps) in
    let read = filled-from told c.args.name.now bytes end row.end 13 c.fill_part.new.out tells (omega (arith, four, fits)) (c.in-Ok.ensures.told tells.0 tells.1) in
    let is = c.counted.ensures.told (length ps) few room (read ∙ head-stands bytes (row_view row) ps h) in
    filled-of (λ (n : ℕ). n) c.counted.result _ c.ok_or.result (length ps) (λ (n : ℕ). n ≡ length ps) c.ok_or.ensures.value (ap (option_map (λ (n : ℕ). n)) is) refl)

pub returns-in-Err-clause-told : goal.returns-in-Err-clause-told
returns-in-Err-clause-told g c = λ end bytes ps tells fits h d. (
    let four = c.if-row-lt4.false in
    never-short (g.F.Folder.files c.args.folder.now) c.args.name.now bytes end c.args.row.end 13 c.in-Err.fault tells (omega (arith, four, fits)) (c.in-Err.ensures.damage tells.0 tells.1))
