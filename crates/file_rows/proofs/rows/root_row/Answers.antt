use Rattle.std.proofs.Common.{◌≡◌, ◌-◌, ◌∙◌, [], Some, length, drop, ap, length-drop, arith}
use Rattle.std.specs.FinMap as map
use Rattle.std.proofs.lemmas.List.{length-take}
use Rattle.xa_outside.specs.Folder.{bytes_or_none}
use Rattle.std.specs.Int.{w64}
use Rattle.xa_fields.specs.Reading.{number_at}
use Rattle.record_cursor.proofs.Fills.{front-length, filled-from, never-short}
use Rattle.file_rows.specs.StandsAt.{RowLaid}
use Rattle.file_rows.specs.View.{PlainRow, row_view}
use Rattle.file_rows.proofs.Children.{filled-of, row-ordered}
use Rattle.file_rows.specs.declared.places.Row.{Row}
use Rattle.file_rows.proofs.Fields.{answered, has-front}
use Rattle.file_rows.proofs.rows.root_row.Goals as goal

pub returns-in-Ok-clause-short : goal.returns-in-Ok-clause-short
returns-in-Ok-clause-short g c = λ files told none. (
    let eight = c.if-size-first-lt-TAIL.false in
    let file = bytes_or_none (map.get files c.args.name.now) in
    let end = c.args.size - 8 in
    let read = c.in-Ok.ensures.told files told in
    absurd (has-front file c.args.size (omega (arith, eight, ap length read, length-take 8 (drop end file), length-drop end file)) none))

pub returns-in-Ok-clause-tail : goal.returns-in-Ok-clause-tail
returns-in-Ok-clause-tail g c = λ bytes tells. (
    let eight = c.if-size-first-lt-TAIL.false in
    let size = c.args.size in
    let piece = drop (size - 8) bytes in
    let told = g.F.Folder.files c.args.folder.now in
    let read = filled-from told c.args.name.now bytes size (size - 8) 8 c.fill_part.new.out tells (omega (arith, eight)) (c.in-Ok.ensures.told tells.0 tells.1) in
    let len = front-length told c.args.name.now bytes size tells in
    answered (λ (row : Row). number_at w64 piece ≡ Some (row.dir, [])) c.tail_row.result _ c.ok_or.result c.ok_or.ensures.value
    (c.tail_row.ensures.is piece (omega (arith, len, eight, length-drop (size - 8) bytes)) read))

pub returns-in-Ok-clause-told : goal.returns-in-Ok-clause-told
returns-in-Ok-clause-told g c = λ bytes row ps tells h f e tail. (
    let eight = c.if-size-first-lt-TAIL.false in
    let told = g.F.Folder.files c.args.folder.now in
    let read = filled-from told c.args.name.now bytes c.args.size (c.args.size - 8) 8 c.fill_part.new.out tells (omega (arith, eight)) (c.in-Ok.ensures.told tells.0 tells.1) in
    filled-of row_view c.tail_row.result _ c.ok_or.result row (λ (r : PlainRow). RowLaid bytes r ps) c.ok_or.ensures.value
    (c.tail_row.ensures.told row f (row-ordered bytes row ps h) (omega (arith, e))
    (read ∙ tail)) h)

pub returns-in-Err-clause-told : goal.returns-in-Err-clause-told
returns-in-Err-clause-told g c = λ bytes row ps tells h f e tail. (
    let eight = c.if-size-first-lt-TAIL.false in
    never-short (g.F.Folder.files c.args.folder.now) c.args.name.now bytes c.args.size (c.args.size - 8) 8 c.in-Err.fault tells (omega (arith, eight)) (c.in-Err.ensures.damage tells.0 tells.1))
