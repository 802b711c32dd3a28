use Rattle.std.proofs.Common.{◌≡◌, ℕ, ◌+◌, ◌*◌, length, take, drop, length-drop, ap, ◌∙◌, arith}
use Rattle.record_format.specs.Nodes.{piece_bytes}
use Rattle.record_cursor.proofs.Fills.{front-length, filled-from, never-short}
use Rattle.file_rows.specs.StandsAt.{ChildLaid, IsEntered, start_in}
use Rattle.file_rows.specs.View.{PlainChild, row_view, child_view}
use Rattle.file_rows.proofs.Children.{filled-of, child-at, entry_in, entry-stands, child-stands}
use Rattle.file_rows.proofs.Fields.{answered}
use Rattle.file_rows.proofs.rows.read_child.Goals as goal

pub returns-in-Ok-clause-told : goal.returns-in-Ok-clause-told
returns-in-Ok-clause-told g c = λ end bytes ps p tells fits h d e low high. (
    let i = c.args.position in
    let row = row_view c.args.row in
    let there = child-at 0 ps i p e in
    let entry = entry_in 0 ps i p in
    let place : row.first + start_in 0 ps i ≡ start_in row.first ps i = omega arith in
    let next = there.next in
    let after : start_in row.first ps (i + 1) ≡ row.first + start_in 0 ps (i + 1) = omega arith in
    let at : row.end + 13 + 24 * c.from.result ≡ row.end + 13 + 24 * i = omega (arith, c.from.ensures) in
    let told = g.F.Folder.files c.args.folder.now in
    let read = filled-from told c.args.name.now bytes end (row.end + 13 + 24 * c.from.result) 24 c.fill_part.new.out tells (omega (arith, c.requires, fits, c.from.ensures)) (c.in-Ok.ensures.told tells.0 tells.1) in
    let filled = read ∙ ap (λ (n : ℕ). take 24 (drop n bytes)) at ∙ entry-stands bytes row ps i p h there in
    let is = c.child_of.ensures.told entry (there.fits d.entries) filled (omega (arith, low, place)) (omega (arith, high, place, next, after)) in
    filled-of child_view c.child_of.result _ c.ok_or.result (record { first = row.first + start_in 0 ps i; end = row.first + start_in 0 ps i + length (piece_bytes p); dir = p.dir })
    (λ (child : PlainChild). ChildLaid bytes child p × (child.first ≡ start_in row.first ps i)) c.ok_or.ensures.value is (child-stands bytes row ps i p h there, place))

pub returns-in-Err-clause-told : goal.returns-in-Err-clause-told
returns-in-Err-clause-told g c = λ end bytes ps p tells fits h d e low high. (
    let at = c.args.row.end + 13 + 24 * c.from.result in
    never-short (g.F.Folder.files c.args.folder.now) c.args.name.now bytes end at 24 c.in-Err.fault tells (omega (arith, c.requires, fits, c.from.ensures)) (c.in-Err.ensures.damage tells.0 tells.1))

pub returns-in-Ok-clause-entry : goal.returns-in-Ok-clause-entry
returns-in-Ok-clause-entry g c = λ end bytes tells fits. (
    let told = g.F.Folder.files c.args.folder.now in
    let row = c.args.row in
    let at = row.end + 13 + 24 * c.from.result in
    let place : at ≡ row.end + (13 + 24 * c.args.position) = omega (arith, c.from.ensures) in
    let piece = drop (row.end + (13 + 24 * c.args.position)) bytes in
    let len = front-length told c.args.name.now bytes end tells in
    let read = filled-from told c.args.name.now bytes end at 24 c.fill_part.new.out tells (omega (arith, c.requires, fits, c.from.ensures)) (c.in-Ok.ensures.told tells.0 tells.1) in
    answered (λ child. IsEntered piece row.first (child_view child)) c.child_of.result _ c.ok_or.result c.ok_or.ensures.value
    (c.child_of.ensures.is piece (omega (arith, len, c.requires, fits, length-drop (row.end + (13 + 24 * c.args.position)) bytes)) (read ∙ ap (λ (n : ℕ). take 24 (drop n bytes)) place)))
