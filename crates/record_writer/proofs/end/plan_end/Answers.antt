use Rattle.std.proofs.Common.{◌≡◌, ◌<◌, ◌^◌, length, arith}
use Rattle.std.proofs.lemmas.Bool.Decides.{nat_tests}
use Rattle.std.proofs.lemmas.List.{length-map}
use Rattle.record_format.specs.Data.{end_rec}
use Rattle.record_format.specs.Spelling.{rec_bytes}
use Rattle.record_format.specs.View.{entry_view}
use Rattle.record_writer.specs.Rows.{row_view}
use Rattle.record_writer.proofs.EndLaws.{end-size}
use Rattle.record_writer.proofs.end.plan_end.Goals as goal

pub returns-clause-planned : goal.returns-clause-planned
returns-clause-planned c =
    let old = c.args.row.now in
    let dir = (row_view old).dir in
    let tree = c.in_ok-tree.ensures.planned in
    let few : length old.entries.items < 2 ^ 32 = grind (arith, nat_tests, c.len-count.ensures, c.if-count-ge-FIELD.false) in
    let count : c.len-count.result ≡ length old.entries.items = grind (arith, c.len-count.ensures) in
    let size : c.in_ok-size.size ≡ length (rec_bytes (end_rec dir)) = omega (arith, c.in_ok-size.ensures, count, length-map old.entries.items entry_view, end-size dir c.in_ok-tree.tree tree.1) in
    (few, (tree.0, size))
