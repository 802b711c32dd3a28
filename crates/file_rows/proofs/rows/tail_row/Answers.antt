use Rattle.std.proofs.Common.{◌≡◌, ℕ, ◌<◌, ◌^◌, Some, [], sym, ap, ◌∙◌, arith}
use Rattle.std.specs.Int.{w64}
use Rattle.xa_fields.specs.Reading.{number_at}
use Rattle.xa_fields.proofs.Fields.{some_is}
use Rattle.file_rows.specs.declared.places.Row.{Row}
use Rattle.file_rows.proofs.Fields.{said-of, tail-is}
use Rattle.file_rows.proofs.rows.tail_row.Goals as goal

pub returns-clause-is : goal.returns-clause-is
returns-clause-is c = λ piece long e. (
    said-of c.row_before.result (λ (row : Row). row.dir) c.in_ok-dir.dir (λ (n : ℕ). number_at w64 piece ≡ Some (n, [])) c.row_before.ensures.dir
    (tail-is piece c.args.tail.now c.in_ok-dir.dir _ long e c.in_ok-dir.ensures.found))

pub returns-clause-told : goal.returns-clause-told
returns-clause-told c = λ row f o e t. (
    let small : row.dir < 2 ^ 64 = omega (arith, c.ranges.end.fits, e) in
    let read = sym c.in_ok-dir.was ∙ c.take_u64.ensures.again row.dir [] small t in
    let same = some_is _ (row.dir, 8) read in
    c.row_before.ensures.told row f o (sym (ap (λ (x : ℕ × ℕ). x.0) same)) e)
