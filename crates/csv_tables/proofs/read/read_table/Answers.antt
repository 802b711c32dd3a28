use Rattle.std.proofs.Common.{arith}
use Rattle.std.proofs.lemmas.Result.{err_from_is_err_and}
use Rattle.csv.specs.Reading.{strip_bom}
use Rattle.key_spec.specs.View.{names_view}
use Rattle.csv_tables.specs.Records.{rows}
use Rattle.csv_tables.specs.View.{rows_view}
use Rattle.csv_tables.proofs.FaultLemmas.{good-table, regular}
use Rattle.csv_tables.proofs.RecordLemmas.{strip-shorter}
use Rattle.csv_tables.proofs.read.read_table.Goals as goal

pub returns-in_err-heading-clause-bad : goal.returns-in_err-heading-clause-bad
unfolding rows
returns-in_err-heading-clause-bad c =
    let p = err_from_is_err_and c.from_residual.result c.from_residual.ensures.1 in
    rw (p.1, p.2) (c.in_err-heading.ensures (strip_bom c.args.bytes.now) c.records_in-reader.ensures)

pub returns-in_err-rows-clause-bad : goal.returns-in_err-rows-clause-bad
unfolding rows
returns-in_err-rows-clause-bad c =
    let text = strip_bom c.args.bytes.now in
    let heading = c.in_ok-heading.ensures text c.records_in-reader.ensures in
    let p = err_from_is_err_and c.from_residual-in_err-rows.result c.from_residual-in_err-rows.ensures.1 in
    rw (p.1, p.2) (c.in_err-rows.ensures text (names_view c.in_ok-heading.heading.items) heading.good heading.stands)

pub returns-clause-table : goal.returns-clause-table
unfolding rows
returns-clause-table c =
    let text = strip_bom c.args.bytes.now in
    let heading = c.in_ok-heading.ensures text c.records_in-reader.ensures in
    let behind = c.in_ok-rows.ensures text (names_view c.in_ok-heading.heading.items) heading.good heading.stands in
    good-table (names_view c.in_ok-heading.heading.items) (rows_view c.in_ok-rows.rows.items) (rows c.args.bytes.now) behind.are heading.good behind.good

pub returns-clause-regular : goal.returns-clause-regular
returns-clause-regular c =
    let text = strip_bom c.args.bytes.now in
    let heading = c.in_ok-heading.ensures text c.records_in-reader.ensures in
    let behind = c.in_ok-rows.ensures text (names_view c.in_ok-heading.heading.items) heading.good heading.stands in
    regular (names_view c.in_ok-heading.heading.items) (rows_view c.in_ok-rows.rows.items) heading.good behind.good

pub returns-clause-few : goal.returns-clause-few
returns-clause-few c =
    let text = strip_bom c.args.bytes.now in
    let heading = c.in_ok-heading.ensures text c.records_in-reader.ensures in
    let behind = c.in_ok-rows.ensures text (names_view c.in_ok-heading.heading.items) heading.good heading.stands in
    let less = strip-shorter c.args.bytes.now in
    omega (arith, behind.few, less, c.requires)
