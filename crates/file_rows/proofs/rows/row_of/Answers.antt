use Rattle.std.proofs.Common.{refl}
use Rattle.file_rows.specs.StandsAt.{RowLaid}
use Rattle.file_rows.specs.View.{PlainRow, row_view, child_view}
use Rattle.file_rows.proofs.Children.{inner-row, row_in, shown-of}
use Rattle.file_rows.proofs.rows.row_of.Goals as goal

pub returns-clause-told : goal.returns-clause-told
returns-clause-told c = λ bytes l s set ps h e. (
    let i = inner-row bytes (child_view c.args.child) l s set ps c.args.behind h e in
    shown-of row_view c.row_before.result (row_in c.args.behind ps) (λ (row : PlainRow). RowLaid bytes row ps)
    (c.row_before.ensures.told (row_in c.args.behind ps) refl i.ordered i.dir i.ends) i.stands)
