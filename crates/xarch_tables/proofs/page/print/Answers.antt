use Rattle.csv_tables.specs.View.{table_view}
use Rattle.xarch_tables.proofs.Pages.{whole}
use Rattle.xarch_tables.proofs.page.print.Goals as goal

pub returns : goal.returns
returns c = whole (table_view c.args.table) c.args.tag.now _ _ _ _ c.in_ok-page.ensures c.in_ok-put_tag.ensures c.in_ok-put_rows.ensures c.in_ok-put.ensures
