use Rattle.std.proofs.Common.{sym, ◌∙◌}
use Rattle.std.specs.List.{list_all}
use Rattle.std.proofs.lemmas.Bool.{cond-false}
use Rattle.key_spec.specs.View.{names_view}
use Rattle.csv_tables.specs.Records.{has_field}
use Rattle.csv_tables.specs.View.{table_view}
use Rattle.xarch_parts.specs.Ends.{IsDefined}
use Rattle.xarch_tables.proofs.document.check_columns.Goals as goal

pub returns-else-has_columns-clause-told : goal.returns-else-has_columns-clause-told
unfolding IsDefined
returns-else-has_columns-clause-told c = cond-false (list_all (has_field (table_view c.args.table.now).heading) (names_view c.args.names.now)) _ _ (sym c.has_columns.ensures ∙ c.if-has_columns.false)
