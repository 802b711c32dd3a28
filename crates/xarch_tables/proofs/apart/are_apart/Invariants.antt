use Rattle.key_spec.specs.View.{names_view}
use Rattle.csv_tables.specs.View.{table_view}
use Rattle.xarch_tables.proofs.ApartLemmas.{Seen}
use Rattle.xarch_tables.proofs.apart.are_apart.Given as goal

abbrev pub invariant-loop-row : goal.invariant-loop-row
invariant-loop-row l = Seen (table_view l.table).heading (names_view l.names) (table_view l.table).rows l.row-index l.seen
