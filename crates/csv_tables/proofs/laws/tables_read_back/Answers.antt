use Rattle.std.proofs.Common.{refl, arith}
use Rattle.csv_tables.specs.Documents.{table_tree}
use Rattle.csv_tables.specs.Records.{rows}
use Rattle.csv_tables.proofs.DocumentLemmas.{well_formed, shallow}
use Rattle.csv_tables.proofs.FaultLemmas.{good}
use Rattle.csv_tables.proofs.KeyLemmas.{rules-read}
use Rattle.csv_tables.proofs.ReadBackLemmas.{texts, good-regular}
use Rattle.csv_tables.proofs.laws.tables_read_back.Goals as goal

pub returns-clause-regular : goal.returns-clause-regular
returns-clause-regular c = λ bytes table e. good-regular table (good (rows bytes) table e)

pub returns-clause-document : goal.returns-clause-document
returns-clause-document c =
    λ bytes table tag e utf8. (let deep = shallow table tag in
    c.printed_documents_read_back.ensures.document (table_tree table tag) refl (well_formed table tag) (texts table tag (good (rows bytes) table e) utf8) (omega (arith, deep)))

pub returns-clause-specification : goal.returns-clause-specification
returns-clause-specification c = rules-read
