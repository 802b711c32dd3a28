use Rattle.key_rules.proofs.Law.{first_fault-None}
use Rattle.csv_tables.proofs.SatisfyLemmas.{satisfies}
use Rattle.csv_tables.specs.Documents.{table_tree}
use Rattle.csv_tables.specs.Keys.{table_rules}
use Rattle.csv_tables.proofs.laws.tables_satisfy_their_keys.Goals as goal

pub returns-clause-satisfies : goal.returns-clause-satisfies
returns-clause-satisfies c = satisfies

pub returns-clause-faultless : goal.returns-clause-faultless
returns-clause-faultless c = λ table tag keys. first_fault-None (table_rules tag keys) (table_tree table tag)
