use Rattle.xarch_run.proofs.TableLemmas.{keys-made, keys-step, table-apart, table-made, table-step}
use Rattle.xarch_run.proofs.laws.tables_make_documents_by_their_keys.Goals as goal

pub returns-clause-tables : goal.returns-clause-tables
returns-clause-tables c = table-step

pub returns-clause-specifies : goal.returns-clause-specifies
returns-clause-specifies c = keys-step

pub returns-clause-made : goal.returns-clause-made
returns-clause-made c =
    table-made c.tables_read_back.ensures.regular c.tables_read_back.ensures.document c.tables_read_back.ensures.specification c.tables_satisfy_their_keys.ensures.satisfies c.tables_satisfy_their_keys.ensures.faultless

pub returns-clause-apart : goal.returns-clause-apart
returns-clause-apart c =
    table-apart c.tables_read_back.ensures.regular c.tables_read_back.ensures.document c.tables_read_back.ensures.specification c.tables_satisfy_their_keys.ensures.satisfies c.tables_satisfy_their_keys.ensures.faultless

pub returns-clause-specified : goal.returns-clause-specified
returns-clause-specified c =
    keys-made c.tables_read_back.ensures.regular c.tables_read_back.ensures.document c.tables_read_back.ensures.specification c.tables_satisfy_their_keys.ensures.satisfies c.tables_satisfy_their_keys.ensures.faultless
