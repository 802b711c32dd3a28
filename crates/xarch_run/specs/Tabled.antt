-- What tables become.
use Rattle.std.specs.Prelude.{◌≡◌, ℕ, List, Some, Ok}
use Rattle.std.specs.FinMap as finite
use Rattle.xa_outside.specs.Folder.{Files}
use Rattle.jsonml_print.specs.Printed.{document_text}
use Rattle.key_rules.specs.Satisfies.{Satisfies}
use Rattle.key_spec.specs.Canonical.{canonical}
use Rattle.csv_tables.specs.Data.{PlainTable}
use Rattle.csv_tables.specs.Documents.{table_tree}
use Rattle.csv_tables.specs.Keys.{table_rules}
use Rattle.xarch_words.specs.Commands.{key_names}
use Rattle.xarch_parts.specs.Inputs.{read_in}
use Rattle.xarch_parts.specs.Readings.{document_of, rules_of}
use Rattle.xarch_meanings.specs.Table.{having, rows_of, short_document, short_rules, table_input}

-- The file is the printed document of the table, which reads back as it and satisfies the keys of its specification.
pub record HasDocument (files : Files) (csv tag keys doc : List ℕ) (now : Files) : Type 0 where
  pub table : PlainTable
  pub read : read_in files csv rows_of ≡ Ok table
  pub there : finite.get now doc ≡ Some (document_text (table_tree table tag))
  pub reads : document_of (document_text (table_tree table tag)) ≡ Ok (table_tree table tag)
  pub satisfies : Satisfies (table_rules tag (key_names keys)) (table_tree table tag)

-- The file is the canonical text of the specification, which reads back as it.
pub record HasKeys (tag keys spec : List ℕ) (now : Files) : Type 0 where
  pub there : finite.get now spec ≡ Some (canonical (table_rules tag (key_names keys)))
  pub reads : rules_of (canonical (table_rules tag (key_names keys))) ≡ Ok (table_rules tag (key_names keys))

-- The table is there, and nothing stands against its document but that rows may agree in their keys.
pub record IsForKeys (files : Files) (csv tag keys doc : List ℕ) (table : PlainTable) : Type 0 where
  pub read : table_input files csv doc ≡ Ok table
  pub columns : having (key_names keys) table ≡ Ok table
  pub short : short_document tag table ≡ Ok (table_tree table tag)
  pub specified : short_rules tag (key_names keys) ≡ Ok (table_rules tag (key_names keys))
