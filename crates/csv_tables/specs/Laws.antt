-- What holds of all tables that are read, and of their specifications.
use Rattle.std.specs.Prelude.{◌≡◌, ℕ, ◌≤◌, true, List, length, Ok, IsUtf8}
use Rattle.std.specs.List.{AllByRecursion}
use Rattle.jsonml_print.specs.Printed.{document_text}
use Rattle.jsonml_text.specs.Document.{doc}
use Rattle.key_spec.specs.Canonical.{canonical}
use Rattle.key_spec.specs.Closed.{closed}
use Rattle.key_spec.specs.Names.{is_name}
use Rattle.csv_tables.specs.Data.{PlainTable}
use Rattle.csv_tables.specs.Documents.{table_tree}
use Rattle.csv_tables.specs.Keys.{table_rules, AreKeys}
use Rattle.csv_tables.specs.Records.{IsRegular, table_of}

-- the table of a text is regular
abbrev pub ReadsRegular : List ℕ → PlainTable → Type 0
ReadsRegular bytes table = table_of bytes ≡ Ok table → IsRegular table

-- what is printed for it reads back as its document
abbrev pub TableReadsBack : List ℕ → PlainTable → List ℕ → Type 0
TableReadsBack bytes table tag = table_of bytes ≡ Ok table → IsUtf8 tag → doc (document_text (table_tree table tag)) ≡ Ok (table_tree table tag)

-- the canonical text of its specification specifies it again
abbrev pub KeysReadBack : List ℕ → List (List ℕ) → Type 0
KeysReadBack tag keys =
    is_name tag ≡ true → AreKeys keys → IsUtf8 tag → AllByRecursion IsUtf8 keys → length (canonical (table_rules tag keys)) ≤ 1048576
    → closed (canonical (table_rules tag keys)) ≡ Ok (table_rules tag keys)
