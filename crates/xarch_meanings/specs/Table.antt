-- What `table` and `tablekeys` do: they make the document of a table, and the specification for it.
use Rattle.std.specs.Prelude.{ℕ, List, [], length, nat_le, Result, Ok, Err, if◌then◌else◌, ◌≡◌, ◌⊎◌, ◌<◌, Some}
use Rattle.std.specs.FinMap as map
use Rattle.std.specs.List.{list_all}
use Rattle.xa_outside.specs.Folder.{Files}
use Rattle.jsonml_print.specs.Printed.{document_text}
use Rattle.jsonml_tree.specs.Data.{PlainTree}
use Rattle.key_spec.specs.Canonical.{canonical}
use Rattle.key_spec.specs.Data.{PlainRule}
use Rattle.csv_tables.specs.Data.{PlainBadRow, PlainTable}
use Rattle.csv_tables.specs.Documents.{table_tree}
use Rattle.csv_tables.specs.Keys.{table_rules}
use Rattle.csv_tables.specs.Records.{has_field, table_of}
use Rattle.xarch_words.specs.Commands.{key_names}
use Rattle.xarch_words.specs.Refusal.{document, specification, Refusal, bad_csv, limit, memory, refused}
use Rattle.xarch_words.specs.declared.limits.TheConstants.{DOCUMENT, SPECIFICATION}
use Rattle.xarch_parts.specs.Archives.{free_in}
use Rattle.xarch_parts.specs.Inputs.{length_in, read_in}
use Rattle.xarch_parts.specs.Outcome.{Outcome, and_then}
use Rattle.xarch_parts.specs.Readings.{keyed_of, refused_as}
use Rattle.xarch_meanings.specs.Meaning.{Meaning, computed, new_file, stores}

abbrev pub table_refusal : PlainBadRow → Refusal
table_refusal f = bad_csv f.row f.why

-- the table that some bytes spell
unfoldable pub rows_of : List ℕ → Result PlainTable Refusal
rows_of bytes = refused_as table_refusal (table_of bytes)

-- the table, where each of the keys is one of its columns
abbrev pub having : List (List ℕ) → PlainTable → Result PlainTable Refusal
having keys t = if list_all (has_field t.heading) keys then Ok t else Err (bad_csv 1 5)

-- the document of the table, whose text is not longer than that of a document may be
abbrev pub short_document : List ℕ → PlainTable → Result PlainTree Refusal
short_document tag t = if nat_le (length (document_text (table_tree t tag))) DOCUMENT then Ok (table_tree t tag) else Err (limit document DOCUMENT)

-- the rules of such a document, whose text is not longer than that of a specification may be
abbrev pub short_rules : List ℕ → List (List ℕ) → Result (List PlainRule) Refusal
short_rules tag keys = if nat_le (length (canonical (table_rules tag keys))) SPECIFICATION then Ok (table_rules tag keys) else Err (limit specification SPECIFICATION)

-- The document of the table, which satisfies its keys. The refusals stand in the order in which they are tried.
unfoldable pub document_for : List ℕ → List (List ℕ) → PlainTable → Result PlainTree Refusal
document_for tag keys table =
    and_then (having keys table) (λ _.
    and_then (short_document tag table) (λ doc.
    and_then (short_rules tag keys) (λ rules.
    and_then (keyed_of rules doc) (λ _.
    Ok doc))))

-- the bytes come under the name
abbrev pub kept_as : Files → List ℕ → List ℕ → Outcome
kept_as files name bytes = record { files = map.insert files name bytes; output = [] }

-- the table, or the first refusal before it is judged by its keys
abbrev pub table_input : Files → List ℕ → List ℕ → Result PlainTable Refusal
table_input files csv doc =
    and_then (length_in files csv document DOCUMENT) (λ _.
    and_then (free_in files doc) (λ _.
    read_in files csv rows_of))

abbrev pub tabled : Files → List ℕ → List ℕ → List ℕ → List ℕ → Result Outcome Refusal
tabled files csv tag keys doc =
    and_then (table_input files csv doc) (λ table.
    and_then (document_for tag (key_names keys) table) (λ t.
    Ok (kept_as files doc (document_text t))))

abbrev pub keys_tabled : Files → List ℕ → List ℕ → List ℕ → Result Outcome Refusal
keys_tabled files tag keys spec =
    and_then (short_rules tag (key_names keys)) (λ rules.
    and_then (free_in files spec) (λ _.
    Ok (kept_as files spec (canonical rules))))

-- ---- all that is said of them

abbrev pub table_meaning : List ℕ → List ℕ → List ℕ → List ℕ → Meaning
table_meaning csv tag keys doc = record (computed (stores (new_file doc)) (λ files. tabled files csv tag keys doc)) { most = λ told. DOCUMENT }

-- The words of `tablekeys` alone refuse keys whose text is too long, but a text takes memory to be spelled.
abbrev pub tablekeys_meaning : List ℕ → List ℕ → List ℕ → Meaning
tablekeys_meaning tag keys spec = record (computed (stores (new_file spec)) (λ files. keys_tabled files tag keys spec)) {
  ByWords = λ ended. SPECIFICATION < length (canonical (table_rules tag (key_names keys))) → (ended ≡ Some (refused (limit specification SPECIFICATION))) ⊎ (ended ≡ Some memory);
}
