-- What is printed for a document reads back as it.
use Rattle.std.specs.Prelude.{◌≡◌, ◌≤◌, IsTrue, Ok, Some, option_and_then}
use Rattle.serde_json.specs.Read.{read}
use Rattle.jsonml_tree.specs.Data.{PlainScalar, PlainTree, PlainContent, tree_depth, content_depth}
use Rattle.jsonml_tree.specs.WellFormed.{IsWellFormed, is_in_range, is_content_well_formed}
use Rattle.jsonml_tree.specs.declared.limits.TheConstants.{GREATEST_DEPTH}
use Rattle.jsonml_text.specs.Document.{doc}
use Rattle.jsonml_tree.specs.Fits.{IsElement}
use Rattle.jsonml_text.specs.Spelled.{scalar_in, content_of_data}
use Rattle.jsonml_text.specs.Texts.{AreTexts}
use Rattle.jsonml_print.specs.Printed.{scalar_text, tree_text, array_text, document_text}

-- without the line feed
abbrev pub TextReadsBack : PlainTree → Type 0
TextReadsBack t = IsElement t → IsWellFormed t → AreTexts t → tree_depth t ≤ GREATEST_DEPTH → doc (tree_text t) ≡ Ok t

-- with it
abbrev pub DocumentReadsBack : PlainTree → Type 0
DocumentReadsBack t = IsElement t → IsWellFormed t → AreTexts t → tree_depth t ≤ GREATEST_DEPTH → doc (document_text t) ≡ Ok t

-- a scalar on its own, as a JSON value
abbrev pub ScalarReadsBack : PlainScalar → Type 0
ScalarReadsBack s = IsTrue (is_in_range s) → option_and_then scalar_in (read (scalar_text s)) ≡ Some s

-- a content on its own, as a JSON array
abbrev pub ContentReadsBack : PlainContent → Type 0
ContentReadsBack c = IsTrue (is_content_well_formed c) → content_depth c ≤ GREATEST_DEPTH → option_and_then content_of_data (read (array_text c)) ≡ Some c
