-- The text of a keyed tree, and the calls of a printer that print it.
use Rattle.std.specs.Prelude.{ℕ, List, []}
use Rattle.jsonml_print.specs.Printed.{document_text}
use Rattle.jsonml_print.specs.Calls.{Call, calls_of}
use Rattle.keyed_tree.specs.Data.{PlainName, attr, tag, PlainKeyed, label_of}
use Rattle.keyed_tree.specs.Plain.{plain}

-- the element that it spells, printed, and a line feed
unfoldable pub keyed_text : PlainKeyed → List ℕ
keyed_text k = document_text (plain k)

-- the calls for a kid that is named by a tag, and none for one that is named by an attribute
abbrev pub calls_by : PlainName → List Call → List Call
calls_by (attr s) cs = []
calls_by (tag s) cs = cs

abbrev pub element_calls : PlainKeyed → List Call
element_calls k = calls_by (label_of k).name (calls_of (plain k))
