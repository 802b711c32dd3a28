-- The status of each fault, and its line on the error sink.
use Rattle.std.specs.Prelude.{ℕ, List, [], ◌∷◌, ◌++◌, Option, Some, None, codes}
use Rattle.std.specs.Fmt.{decimal}
use Rattle.std.specs.List.{flat_map}
use Rattle.key_spec.specs.Data.{PlainPath}
use Rattle.key_spec.specs.Names.{path_text}
use Rattle.xarch_words.specs.Refusal.{PlainQuantity, document, depth, versions, specification, archive, line, batch, demo, note, text, Refusal, usage, no_file, exists, bad_spec, bad_json, bad_shape, key_fault, key_fault_in, no_version, bad_path, damaged, limit, not_frontier, spec_differs, bad_csv, bad_text, PlainFault, refused, folder_fault, out_fault, in_fault, memory}

abbrev pub refusal_status : Refusal → ℕ
refusal_status usage = 2
refusal_status (no_file name) = 3
refusal_status (exists name) = 4
refusal_status (bad_spec l why) = 5
refusal_status bad_json = 6
refusal_status (bad_shape place why) = 7
refusal_status (key_fault f) = 8
refusal_status (key_fault_in i f) = 8
refusal_status (no_version i n) = 9
refusal_status (bad_path step) = 10
refusal_status (damaged name) = 11
refusal_status (limit quantity number) = 12
refusal_status not_frontier = 17
refusal_status (spec_differs one two) = 18
refusal_status (bad_csv row why) = 19
refusal_status bad_text = 20

abbrev pub fault_status : PlainFault → ℕ
fault_status (refused r) = refusal_status r
fault_status folder_fault = 13
fault_status out_fault = 14
fault_status in_fault = 15
fault_status memory = 16

-- one position of a place
abbrev pub step_text : ℕ → List ℕ
step_text n = 47 ∷ decimal n

-- `/` for the root, and `/1/4` for the fourth item of the root's first item
unfoldable pub place_text : List ℕ → List ℕ
place_text [] = codes "/"
place_text (n ∷ ns) = flat_map step_text (n ∷ ns)

unfoldable pub why_text : ℕ → List ℕ
why_text why = codes ", why " ++ decimal why

unfoldable pub key_path_text : Option PlainPath → List ℕ
key_path_text None = []
key_path_text (Some p) = codes ", key path " ++ path_text p

abbrev pub quantity_text : PlainQuantity → List ℕ
quantity_text document = codes "document "
quantity_text depth = codes "depth "
quantity_text versions = codes "versions "
quantity_text specification = codes "specification "
quantity_text archive = codes "archive "
quantity_text line = codes "line "
quantity_text batch = codes "batch "
quantity_text demo = codes "demo "
quantity_text note = codes "note "
quantity_text text = codes "text "

unfoldable pub no_version_text : ℕ → ℕ → List ℕ
no_version_text i n = codes "no version " ++ decimal i ++ (codes " of " ++ decimal n)

-- the text of a refusal: numbers in decimal, names as they were given
unfoldable pub refusal_text : Refusal → List ℕ
refusal_text usage = codes "these words are no command"
refusal_text (no_file name) = codes "no file " ++ name
refusal_text (exists name) = name ++ codes " exists"
refusal_text (bad_spec l why) = codes "bad specification, line " ++ decimal l ++ why_text why
refusal_text bad_json = codes "bad json"
refusal_text (bad_shape place why) = codes "bad shape at " ++ place_text place ++ why_text why
refusal_text (key_fault f) = codes "key fault at " ++ place_text f.place ++ why_text f.why ++ key_path_text f.path
refusal_text (key_fault_in i f) = codes "key fault in version " ++ decimal i ++ (codes " at " ++ place_text f.place ++ why_text f.why ++ key_path_text f.path)
refusal_text (no_version i n) = no_version_text i n
refusal_text (bad_path step) = codes "bad path, step " ++ decimal step
refusal_text (damaged name) = codes "damaged archive " ++ name
refusal_text (limit quantity number) = codes "limit " ++ quantity_text quantity ++ decimal number
refusal_text not_frontier = codes "path is not at the frontier"
refusal_text (spec_differs one two) = codes "keys of " ++ one ++ (codes " and " ++ two ++ codes " differ")
refusal_text (bad_csv row why) = codes "bad table, record " ++ decimal row ++ why_text why
refusal_text bad_text = codes "bad text"

unfoldable pub fault_text : PlainFault → List ℕ
fault_text (refused r) = refusal_text r
fault_text folder_fault = codes "folder fault"
fault_text out_fault = codes "output fault"
fault_text in_fault = codes "input fault"
fault_text memory = codes "out of memory"

-- the whole line, with its LF
unfoldable pub fault_line : PlainFault → List ℕ
fault_line f = codes "xarch: " ++ fault_text f ++ codes "\n"
