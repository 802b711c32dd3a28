-- Printed lines read back.
use Rattle.std.proofs.Common.{◌≡◌, ◌≤◌, true, false, IsUtf8, List, [], ◌∷◌, ◌++◌, Some, option_map, option_and_then, refl, sym, ap, ap₂, ◌∙◌, subst, arith, append_assoc}
use Rattle.std.specs.List.{AllByRecursion}
use Rattle.std.specs.Result.{result_ok}
use Rattle.json.specs.Print.{quoted}
use Rattle.json.specs.Tree as outlined
use Rattle.std.proofs.lemmas.Str.{IsUtf8-append, IsUtf8-nil}
use Rattle.json.proofs.Printed.Utf8.{IsUtf8-are_ascii, IsUtf8-quoted}
use Rattle.serde_json.specs.Data.{Data, string, array, Items, no_items, item}
use Rattle.serde_json.specs.Read.{read, of_json, of_items}
use Rattle.serde_json.specs.Written as written
use Rattle.serde_json.specs.Written.{compact_text, outline, items_outline}
use Rattle.jsonml_tree.specs.Data as plain
use Rattle.jsonml_tree.specs.Data.{PlainScalar}
use Rattle.jsonml_text.specs.Spelled.{scalar_in}
use Rattle.jsonml_text.proofs.ReadBack.{scalar_data, content_data, scalar_text-is, array_text-is, scalar_read, content_read, scalar_numbers, content_numbers, scalar_flat, content_nests, reads_outline}
use Rattle.jsonml_text.proofs.RoundTrips.{byte, scalar_utf8, array_utf8, scalar_back, content_back}
use Rattle.keyed_tree.specs.Data.{PlainKey, scalar, inside}
use Rattle.jsonml_lines.specs.Lines.{PlainLine, cell_text, cells_text, front_text}
use Rattle.jsonml_lines.specs.Read.{cell_in, cells_in, line_in}
use Rattle.jsonml_lines.specs.RoundTrip.{AreCellTexts, AreLineTexts, IsCell, IsLine, CellReadsBack, ReadsBack}
use Rattle.jsonml_lines.proofs.Unbroken as whole
use Rattle.jsonml_lines.proofs.Unbroken.{Unbroken, joined, whole_string, whole_scalar, whole_content}

-- ---- the value that spells a cell, and a line

abbrev pub cell_data : PlainKey → Data
cell_data (scalar s) = scalar_data s
cell_data (inside c) = array (content_data c)

abbrev pub cells_data : List PlainKey → Items
cells_data [] = no_items
cells_data (k ∷ ks) = item (cell_data k) (cells_data ks)

abbrev pub line_data : PlainLine → Data
line_data l = array (item (string l.word) (cells_data l.cells))

-- ---- what is printed for the line is what is printed for that value

pub cell_text-is : (k : PlainKey) → cell_text k ≡ compact_text (cell_data k)
cell_text-is (scalar s) = scalar_text-is s
cell_text-is (inside c) = array_text-is c

cells_text-is : (ks : List PlainKey) → cells_text ks ++ 93 ∷ [] ≡ written.items_text true (cells_data ks)
cells_text-is [] = refl
cells_text-is (k ∷ ks) = ap (λ l. 44 ∷ l) (append_assoc (cell_text k) (cells_text ks) (93 ∷ []) ∙ ap₂ (λ l m. l ++ m) (cell_text-is k) (cells_text-is ks))

front_text-is : (l : PlainLine) → front_text l ≡ compact_text (line_data l)
front_text-is l = ap (λ r. 91 ∷ (quoted l.word ++ r)) (cells_text-is l.cells)

-- ---- it has no line feed

whole_cell : (k : PlainKey) → IsCell k → Unbroken (compact_text (cell_data k))
whole_cell (scalar s) h = whole_scalar s h.well_formed
whole_cell (inside c) h = whole.behind 91 _ refl (whole_content false c h.well_formed)

whole_cells : (ks : List PlainKey) → AllByRecursion IsCell ks → Unbroken (written.items_text true (cells_data ks))
whole_cells [] h = whole.sure (93 ∷ []) refl
whole_cells (k ∷ ks) h = whole.comma true _ (joined (compact_text (cell_data k)) _ (whole_cell k h.0) (whole_cells ks h.1))

whole_line : (l : PlainLine) → IsLine l → Unbroken (compact_text (line_data l))
whole_line l h = whole.behind 91 _ refl (joined (quoted l.word) _ (whole_string l.word) (whole_cells l.cells h))

-- ---- it is UTF-8

good_cell : (k : PlainKey) → IsCell k → AreCellTexts k → IsUtf8 (cell_text k)
good_cell (scalar s) h t = scalar_utf8 s h.well_formed t
good_cell (inside c) h t = array_utf8 c h.well_formed t

good_cells : (ks : List PlainKey) → AllByRecursion IsCell ks → AllByRecursion AreCellTexts ks → IsUtf8 (cells_text ks)
good_cells [] h t = IsUtf8-nil
good_cells (k ∷ ks) h t = byte 44 _ (IsUtf8-are_ascii _ refl) (IsUtf8-append (cell_text k) (cells_text ks) (good_cell k h.0 t.0) (good_cells ks h.1 t.1))

good_line : (l : PlainLine) → IsLine l → AreLineTexts l → IsUtf8 (front_text l)
good_line l h t = byte 91 _ (IsUtf8-are_ascii _ refl) (IsUtf8-append (quoted l.word) _ (IsUtf8-quoted l.word t.word) (IsUtf8-append (cells_text l.cells) (93 ∷ []) (good_cells l.cells h t.cells) (IsUtf8-are_ascii _ refl)))

-- ---- it is read

cell_numbers : (k : PlainKey) → IsCell k → outlined.HasNumbers (outline (cell_data k))
cell_numbers (scalar s) h = scalar_numbers s h.well_formed
cell_numbers (inside c) h = content_numbers c h.well_formed

cells_numbers : (ks : List PlainKey) → AllByRecursion IsCell ks → outlined.ItemsHaveNumbers (items_outline (cells_data ks))
cells_numbers [] h = tt
cells_numbers (k ∷ ks) h = (cell_numbers k h.0, cells_numbers ks h.1)

cell_nests : (k : PlainKey) → IsCell k → outlined.depth (outline (cell_data k)) ≤ 122
cell_nests (scalar s) h = omega (arith, scalar_flat s)
cell_nests (inside c) h = omega (arith, content_nests c, h.shallow)

cells_nest : (ks : List PlainKey) → AllByRecursion IsCell ks → outlined.items_depth (items_outline (cells_data ks)) ≤ 122
cells_nest [] h = omega arith
cells_nest (k ∷ ks) h = omega (arith, cell_nests k h.0, cells_nest ks h.1)

cell_read : (k : PlainKey) → IsCell k → of_json (outline (cell_data k)) ≡ Some (cell_data k)
cell_read (scalar s) h = scalar_read s h.well_formed
cell_read (inside c) h = ap (option_map array) (content_read c h.well_formed)

cells_read : (ks : List PlainKey) → AllByRecursion IsCell ks → of_items (items_outline (cells_data ks)) ≡ Some (cells_data ks)
cells_read [] h = refl
cells_read (k ∷ ks) h =
    ap (option_and_then (λ d. option_map (item d) (of_items (items_outline (cells_data ks))))) (cell_read k h.0) ∙ ap (option_map (item (cell_data k))) (cells_read ks h.1)

line_read : (l : PlainLine) → IsLine l → read (front_text l) ≡ Some (line_data l)
line_read l h =
    reads_outline (front_text l) (line_data l) (front_text-is l) (tt, cells_numbers l.cells h) (omega (arith, cells_nest l.cells h))
    ∙ ap (λ o. option_map array (option_map (item (string l.word)) o)) (cells_read l.cells h)

-- ---- the value spells the line

scalar_spelled : (s : PlainScalar) → scalar_in (scalar_data s) ≡ Some s
scalar_spelled s = ap result_ok (scalar_back [] s)

cell_back : (k : PlainKey) → cell_in (cell_data k) ≡ Some k
cell_back (scalar plain.null) = refl
cell_back (scalar (plain.boolean b)) = refl
cell_back (scalar (plain.whole n)) = ap (option_map scalar) (scalar_spelled (plain.whole n))
cell_back (scalar (plain.string s)) = refl
cell_back (inside c) = ap (λ r. option_map inside (result_ok r)) (content_back [] c)

cells_back : (ks : List PlainKey) → cells_in (cells_data ks) ≡ Some ks
cells_back [] = refl
cells_back (k ∷ ks) = ap (option_and_then (λ l. option_map (λ ls. l ∷ ls) (cells_in (cells_data ks)))) (cell_back k) ∙ ap (option_map (λ ls. k ∷ ls)) (cells_back ks)

line_back : (l : PlainLine) → line_in (line_data l) ≡ Some l
line_back l = ap (option_map (λ ks. record { word = l.word; cells = ks })) (cells_back l.cells)

-- ---- the laws

pub cell_reads_back : (k : PlainKey) → CellReadsBack k
cell_reads_back k h = ap (option_and_then cell_in) (reads_outline (cell_text k) (cell_data k) (cell_text-is k) (cell_numbers k h) (omega (arith, cell_nests k h)) ∙ cell_read k h) ∙ cell_back k

pub line_reads_back : (l : PlainLine) → IsLine l → ReadsBack l
line_reads_back l h =
    record {
      unbroken = (subst Unbroken (sym (front_text-is l)) (whole_line l h)).is;
      value = ap (option_and_then line_in) (line_read l h) ∙ line_back l;
      utf8 = λ t. good_line l h t;
    }
