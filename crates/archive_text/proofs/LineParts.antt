-- The parts of a line, one behind another.
use Rattle.std.proofs.Common.{◌≡◌, ℕ, List, [], ◌∷◌, ◌++◌, codes, map, ap, ◌∙◌, append_assoc}
use Rattle.std.specs.List.{flat_map}
use Rattle.json.specs.Print.{quoted}
use Rattle.keyed_tree.specs.Data.{PlainKey}
use Rattle.keyed_tree.specs.View.{key_view}
use Rattle.keyed_tree.specs.declared.label.KeyVal.{KeyVal}
use Rattle.jsonml_lines.specs.Lines.{cell_text, cells_text, line_text}
use Rattle.archive_text.specs.Export.{text_cell}
use Rattle.archive_text.proofs.Steps.{flat_map-map}

abbrev pub word_part : List ℕ → List ℕ
word_part w = 91 ∷ quoted w

abbrev pub text_part : List ℕ → List ℕ
text_part s = 44 ∷ quoted s

abbrev pub cell_part : KeyVal → List ℕ
cell_part k = 44 ∷ cell_text (key_view k)

abbrev pub end_part : List ℕ
end_part = 93 ∷ 10 ∷ []

line_is : (w : List ℕ) (ks : List PlainKey) → line_text (record { word = w; cells = ks }) ≡ word_part w ++ (cells_text ks ++ end_part)
line_is w ks = append_assoc (word_part w) (cells_text ks ++ 93 ∷ []) (10 ∷ []) ∙ ap (λ l. word_part w ++ l) (append_assoc (cells_text ks) (93 ∷ []) (10 ∷ []))

next_is : (k : PlainKey) (ks : List PlainKey) (z : List ℕ) → cells_text (k ∷ ks) ++ z ≡ (44 ∷ cell_text k) ++ (cells_text ks ++ z)
next_is k ks z = append_assoc (44 ∷ cell_text k) (cells_text ks) z

-- the first line of a node
pub begun_is : (w s n : List ℕ) (ks : List KeyVal) → line_text (record { word = w; cells = text_cell s ∷ text_cell n ∷ map key_view ks }) ≡ word_part w ++ (text_part s ++ (text_part n ++ (flat_map cell_part ks ++ end_part)))
begun_is w s n ks =
    line_is w (text_cell s ∷ text_cell n ∷ map key_view ks)
    ∙ ap (λ l. word_part w ++ l)
    (next_is (text_cell s) (text_cell n ∷ map key_view ks) end_part
    ∙ ap (λ l. text_part s ++ l) (next_is (text_cell n) (map key_view ks) end_part ∙ ap (λ l. text_part n ++ (l ++ end_part)) (flat_map-map (λ k. 44 ∷ cell_text k) key_view ks)))

-- the line of an alternative
pub body_is : (s : List ℕ) (k : KeyVal) → line_text (record { word = codes "alt"; cells = text_cell s ∷ key_view k ∷ [] }) ≡ word_part (codes "alt") ++ (text_part s ++ (cell_part k ++ end_part))
body_is s k =
    line_is (codes "alt") (text_cell s ∷ key_view k ∷ [])
    ∙ ap (λ l. word_part (codes "alt") ++ l) (next_is (text_cell s) (key_view k ∷ []) end_part ∙ ap (λ l. text_part s ++ l) (next_is (key_view k) [] end_part))
