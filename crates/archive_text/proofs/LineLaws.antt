-- The lines of texts and of nodes.
use Rattle.std.proofs.Common.{◌≡◌, ◌≢◌, ℕ, suc, ◌<◌, ◌==◌, cond, false, List, [], ◌∷◌, ◌++◌, length, map, get_or, inl, inr, refl, sym, ap, ◌∙◌, arith, append_assoc, append-nil}
use Rattle.std.specs.List.{flat_map}
use Rattle.std.proofs.lemmas.Grind.{flat_map-append}
use Rattle.std.proofs.lemmas.Bool.Decides.{eqb_tells}
use Rattle.archive_tree.specs.Data.{Stamp, PlainNode, inner_node, leaf_node}
use Rattle.keyed_tree.specs.Data.{PlainLabel}
use Rattle.jsonml_lines.specs.Lines.{PlainLine}
use Rattle.archive_tree.specs.View.{alt_view, node_view, nodes_view}
use Rattle.archive_tree.specs.declared.node.Alt.{Alt}
use Rattle.archive_tree.specs.declared.node.ANode.{ANode}
use Rattle.jsonml_lines.specs.Lines.{line_text}
use Rattle.archive_text.specs.Texts.{in_front, text_lines}
use Rattle.archive_text.specs.Export.{key_line, alt_line, end_line, open_line, leaf_line, node_lines, nodes_lines, lines_text}
use Rattle.archive_text.proofs.Steps.{flat_map-map}

-- ---- texts

abbrev pub Without : ℕ → List ℕ → Type 0
Without d bs = (i : ℕ) → i < length bs → get_or bs i 0 ≢ d

not_feed : (b : ℕ) → b ≢ 10 → (b == 10) ≡ false
not_feed b ne = elim (eqb_tells b 10) [ inl p ↦ absurd (ne p.1) | inr p ↦ p.0 ]

pub first_line : (line rest : List ℕ) → Without 10 line → text_lines (line ++ 10 ∷ rest) ≡ line ∷ text_lines rest
first_line [] rest free = refl
first_line (b ∷ bs) rest free =
    ap (λ c. cond c ([] ∷ text_lines (bs ++ 10 ∷ rest)) (in_front b (text_lines (bs ++ 10 ∷ rest)))) (not_feed b (free 0 (omega arith)))
    ∙ ap (in_front b) (first_line bs rest (λ i h. free (suc i) (omega arith)))

pub last_line : (b : ℕ) (bs : List ℕ) → Without 10 (b ∷ bs) → text_lines (b ∷ bs) ≡ (b ∷ bs) ∷ []
last_line b [] free = ap (λ c. cond c ([] ∷ []) ((b ∷ []) ∷ [])) (not_feed b (free 0 (omega arith)))
last_line b (d ∷ bs) free =
    ap (λ c. cond c ([] ∷ text_lines (d ∷ bs)) (in_front b (text_lines (d ∷ bs)))) (not_feed b (free 0 (omega arith)))
    ∙ ap (in_front b) (last_line d bs (λ i h. free (suc i) (omega arith)))

-- ---- nodes

pub alts_text : (xs : List Alt) → lines_text (map alt_line (map alt_view xs)) ≡ flat_map (λ x. line_text (alt_line (alt_view x))) xs
alts_text xs = flat_map-map line_text alt_line (map alt_view xs) ∙ flat_map-map (λ x. line_text (alt_line x)) alt_view xs

pub nodes_text : (ks : List ANode) → lines_text (nodes_lines (nodes_view ks)) ≡ flat_map (λ k. lines_text (node_lines (node_view k))) ks
nodes_text [] = refl
nodes_text (k ∷ ks) = flat_map-append line_text (node_lines (node_view k)) (nodes_lines (nodes_view ks)) ∙ ap (λ l. lines_text (node_lines (node_view k)) ++ l) (nodes_text ks)

-- what ends a node, behind lines
ended : (ls : List PlainLine) → lines_text (ls ++ end_line ∷ []) ≡ lines_text ls ++ line_text end_line
ended ls = flat_map-append line_text ls (end_line ∷ []) ∙ ap (λ l. lines_text ls ++ l) (append-nil (line_text end_line))

pub inner_is : (k : PlainNode) (l : PlainLabel) (s : Stamp) (ks : List ANode) → k ≡ inner_node l s (nodes_view ks)
    → lines_text (node_lines k) ≡ line_text (open_line l s) ++ (flat_map (λ k. lines_text (node_lines (node_view k))) ks ++ line_text end_line)
inner_is k l s ks is =
    ap (λ n. lines_text (node_lines n)) is ∙ ap (λ m. line_text (open_line l s) ++ m) (ended (nodes_lines (nodes_view ks)) ∙ ap (λ m. m ++ line_text end_line) (nodes_text ks))

pub leaf_is : (k : PlainNode) (l : PlainLabel) (s : Stamp) (xs : List Alt) → k ≡ leaf_node l s (map alt_view xs)
    → lines_text (node_lines k) ≡ line_text (leaf_line l s) ++ (flat_map (λ x. line_text (alt_line (alt_view x))) xs ++ line_text end_line)
leaf_is k l s xs is =
    ap (λ n. lines_text (node_lines n)) is ∙ ap (λ m. line_text (leaf_line l s) ++ m) (ended (map alt_line (map alt_view xs)) ∙ ap (λ m. m ++ line_text end_line) (alts_text xs))

-- ---- keys

pub key_step : (mid new total left line rest : List ℕ) → left ≡ line ++ 10 ∷ rest → Without 10 line → mid ++ lines_text (map key_line (text_lines left)) ≡ total → new ≡ mid ++ line_text (key_line line)
    → new ++ lines_text (map key_line (text_lines rest)) ≡ total
key_step mid new total left line rest is free before now =
    ap (λ l. l ++ lines_text (map key_line (text_lines rest))) now ∙ append_assoc mid (line_text (key_line line)) _
    ∙ ap (λ (ls : List (List ℕ)). mid ++ lines_text (map key_line ls)) (sym (ap text_lines is ∙ first_line line rest free)) ∙ before

pub last_key : (mid new total left : List ℕ) → 0 < length left → Without 10 left → mid ++ lines_text (map key_line (text_lines left)) ≡ total → new ≡ mid ++ line_text (key_line left) → new ≡ total
last_key mid new total [] some free before now = absurd (omega arith)
last_key mid new total (b ∷ bs) some free before now =
    now ∙ ap (λ l. mid ++ l) (sym (append-nil (line_text (key_line (b ∷ bs))))) ∙ ap (λ (ls : List (List ℕ)). mid ++ lines_text (map key_line ls)) (sym (last_line b bs free)) ∙ before
