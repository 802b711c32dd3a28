-- Nodes with the same lines are the same.
use Rattle.std.proofs.Common.{◌≡◌, ◌≢◌, ℕ, true, List, [], ◌∷◌, ◌++◌, map, get_or, refl, sym, ap, ap₂, ◌∙◌, append_assoc}
use Rattle.std.specs.List.{AllByRecursion, list_all}
use Rattle.std.proofs.lemmas.Bool.{and_parts, eqb-false}
use Rattle.key_spec.specs.Names.{is_name, is_name_byte}
use Rattle.key_spec.proofs.NameLaws.{name-bytes}
use Rattle.keyed_tree.specs.Data.{PlainName, attr, tag, PlainKey, PlainLabel}
use Rattle.archive_tree.specs.Data.{Stamp, PlainAlt, PlainNode, inner_node, leaf_node, PlainNodes, no_nodes, node}
use Rattle.record_parts.specs.Bounds.{IsStamp}
use Rattle.record_format.specs.Shapes.{IsShapedAlt, IsShapedNode, AreShapedNodes}
use Rattle.jsonml_lines.specs.Lines.{PlainLine}
use Rattle.archive_text.specs.Names.{IsNamed, HasNames, HaveNames}
use Rattle.archive_text.specs.Export.{text_cell, stamp_text, name_text, node_begun, open_line, leaf_line, alt_line, end_line, node_lines, nodes_lines}
use Rattle.archive_text.proofs.Cuts.{stamp_one}

-- ---- names

no_at : (s t : List ℕ) → is_name t ≡ true → 64 ∷ s ≡ t → ⊥
no_at s t h e =
    let bytes : list_all is_name_byte (64 ∷ s) ≡ true = ap (list_all is_name_byte) e ∙ name-bytes t h in
    let wrong = (and_parts (is_name_byte 64) (list_all is_name_byte s) bytes).0 in
    cc

name_one : (m n : PlainName) → IsNamed m → IsNamed n → name_text m ≡ name_text n → m ≡ n
name_one (attr s) (attr t) h k e = let same : s ≡ t = cc in ap (λ x. attr x) same
name_one (attr s) (tag t) h k e = absurd (no_at s t k e)
name_one (tag s) (attr t) h k e = absurd (no_at t s h (sym e))
name_one (tag s) (tag t) h k e = ap (λ x. tag x) e

-- a text that does not begin with `@` is a tag
pub name_none : (n : PlainName) (text : List ℕ) → text ≡ name_text n → ((rest : List ℕ) → text ≢ 64 ∷ rest) → tag text ≡ n
name_none (attr s) text e h = absurd (h s e)
name_none (tag s) text e h = ap (λ x. tag x) e

-- ---- the first lines

pub head : (l m : PlainLine) (ls ms : List PlainLine) → l ∷ ls ≡ m ∷ ms → (l ≡ m) × (ls ≡ ms)
head l m ls ms e = let one : l ≡ m = cc in let other : ls ≡ ms = cc in (one, other)

cells_is : (a b : List ℕ) (ks js : List PlainKey) (c d : List ℕ) → text_cell a ∷ text_cell b ∷ ks ≡ text_cell c ∷ text_cell d ∷ js → (a ≡ c) × (b ≡ d) × (ks ≡ js)
cells_is a b ks js c d e = let one : a ≡ c = cc in let two : b ≡ d = cc in let three : ks ≡ js = cc in (one, two, three)

pub label_is : (l m : PlainLabel) → l.name ≡ m.name → l.keys ≡ m.keys → l ≡ m
label_is l m e f = λ i. record { name = e i; keys = f i }

begun_one : (word : List ℕ) (l m : PlainLabel) (s t : Stamp) → IsNamed l.name → IsNamed m.name → IsStamp s → IsStamp t → node_begun word l s ≡ node_begun word m t → (l ≡ m) × (s ≡ t)
begun_one word l m s t h k p q e =
    let parts = cells_is (stamp_text s) (name_text l.name) l.keys m.keys (stamp_text t) (name_text m.name) (ap (λ (x : PlainLine). x.cells) e) in
    (label_is l m (name_one l.name m.name h k parts.1) parts.2, stamp_one s t p q parts.0)

pub alt_is : (x y : PlainAlt) → x.stamp ≡ y.stamp → x.body ≡ y.body → x ≡ y
alt_is x y e f = λ i. record { stamp = e i; body = f i }

alt_cells : (a c : List ℕ) (b d : PlainKey) → text_cell a ∷ b ∷ [] ≡ text_cell c ∷ d ∷ [] → (a ≡ c) × (b ≡ d)
alt_cells a c b d e = let one : a ≡ c = cc in let two : b ≡ d = cc in (one, two)

alt_one : (x y : PlainAlt) → IsStamp x.stamp → IsStamp y.stamp → alt_line x ≡ alt_line y → x ≡ y
alt_one x y p q e =
    let parts = alt_cells (stamp_text x.stamp) (stamp_text y.stamp) x.body y.body (ap (λ (z : PlainLine). z.cells) e) in
    alt_is x y (stamp_one x.stamp y.stamp p q parts.0) parts.1

other_kinds : (l m : PlainLine) (ls ms : List PlainLine) → l ∷ ls ≡ m ∷ ms → get_or l.word 0 0 ≡ get_or m.word 0 0
other_kinds l m ls ms e = ap (λ (x : PlainLine). get_or x.word 0 0) (head l m ls ms e).0

alts_one : (xs ys : List PlainAlt) (r s : List PlainLine) → AllByRecursion IsShapedAlt xs → AllByRecursion IsShapedAlt ys → map alt_line xs ++ end_line ∷ r ≡ map alt_line ys ++ end_line ∷ s → (xs ≡ ys) × (r ≡ s)
alts_one [] [] r s h k e = (refl, (head end_line end_line r s e).1)
alts_one [] (y ∷ ys) r s h k e = absurd (eqb-false 101 97 refl (other_kinds end_line (alt_line y) r (map alt_line ys ++ end_line ∷ s) e))
alts_one (x ∷ xs) [] r s h k e = absurd (eqb-false 97 101 refl (other_kinds (alt_line x) end_line (map alt_line xs ++ end_line ∷ r) s e))
alts_one (x ∷ xs) (y ∷ ys) r s h k e =
    let parts = head (alt_line x) (alt_line y) (map alt_line xs ++ end_line ∷ r) (map alt_line ys ++ end_line ∷ s) e in
    let rest = alts_one xs ys r s h.1 k.1 parts.1 in
    (ap₂ (λ a b. a ∷ b) (alt_one x y h.0.0 k.0.0 parts.0) rest.0, rest.1)

-- ---- nodes

pub ended : (ls r : List PlainLine) → (ls ++ end_line ∷ []) ++ r ≡ ls ++ end_line ∷ r
ended ls r = append_assoc ls (end_line ∷ []) r

-- what follows the first line of a node, with what is behind it
abbrev left_of : PlainNode → List PlainLine → List PlainLine
left_of (inner_node l s ks) r = (nodes_lines ks ++ end_line ∷ []) ++ r
left_of (leaf_node l s xs) r = (map alt_line xs ++ end_line ∷ []) ++ r

end_first : (k : PlainNode) (r s : List PlainLine) → end_line ∷ r ≡ node_lines k ++ s → ⊥
end_first (inner_node l t ks) r s e = absurd (eqb-false 101 111 refl (other_kinds end_line (open_line l t) r (left_of (inner_node l t ks) s) e))
end_first (leaf_node l t xs) r s e = absurd (eqb-false 101 108 refl (other_kinds end_line (leaf_line l t) r (left_of (leaf_node l t xs) s) e))

mutual
  pub node_one : (k j : PlainNode) (r s : List PlainLine) → IsShapedNode k → IsShapedNode j → HasNames k → HasNames j → node_lines k ++ r ≡ node_lines j ++ s → (k ≡ j) × (r ≡ s)
  node_one (inner_node l a ks) (inner_node m b js) r s h g n p e =
      let parts = head (open_line l a) (open_line m b) (left_of (inner_node l a ks) r) (left_of (inner_node m b js) s) e in
      let begun = begun_one (open_line l a).word l m a b n.0 p.0 h.1 g.1 parts.0 in
      let rest = row_one ks js r s h.2 g.2 n.1 p.1 (sym (ended (nodes_lines ks) r) ∙ parts.1 ∙ ended (nodes_lines js) s) in
      (λ i. inner_node (begun.0 i) (begun.1 i) (rest.0 i), rest.1)
  node_one (inner_node l a ks) (leaf_node m b ys) r s h g n p e = absurd (eqb-false 111 108 refl (other_kinds (open_line l a) (leaf_line m b) (left_of (inner_node l a ks) r) (left_of (leaf_node m b ys) s) e))
  node_one (leaf_node l a xs) (inner_node m b js) r s h g n p e = absurd (eqb-false 108 111 refl (other_kinds (leaf_line l a) (open_line m b) (left_of (leaf_node l a xs) r) (left_of (inner_node m b js) s) e))
  node_one (leaf_node l a xs) (leaf_node m b ys) r s h g n p e =
      let parts = head (leaf_line l a) (leaf_line m b) (left_of (leaf_node l a xs) r) (left_of (leaf_node m b ys) s) e in
      let begun = begun_one (leaf_line l a).word l m a b n p h.1 g.1 parts.0 in
      let rest = alts_one xs ys r s h.2 g.2 (sym (ended (map alt_line xs) r) ∙ parts.1 ∙ ended (map alt_line ys) s) in
      (λ i. leaf_node (begun.0 i) (begun.1 i) (rest.0 i), rest.1)

  pub row_one : (ks js : PlainNodes) (r s : List PlainLine) → AreShapedNodes ks → AreShapedNodes js → HaveNames ks → HaveNames js → nodes_lines ks ++ end_line ∷ r ≡ nodes_lines js ++ end_line ∷ s → (ks ≡ js) × (r ≡ s)
  row_one no_nodes no_nodes r s h g n p e = (refl, (head end_line end_line r s e).1)
  row_one no_nodes (node j js) r s h g n p e = absurd (end_first j r (nodes_lines js ++ end_line ∷ s) (e ∙ append_assoc (node_lines j) (nodes_lines js) (end_line ∷ s)))
  row_one (node k ks) no_nodes r s h g n p e = absurd (end_first k s (nodes_lines ks ++ end_line ∷ r) (sym e ∙ append_assoc (node_lines k) (nodes_lines ks) (end_line ∷ r)))
  row_one (node k ks) (node j js) r s h g n p e =
      let parts = node_one k j (nodes_lines ks ++ end_line ∷ r) (nodes_lines js ++ end_line ∷ s) h.0 g.0 n.0 p.0 (sym (append_assoc (node_lines k) (nodes_lines ks) (end_line ∷ r)) ∙ e ∙ append_assoc (node_lines j) (nodes_lines js) (end_line ∷ s)) in
      let rest = row_one ks js r s h.1 g.1 n.1 p.1 parts.1 in
      (λ i. node (parts.0 i) (rest.0 i), rest.1)
