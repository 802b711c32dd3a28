-- The texts of the lines of an archive with notes are UTF-8.
use Rattle.std.proofs.Common.{◌≡◌, ℕ, ◌+◌, ◌<◌, ◌^◌, ◌==◌, ltb, cond, Bool, true, false, List, [], ◌∷◌, ◌++◌, length, map, codes, decimal, Some, None, refl, IsUtf8}
use Rattle.std.specs.List.{AllByRecursion, list_all}
use Rattle.std.proofs.lemmas.Bool.{ltb-true}
use Rattle.std.proofs.lemmas.Fmt.{IsAscii-decimal}
use Rattle.std.proofs.lemmas.List.Sums.{AllPass-from_list_all}
use Rattle.std.proofs.lemmas.Str.{IsUtf8-append, IsUtf8-from_ascii, IsUtf8-nil}
use Rattle.std.proofs.lemmas.Str.Ascii.{IsAscii-from_all}
use Rattle.version_set.specs.Text.{pair_text}
use Rattle.jsonml_tree.specs.Data.{PlainScalar, null, boolean, whole, string, PlainAttr, PlainTree, text, element, PlainContent, content, PlainTrees, no_trees, tree}
use Rattle.jsonml_text.specs.Texts.{IsScalarText, AreAttrTexts, AreTexts, AreContentTexts, AreItemTexts}
use Rattle.keyed_tree.specs.Data.{PlainName, attr, tag, PlainKey, scalar, inside, PlainLabel, name_bytes}
use Rattle.archive_tree.specs.Data.{Stamp, PlainAlt, PlainNode, inner_node, leaf_node, PlainNodes, no_nodes, node}
use Rattle.record_parts.specs.Bounds.{IsStamp}
use Rattle.record_parts.specs.Shapes.{IsShapedScalar, IsShapedAttr, IsShapedItem, IsShapedInside, AreShapedItems, IsShapedValue, IsShapedLabel}
use Rattle.record_format.specs.Shapes.{IsShapedAlt, IsShapedNode, AreShapedNodes}
use Rattle.version_notes.specs.Notes.{IsNote}
use Rattle.jsonml_lines.specs.Lines.{PlainLine}
use Rattle.jsonml_lines.specs.RoundTrip.{AreCellTexts, AreLineTexts}
use Rattle.archive_text.specs.Export.{stamp_text, name_text, key_line, note_line, note_lines, count_line, node_begun, alt_line, end_line, node_lines, nodes_lines}
use Rattle.archive_text.proofs.Cuts.{IsSmall, behind, small_set, span}
use Rattle.jsonml_tree.proofs.Lists.{all-append}

ascii : (bs : List ℕ) → list_all (λ b. ltb b 128) bs ≡ true → IsUtf8 bs
ascii bs e = IsUtf8-from_ascii bs (IsAscii-from_all bs (λ k d l. ltb-true _ 128 (AllPass-from_list_all (λ b. ltb b 128) bs e k d l)))

-- ---- cells

scalar_texts : (v : PlainScalar) → IsShapedScalar v → IsScalarText v
scalar_texts null h = tt
scalar_texts (boolean b) h = tt
scalar_texts (whole n) h = tt
scalar_texts (string s) h = h

attrs_texts : (xs : List PlainAttr) → AllByRecursion IsShapedAttr xs → AreAttrTexts xs
attrs_texts [] h = tt
attrs_texts (x ∷ xs) h = (h.0.0, scalar_texts x.value h.0.1, attrs_texts xs h.1)

mutual
  item_texts : (t : PlainTree) → IsShapedItem t → AreTexts t
  item_texts (text s) h = h
  item_texts (element s c) h = (h.0, content_texts c h.1)

  content_texts : (c : PlainContent) → IsShapedInside c → AreContentTexts c
  content_texts (content xs ts) h = (attrs_texts xs h.0, items_texts ts h.2)

  items_texts : (ts : PlainTrees) → AreShapedItems ts → AreItemTexts ts
  items_texts no_trees h = tt
  items_texts (tree t ts) h = (item_texts t h.0, items_texts ts h.1)

value_texts : (k : PlainKey) → IsShapedValue k → AreCellTexts k
value_texts (scalar s) h = scalar_texts s h
value_texts (inside c) h = content_texts c h.0

values_texts : (ks : List PlainKey) → AllByRecursion IsShapedValue ks → AllByRecursion AreCellTexts ks
values_texts [] h = tt
values_texts (k ∷ ks) h = (value_texts k h.0, values_texts ks h.1)

-- ---- stamps and names

either_text : (c : Bool) (xs ys : List ℕ) → IsUtf8 xs → IsUtf8 ys → IsUtf8 (cond c xs ys)
either_text true xs ys f g = f
either_text false xs ys f g = g

number_text : (n : ℕ) → n < 2 ^ 64 → IsUtf8 (decimal n)
number_text n h = IsUtf8-from_ascii (decimal n) (IsAscii-decimal n h)

pair_utf8 : (p : ℕ × ℕ) → IsSmall p → IsUtf8 (pair_text p)
pair_utf8 p h =
    let from = number_text p.0 h.from in
    let to = number_text p.1 h.to in
    either_text (p.0 == p.1) (decimal p.0) (span p) from (IsUtf8-append (decimal p.0 ++ codes "-") (decimal p.1) (IsUtf8-append (decimal p.0) (codes "-") from (ascii (codes "-") refl)) to)

behind_utf8 : (ps : List (ℕ × ℕ)) → AllByRecursion IsSmall ps → IsUtf8 (behind ps)
behind_utf8 [] h = IsUtf8-nil
behind_utf8 (p ∷ ps) h = IsUtf8-append (codes "," ++ pair_text p) (behind ps) (IsUtf8-append (codes ",") (pair_text p) (ascii (codes ",") refl) (pair_utf8 p h.0)) (behind_utf8 ps h.1)

stamp_utf8 : (s : Stamp) → IsStamp s → IsUtf8 (stamp_text s)
stamp_utf8 None h = IsUtf8-nil
stamp_utf8 (Some []) h = ascii (codes "none") refl
stamp_utf8 (Some (p ∷ ps)) h =
    let small = small_set 1 (p ∷ ps) h.0.canonical h.0.within in
    IsUtf8-append (pair_text p) (behind ps) (pair_utf8 p small.0) (behind_utf8 ps small.1)

name_utf8 : (n : PlainName) → IsUtf8 (name_bytes n) → IsUtf8 (name_text n)
name_utf8 (attr s) h = IsUtf8-append (64 ∷ []) s (ascii (64 ∷ []) refl) h
name_utf8 (tag s) h = h

-- ---- lines

begun_texts : (word : List ℕ) (l : PlainLabel) (s : Stamp) → IsUtf8 word → IsShapedLabel l → IsStamp s → AreLineTexts (node_begun word l s)
begun_texts word l s w h k = record { word = w; cells = (stamp_utf8 s k, (name_utf8 l.name h.name, values_texts l.keys h.keys)) }

alts_texts : (xs : List PlainAlt) → AllByRecursion IsShapedAlt xs → AllByRecursion AreLineTexts (map alt_line xs)
alts_texts [] h = tt
alts_texts (x ∷ xs) h = (record { word = ascii (codes "alt") refl; cells = (stamp_utf8 x.stamp h.0.0, (value_texts x.body h.0.1, tt)) }, alts_texts xs h.1)

pub end_texts : AllByRecursion AreLineTexts (end_line ∷ [])
end_texts = (record { word = ascii (codes "end") refl; cells = tt }, tt)

mutual
  node_texts : (k : PlainNode) → IsShapedNode k → AllByRecursion AreLineTexts (node_lines k)
  node_texts (inner_node l s ks) h =
      (begun_texts (codes "open") l s (ascii (codes "open") refl) h.0 h.1, all-append AreLineTexts (nodes_lines ks) (end_line ∷ []) (nodes_texts ks h.2) end_texts)
  node_texts (leaf_node l s xs) h =
      (begun_texts (codes "leaf") l s (ascii (codes "leaf") refl) h.0 h.1, all-append AreLineTexts (map alt_line xs) (end_line ∷ []) (alts_texts xs h.2) end_texts)

  pub nodes_texts : (ks : PlainNodes) → AreShapedNodes ks → AllByRecursion AreLineTexts (nodes_lines ks)
  nodes_texts no_nodes h = tt
  nodes_texts (node k ks) h = all-append AreLineTexts (node_lines k) (nodes_lines ks) (node_texts k h.0) (nodes_texts ks h.1)

pub keys_texts : (ls : List (List ℕ)) → AllByRecursion IsUtf8 ls → AllByRecursion AreLineTexts (map key_line ls)
keys_texts [] h = tt
keys_texts (l ∷ ls) h = (record { word = ascii (codes "key") refl; cells = (h.0, tt) }, keys_texts ls h.1)

either_texts : (b : Bool) (l : PlainLine) (ls : List PlainLine) → AreLineTexts l → AllByRecursion AreLineTexts ls → AllByRecursion AreLineTexts (cond b ls (l ∷ ls))
either_texts true l ls h k = k
either_texts false l ls h k = (h, k)

pub notes_texts : (i : ℕ) (notes : List (List ℕ)) → AllByRecursion IsNote notes → AllByRecursion AreLineTexts (note_lines i notes)
notes_texts i [] h = tt
notes_texts i (note ∷ notes) h =
    either_texts (length note == 0) (note_line i note) (note_lines (i + 1) notes) (record { word = ascii (codes "note") refl; cells = (tt, (h.0.0.utf8, tt)) }) (notes_texts (i + 1) notes h.1)

pub count_texts : (n : ℕ) → AreLineTexts (count_line n)
count_texts n = record { word = ascii (codes "xarch") refl; cells = (tt, tt) }
