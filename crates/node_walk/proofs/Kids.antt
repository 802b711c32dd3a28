-- The kids of a row, as pieces, and the END behind them.
use Rattle.std.proofs.Common.{◌≡◌, ℕ, ◌+◌, ◌-◌, ◌≤◌, List, [], ◌∷◌, ◌++◌, map, take, drop, length, refl, sym, ap, ◌∙◌, append_assoc, length-drop, drop-drop, arith}
use Rattle.std.proofs.Math.Seq.{take-append_seam}
use Rattle.std.proofs.lemmas.List.{length-append, map-append, drop_at}
use Rattle.archive_tree.specs.Data.{Stamp, PlainNode, inner_node, leaf_node, nodes_from, node_stamp}
use Rattle.xa_fields.specs.Spelling.{u64_bytes}
use Rattle.record_format.specs.Nodes.{Piece, piece_bytes, dir_of, set_in, node_piece, node_pieces}
use Rattle.record_format.specs.Spelling.{framed}
use Rattle.archive_file.specs.Laid.{NodeAt}
use Rattle.record_cursor.specs.Items.{end_item}
use Rattle.record_cursor.proofs.Fills.{front-length}
use Rattle.row_ends.specs.Kids.{PlainKids, AreKids, no_kids, with_kid, row_length, dir_in}
use Rattle.row_ends.proofs.Sizes.{kids-pieces, row_length-append}
use Rattle.node_walk.specs.Seen.{Seen, Told, at_hand}
use Rattle.node_walk.specs.Walked.{Given, end_body}

pub pieces-of : (set : List (ℕ × ℕ)) (ks : List PlainNode) → node_pieces set (nodes_from ks) ≡ map (node_piece set) ks
pieces-of set [] = refl
pieces-of set (k ∷ ks) = ap (λ (ps : List Piece). node_piece set k ∷ ps) (pieces-of set ks)

-- the set of a node is the one that it stores, else its parent's
piece-set : (set : List (ℕ × ℕ)) (k : PlainNode) → (node_piece set k).set ≡ set_in (node_stamp k) set
piece-set set (inner_node l s ks) = refl
piece-set set (leaf_node l s xs) = refl

pub no-kids-are : (set : List (ℕ × ℕ)) → AreKids set [] no_kids
no-kids-are set = record { sizes = refl; sets = refl }

abbrev size_of_piece : Piece → ℕ × ℕ
size_of_piece p = (length (piece_bytes p), p.dir)

abbrev set_of_piece : Piece → List (ℕ × ℕ)
set_of_piece p = p.set

-- one kid more
pub kid-more : (set : List (ℕ × ℕ)) (so_far : List PlainNode) (kids : PlainKids) (k : PlainNode) (size dir : ℕ) → AreKids set (map (node_piece set) so_far) kids → size ≡ length (piece_bytes (node_piece set k)) → dir ≡ (node_piece set k).dir
    → AreKids set (map (node_piece set) (so_far ++ k ∷ [])) (with_kid kids size dir (node_stamp k))
kid-more set so_far kids k size dir h long ends =
    let ps = map (node_piece set) so_far in
    let pushed : map (node_piece set) (so_far ++ k ∷ []) ≡ ps ++ node_piece set k ∷ [] = map-append (node_piece set) so_far (k ∷ []) in
    record {
      sizes = ap (map size_of_piece) pushed ∙ map-append size_of_piece ps (node_piece set k ∷ []) ∙ (λ i. h.sizes i ++ (sym long i, sym ends i) ∷ []);
      sets = ap (map set_of_piece) pushed ∙ map-append set_of_piece ps (node_piece set k ∷ []) ∙ (λ i. h.sets i ++ piece-set set k i ∷ []) ∙ sym (map-append (λ (s : Stamp). set_in s set) kids.stamps (node_stamp k ∷ []));
    }

pub row-longer : (kids : PlainKids) (size dir : ℕ) (s : Stamp) → row_length (with_kid kids size dir s).sizes ≡ row_length kids.sizes + size
row-longer kids size dir s = row_length-append kids.sizes ((size, dir) ∷ []) ∙ omega arith

pub one-more : (kids : PlainKids) (size dir : ℕ) (s : Stamp) → length (with_kid kids size dir s).sizes ≡ length kids.sizes + 1
one-more kids size dir s = length-append kids.sizes ((size, dir) ∷ [])

-- the cursor moved by the bytes of the node
pub node-size : (s t : Seen) (bytes : List ℕ) (set : List (ℕ × ℕ)) (k : PlainNode) (depth : ℕ) → Told t bytes → s.cursor.at ≤ t.cursor.at → t.cursor.at ≤ t.cursor.length → NodeAt set k (at_hand t bytes) depth (at_hand s bytes)
    → t.cursor.at - s.cursor.at ≡ length (piece_bytes (node_piece set k))
node-size s t bytes set k depth told onward within h =
    let long = front-length t.files t.cursor.name bytes t.cursor.length told in
    omega (arith, ap length h.bytes, length-append (piece_bytes (node_piece set k)) (at_hand t bytes), length-drop s.cursor.at bytes, length-drop t.cursor.at bytes, long, onward, within)

-- the body of the END that the cursor moved behind
pub end-body-is : (s t : Seen) (bytes body rest : List ℕ) (n : ℕ) → Given s t (end_item n) → at_hand s bytes ≡ framed 4 body ++ rest → length body ≡ n → end_body t n bytes ≡ body
end-body-is s t bytes body rest n g e long =
    let moved = g.moved in
    let head = 4 ∷ u64_bytes (length body) in
    let place : t.cursor.at - n ≡ s.cursor.at + 9 = omega (arith, moved) in
    let nine : length head ≡ 9 = omega arith in
    let behind : drop 9 (at_hand s bytes) ≡ body ++ rest = ap (drop 9) e ∙ ap (drop 9) (append_assoc head body rest) ∙ drop_at head (body ++ rest) 9 nine in
    ap (λ (m : ℕ). take n (drop m bytes)) place ∙ ap (take n) (sym (drop-drop 9 s.cursor.at bytes) ∙ behind) ∙ ap (λ (m : ℕ). take m (body ++ rest)) (sym long) ∙ take-append_seam body rest

-- the directory of kids is that of their nodes
pub kids-dir : (set : List (ℕ × ℕ)) (so_far : List PlainNode) (kids : PlainKids) → AreKids set (map (node_piece set) so_far) kids → dir_in set kids ≡ dir_of (node_pieces set (nodes_from so_far))
kids-dir set so_far kids h = kids-pieces set (map (node_piece set) so_far) kids h ∙ ap dir_of (sym (pieces-of set so_far))
