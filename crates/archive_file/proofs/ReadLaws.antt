-- What was read is spelled by the bytes.
use Rattle.std.proofs.Common.{◌≡◌, ℕ, ◌+◌, ◌-◌, ◌^◌, ◌<◌, ltb, ◌&&◌, true, IsTrue, Some, List, [], ◌∷◌, ◌++◌, map, length, refl, sym, ap, subst, ◌∙◌, append_assoc, arith}
use Rattle.std.specs.Prelude.{bytes_eq}
use Rattle.std.specs.List.{flat_map, AllByRecursion}
use Rattle.std.proofs.lemmas.List.{append-nil, length-append, map-append}
use Rattle.std.proofs.lemmas.Grind.{flat_map-append}
use Rattle.std.proofs.lemmas.Slice.Eq.{bytes_eq-Decides}
use Rattle.keyed_tree.specs.Data.{PlainLabel}
use Rattle.archive_tree.specs.Data.{Stamp, PlainAlt, PlainNode, inner_node, leaf_node, PlainNodes, nodes_list, nodes_from}
use Rattle.archive_tree.proofs.Parts.{nodes_list-nodes_from}
use Rattle.record_format.specs.Data.{PlainEntry, PlainDir, inner_rec, leaf_rec, end_rec, leaf_end}
use Rattle.record_format.specs.Spelling.{dir_bytes, rec_bytes, framed}
use Rattle.record_format.specs.Reading.{frame_at}
use Rattle.record_format.specs.Bounds.{IsRec}
use Rattle.record_parts.specs.Bounds.{IsSet}
use Rattle.record_format.specs.Nodes.{Piece, piece_bytes, entries_from, dir_of, closed_by_end, alt_of, set_in, node_piece, node_pieces}
use Rattle.archive_file.specs.Laid.{are_nested, dir_with, AltsAt, NodeAt, RowAt}
use Rattle.archive_file.proofs.FileLaws.{all-append, records_of, few-from, one-record, closed-bytes, entries-more, row-closes}
use Rattle.archive_file.proofs.GoesLaws.{both-hold, lt-of, of-lt}
use Rattle.archive_file.proofs.LaidLaws.{RowLeft, row-end}
use Rattle.archive_file.proofs.WellLaws.{nested-more}

-- ---- alternatives

pub alts-closed : (rest now : List ℕ) → IsRec leaf_end → now ≡ rec_bytes leaf_end ++ rest → AltsAt [] rest now
alts-closed rest now h e = record { records = (h, tt); bytes = e ∙ ap (λ (z : List ℕ). z ++ rest) (sym (one-record leaf_end)) }

pub alts-over : (a : PlainAlt) (xs : List PlainAlt) (rest after now : List ℕ) → IsRec (alt_of a) → now ≡ rec_bytes (alt_of a) ++ after → AltsAt xs rest after → AltsAt (a ∷ xs) rest now
alts-over a xs rest after now h e lies = record {
  records = (h, lies.records);
  bytes = e ∙ ap (λ (z : List ℕ). rec_bytes (alt_of a) ++ z) lies.bytes ∙ sym (append_assoc (rec_bytes (alt_of a)) (flat_map rec_bytes (map alt_of xs ++ leaf_end ∷ [])) rest);
}

-- ---- nodes

pub leaf-lies : (parent : List (ℕ × ℕ)) (l : PlainLabel) (s : Stamp) (xs : List PlainAlt) (rest after now : List ℕ) (depth : ℕ) → IsRec (leaf_rec l s) → now ≡ rec_bytes (leaf_rec l s) ++ after → AltsAt xs rest after
    → NodeAt parent (leaf_node l s xs) rest depth now
leaf-lies parent l s xs rest after now depth h e lies = record {
  records = (h, lies.records);
  nested = refl;
  bytes = e ∙ ap (λ (z : List ℕ). rec_bytes (leaf_rec l s) ++ z) lies.bytes ∙ sym (append_assoc (rec_bytes (leaf_rec l s)) (flat_map rec_bytes (map alt_of xs ++ leaf_end ∷ [])) rest);
}

pub inner-lies : (parent : List (ℕ × ℕ)) (l : PlainLabel) (s : Stamp) (ks : PlainNodes) (rest after now : List ℕ) (depth : ℕ) → IsRec (inner_rec l s) → 0 < depth → now ≡ rec_bytes (inner_rec l s) ++ after
    → RowAt (set_in s parent) ks rest (depth - 1) after → NodeAt parent (inner_node l s ks) rest depth now
inner-lies parent l s ks rest after now depth h some e row = record {
  records = (h, row.records);
  nested = both-hold (ltb 0 depth) (are_nested (depth - 1) ks) (of-lt 0 depth some) row.nested;
  bytes = e ∙ ap (λ (z : List ℕ). rec_bytes (inner_rec l s) ++ z) row.bytes ∙ sym (append_assoc (rec_bytes (inner_rec l s)) (flat_map rec_bytes (closed_by_end (node_pieces (set_in s parent) ks))) rest);
}

-- ---- rows

pieces-of : (set : List (ℕ × ℕ)) (ks : List PlainNode) → node_pieces set (nodes_from ks) ≡ map (node_piece set) ks
pieces-of set [] = refl
pieces-of set (k ∷ ks) = ap (λ (ps : List Piece). node_piece set k ∷ ps) (pieces-of set ks)

-- the nodes so far have encodings, and the bytes are theirs as far as the place
pub record RowDone (set : List (ℕ × ℕ)) (depth : ℕ) (first : List ℕ) (done : List PlainNode) (now : List ℕ) : Type 0 where
  pub records : AllByRecursion IsRec (records_of (map (node_piece set) done))
  pub nested : IsTrue (are_nested depth (nodes_from done))
  pub bytes : first ≡ flat_map piece_bytes (map (node_piece set) done) ++ now

pub row-none : (set : List (ℕ × ℕ)) (depth : ℕ) (first : List ℕ) → RowDone set depth first [] first
row-none set depth first = record { records = tt; nested = refl; bytes = refl }

module _ (set : List (ℕ × ℕ)) (depth : ℕ) (first : List ℕ) (done : List PlainNode) (now : List ℕ) (h : RowDone set depth first done now) where
  abbrev ps : List Piece
  ps = map (node_piece set) done

  module _ (k : PlainNode) (after : List ℕ) (lies : NodeAt set k after depth now) where
    pushed : map (node_piece set) (done ++ k ∷ []) ≡ ps ++ node_piece set k ∷ []
    pushed = map-append (node_piece set) done (k ∷ [])

    pub row-more : RowDone set depth first (done ++ k ∷ []) after
    row-more =
        let p = node_piece set k in
        let mine : AllByRecursion IsRec (records_of (p ∷ [])) = subst (AllByRecursion IsRec) (sym (append-nil p.records)) lies.records in
        let all : AllByRecursion IsRec (records_of (ps ++ p ∷ [])) = subst (AllByRecursion IsRec) (sym (flat_map-append (λ (q : Piece). q.records) ps (p ∷ []))) (all-append IsRec (records_of ps) (records_of (p ∷ [])) h.records mine) in
        let last : flat_map piece_bytes (ps ++ p ∷ []) ≡ flat_map piece_bytes ps ++ piece_bytes p =
        flat_map-append piece_bytes ps (p ∷ []) ∙ ap (λ (z : List ℕ). flat_map piece_bytes ps ++ z) (append-nil (piece_bytes p)) in
        record {
          records = subst (λ (qs : List Piece). AllByRecursion IsRec (records_of qs)) (sym pushed) all;
          nested = nested-more depth done k h.nested lies.nested;
          bytes = h.bytes ∙ ap (λ (z : List ℕ). flat_map piece_bytes ps ++ z) lies.bytes ∙ sym (append_assoc (flat_map piece_bytes ps) (piece_bytes p) after)
              ∙ ap (λ (z : List ℕ). z ++ after) (sym last) ∙ ap (λ (qs : List Piece). flat_map piece_bytes qs ++ after) (sym pushed);
        }

    -- with its entry
    pub entry-more : (es : List PlainEntry) (start size dir : ℕ) → es ≡ entries_from 0 ps → start + length now ≡ length first → size + length after ≡ length now → dir ≡ (node_piece set k).dir
        → es ++ record { start = start; length = size; dir = dir } ∷ [] ≡ entries_from 0 (map (node_piece set) (done ++ k ∷ []))
    entry-more es start size dir e at long d =
        let p = node_piece set k in
        let starts : start ≡ 0 + length (flat_map piece_bytes ps) = omega (arith, ap length h.bytes, length-append (flat_map piece_bytes ps) now) in
        let sizes : size ≡ length (piece_bytes p) = omega (arith, ap length lies.bytes, length-append (piece_bytes p) after) in
        (λ i. e i ++ record { start = starts i; length = sizes i; dir = d i } ∷ []) ∙ sym (entries-more 0 ps p) ∙ ap (entries_from 0) (sym pushed)

  -- the directory of the nodes so far
  pub dir-is : (es : List PlainEntry) → es ≡ entries_from 0 ps → dir_with es set (nodes_from done) ≡ dir_of (node_pieces set (nodes_from done))
  dir-is es e = λ i. record { entries = (e ∙ ap (entries_from 0) (sym (pieces-of set done))) i; sets = map (λ (p : Piece). p.set) (node_pieces set (nodes_from done)) }

  -- and it stands in the END behind them
  pub row-shut : (es : List PlainEntry) (after body : List ℕ) → IsSet set → es ≡ entries_from 0 ps → length done < 2 ^ 32 → now ≡ framed 4 body ++ after → dir_bytes (dir_with es set (nodes_from done)) ≡ body → length first < 2 ^ 64
      → RowAt set (nodes_from done) after depth first
  row-shut es after body is e few end same short =
      let ks = nodes_from done in
      let qs = node_pieces set ks in
      let own = pieces-of set done in
      let last : framed 4 body ≡ rec_bytes (end_rec (dir_of qs)) = ap (framed 4) (sym same) ∙ ap (λ (d : PlainDir). rec_bytes (end_rec d)) (dir-is es e) in
      let whole : first ≡ flat_map rec_bytes (closed_by_end qs) ++ after =
      h.bytes ∙ ap (λ (rs : List Piece). flat_map piece_bytes rs ++ now) (sym own) ∙ ap (λ (z : List ℕ). flat_map piece_bytes qs ++ z) (end ∙ ap (λ (z : List ℕ). z ++ after) last)
      ∙ sym (append_assoc (flat_map piece_bytes qs) (rec_bytes (end_rec (dir_of qs))) after) ∙ ap (λ (z : List ℕ). z ++ after) (sym (closed-bytes qs)) in
      let records : AllByRecursion IsRec (records_of qs) = subst (λ (rs : List Piece). AllByRecursion IsRec (records_of rs)) (sym own) h.records in
      let count = ap length (nodes_list-nodes_from done) in
      let size = ap length whole ∙ length-append (flat_map rec_bytes (closed_by_end qs)) after in
      record { records = row-closes set ks is records (omega arith) (omega arith); nested = h.nested; bytes = whole }

  -- what stands in an END behind them, where it closes the row
  pub row-closing : (ks : PlainNodes) (rest : List ℕ) → RowAt set ks rest depth first → RowLeft set ks rest depth done now → (es : List PlainEntry) → es ≡ entries_from 0 ps
      → (kind : ℕ) (body after : List ℕ) → frame_at now ≡ Some ((kind, body), after) → kind ≡ 4 → (count : ℕ) → count ≡ length done
      → (ltb count (2 ^ 32) && bytes_eq (dir_bytes (dir_with es set (nodes_from done))) body) ≡ true
  row-closing ks rest row left es e kind body after read four count counts =
      let end = row-end set ks rest depth done now left kind body after read four in
      let few = lt-of (length (nodes_list ks)) (2 ^ 32) (few-from set ks row.records) in
      let size : length (nodes_list ks) ≡ length done = ap (λ (z : PlainNodes). length (nodes_list z)) (sym end.0) ∙ ap length (nodes_list-nodes_from done) in
      let same : dir_bytes (dir_with es set (nodes_from done)) ≡ body = ap dir_bytes (dir-is es e) ∙ ap (λ (z : PlainNodes). dir_bytes (dir_of (node_pieces set z))) end.0 ∙ sym end.2 in
      both-hold (ltb count (2 ^ 32)) (bytes_eq (dir_bytes (dir_with es set (nodes_from done))) body) (of-lt count (2 ^ 32) (omega arith)) ((bytes_eq-Decides (dir_bytes (dir_with es set (nodes_from done))) body).1 same)
