-- The calls that walk an archive all fit exactly where there is a file of it.
use Rattle.std.proofs.Common.{◌≡◌, ◌↔◌, ℕ, ◌+◌, ◌≤◌, ◌<◌, ◌^◌, List, [], ◌∷◌, ◌++◌, map, length, refl, sym, ap, subst, ◌∙◌, arith}
use Rattle.std.specs.List.{flat_map, AllByRecursion}
use Rattle.std.proofs.lemmas.List.{length-append}
use Rattle.version_set.specs.Members.{upto_pairs}
use Rattle.key_spec.specs.Data.{PlainRule}
use Rattle.key_spec.specs.Canonical.{canonical}
use Rattle.keyed_tree.specs.Data.{PlainLabel}
use Rattle.archive_tree.specs.Data.{Stamp, PlainAlt, PlainNode, inner_node, leaf_node, PlainNodes, no_nodes, node, PlainArchive}
use Rattle.xa_fields.specs.Spelling.{u64_bytes}
use Rattle.record_parts.specs.Bounds.{IsSet}
use Rattle.record_parts.specs.ShapeLaws.{value_parts, label_parts}
use Rattle.record_format.specs.Data.{PlainDir, inner_rec, leaf_rec, end_rec, leaf_end}
use Rattle.record_format.specs.Spelling.{dir_bytes, rec_bytes}
use Rattle.record_format.specs.Bounds.{IsDir, IsRec}
use Rattle.record_format.specs.Nodes.{Piece, piece_bytes, dir_of, closed_by_end, alt_of, set_in, inner_piece, leaf_piece, node_piece, node_pieces}
use Rattle.record_format.specs.Files.{header_bytes, root_pieces, file_records, tail_bytes, file_bytes, longest, HasFile}
use Rattle.record_format.specs.Shapes.{IsShapedAlt, IsShapedNode, AreShapedNodes, IsShaped}
use Rattle.record_format.proofs.Pieces.{all-append, all-front, all-back, records_of, closed-bytes, rec-length, entries-length, Fine, closed-fits, set-in, upto-set}
use Rattle.record_writer.specs.Data.{OpenRow, OpenInner, PlainWriter, WriterCall, call_inner, call_leaf, call_alt, call_end_leaf, call_end_inner, call_finish}
use Rattle.record_writer.specs.Calls.{row_from, with_child, started, leaf_begun, moved_on, after, after_all, Fits, AllFit}
use Rattle.record_writer.specs.Walks.{alt_calls, node_calls, row_calls, walk_of}
use Rattle.record_writer.proofs.WalkLaws.{between, with_pieces, with_pieces-dir, place, leaf-bytes, inner-bytes, alts-walked, node-walked, row-walked, behind_kids, root_row, root-dir, kids-walked}

-- ---- calls one after the other

fit-append : (w v : PlainWriter) (cs ds : List WriterCall) → after_all w cs ≡ v → AllFit w cs → AllFit v ds → AllFit w (cs ++ ds)
fit-append w v [] ds e h g = subst (λ (x : PlainWriter). AllFit x ds) (sym e) g
fit-append w v (c ∷ cs) ds e h g = (h.0, fit-append (after w c) v cs ds e h.1 g)

fit-front : (w : PlainWriter) (cs ds : List WriterCall) → AllFit w (cs ++ ds) → AllFit w cs
fit-front w [] ds h = tt
fit-front w (c ∷ cs) ds h = (h.0, fit-front (after w c) cs ds h.1)

fit-back : (w v : PlainWriter) (cs ds : List WriterCall) → after_all w cs ≡ v → AllFit w (cs ++ ds) → AllFit v ds
fit-back w v [] ds e h = subst (λ (x : PlainWriter). AllFit x ds) e h
fit-back w v (c ∷ cs) ds e h = fit-back (after w c) v cs ds e h.1

pub fit-both : (w : PlainWriter) (cs ds : List WriterCall) → AllFit w (cs ++ ds) ↔ (AllFit w cs × AllFit (after_all w cs) ds)
fit-both w cs ds = (λ h. (fit-front w cs ds h, fit-back w (after_all w cs) cs ds refl h), λ h. fit-append w (after_all w cs) cs ds refl h.0 h.1)

-- ---- directories

-- the number of the entries fits four bytes
abbrev IsFew : PlainDir → Type 0
IsFew d = length d.entries < 2 ^ 32

few-of : (d : PlainDir) → IsRec (end_rec d) → IsFew d
few-of d h = (let dir : IsDir d = h.body in dir.few)

-- ---- sizes

leaf-size : (n : ℕ) (l : PlainLabel) (s : Stamp) (set : List (ℕ × ℕ)) (xs : List PlainAlt)
    → n + length (rec_bytes (leaf_rec l s)) + length (flat_map rec_bytes (map alt_of xs)) + length (rec_bytes leaf_end) ≡ n + length (piece_bytes (leaf_piece l s set xs))
leaf-size n l s set xs = place n (rec_bytes (leaf_rec l s)) (flat_map rec_bytes (map alt_of xs)) (rec_bytes leaf_end) (piece_bytes (leaf_piece l s set xs)) (leaf-bytes l s set xs)

inner-size : (n : ℕ) (l : PlainLabel) (s : Stamp) (set : List (ℕ × ℕ)) (ps : List Piece) (d : PlainDir) → d ≡ dir_of ps
    → n + length (rec_bytes (inner_rec l s)) + length (flat_map piece_bytes ps) + length (rec_bytes (end_rec d)) ≡ n + length (piece_bytes (inner_piece l s set ps))
inner-size n l s set ps d same = place n (rec_bytes (inner_rec l s)) (flat_map piece_bytes ps) (rec_bytes (end_rec d)) (piece_bytes (inner_piece l s set ps)) (inner-bytes l s set ps d same)

file-size : (rules : List PlainRule) (a : PlainArchive) (d : PlainDir) → d ≡ dir_of (root_pieces a)
    → length (header_bytes rules a.n) + length (flat_map piece_bytes (root_pieces a)) + length (rec_bytes (end_rec d) ++ u64_bytes (length (dir_bytes d))) ≡ length (file_bytes rules a)
file-size rules a d same =
    let ps = root_pieces a in
    let header = header_bytes rules a.n in
    let body = flat_map piece_bytes ps in
    let e = λ (x : PlainDir). rec_bytes (end_rec x) in
    let t = λ (x : PlainDir). u64_bytes (length (dir_bytes x)) in
    let records = flat_map rec_bytes (file_records a) in
    let last : length (e d ++ t d) ≡ length (e (dir_of ps)) + length (t (dir_of ps)) = ap (λ (x : PlainDir). length (e x ++ t x)) same ∙ length-append (e (dir_of ps)) (t (dir_of ps)) in
    let inside : length records ≡ length body + length (e (dir_of ps)) = ap length (closed-bytes ps) ∙ length-append body (e (dir_of ps)) in
    let behind : length (records ++ t (dir_of ps)) ≡ length records + length (t (dir_of ps)) = length-append records (t (dir_of ps)) in
    let whole : length (file_bytes rules a) ≡ length header + length (records ++ t (dir_of ps)) = length-append header (records ++ t (dir_of ps)) in
    sums (length header) (length body) (length (e d ++ t d)) (length (e (dir_of ps))) (length (t (dir_of ps))) (length records) _ _ last inside behind whole
  where
    sums : (h b l e t r i f : ℕ) → l ≡ e + t → r ≡ b + e → i ≡ r + t → f ≡ h + i → h + b + l ≡ f
    sums h b l e t r i f p q s z = omega arith

-- ---- where each record has an encoding and the whole is short, the calls fit

alts-fit : (w : PlainWriter) (xs : List PlainAlt) → AllByRecursion IsRec (map alt_of xs) → w.written + length (flat_map rec_bytes (map alt_of xs)) ≤ longest → AllFit w (alt_calls xs)
alts-fit w [] h g = tt
alts-fit w (x ∷ xs) h g =
    let whole = length-append (rec_bytes (alt_of x)) (flat_map rec_bytes (map alt_of xs)) in
    (record { parts = ((value_parts x.body).0 h.0.body.1).1; short = omega arith }, alts-fit (after w (call_alt x.stamp x.body)) xs h.1 (omega arith))

mutual
  node-fit : (n : ℕ) (row : OpenRow) (is : List OpenInner) (parent : List (ℕ × ℕ)) (k : PlainNode)
      → AllByRecursion IsRec ((node_piece parent k).records) → n + length (piece_bytes (node_piece parent k)) ≤ longest → AllFit (between n row is) (node_calls parent k)
  node-fit n row is parent (leaf_node l s xs) h g =
      let set = set_in s parent in
      let r = rec_bytes (leaf_rec l s) in
      let alts = flat_map rec_bytes (map alt_of xs) in
      let w = leaf_begun (between n row is) set (n + length r) in
      let v = moved_on w (n + length r + length alts) in
      let size = leaf-size n l s set xs in
      let opens : Fits (between n row is) (call_leaf l s set) = record { parts = ((label_parts l).0 h.0.body.0).1; short = omega arith } in
      let inside = alts-fit w xs (all-front IsRec (map alt_of xs) (leaf_end ∷ []) h.1) (omega arith) in
      let closes : Fits v call_end_leaf = record { parts = tt; short = omega arith } in
      (opens, fit-append w v (alt_calls xs) (call_end_leaf ∷ []) (alts-walked w xs).leaves inside (closes, tt))
  node-fit n row is parent (inner_node l s ks) h g =
      let set = set_in s parent in
      let ps = node_pieces set ks in
      let first = n + length (rec_bytes (inner_rec l s)) in
      let i : OpenInner = record { begin = n; set = set; row = row } in
      let w = between first (row_from first) (i ∷ is) in
      let own = with_pieces (row_from first) first ps in
      let v = between (first + length (flat_map piece_bytes ps)) own (i ∷ is) in
      let dir = with_pieces-dir first ps in
      let size = inner-size n l s set ps own.dir dir in
      let end = (all-back IsRec (records_of ps) (end_rec (dir_of ps) ∷ []) h.1).0 in
      let fits : length own.dir.entries < 2 ^ 32 = subst IsFew (sym dir) (few-of (dir_of ps) end) in
      let opens : Fits (between n row is) (call_inner l s set) = record { parts = ((label_parts l).0 h.0.body.0).1; short = omega arith } in
      let inside = row-fit first (row_from first) (i ∷ is) set ks (all-front IsRec (records_of ps) (end_rec (dir_of ps) ∷ []) h.1) (omega arith) in
      let closes : Fits v call_end_inner = record { parts = fits; short = omega arith } in
      (opens, fit-append w v (row_calls set ks) (call_end_inner ∷ []) (row-walked first (row_from first) (i ∷ is) set ks).leaves inside (closes, tt))

  row-fit : (n : ℕ) (row : OpenRow) (is : List OpenInner) (parent : List (ℕ × ℕ)) (ks : PlainNodes)
      → AllByRecursion IsRec (records_of (node_pieces parent ks)) → n + length (flat_map piece_bytes (node_pieces parent ks)) ≤ longest → AllFit (between n row is) (row_calls parent ks)
  row-fit n row is parent no_nodes h g = tt
  row-fit n row is parent (node k ks) h g =
      let p = node_piece parent k in
      let ps = node_pieces parent ks in
      let m = n + length (piece_bytes p) in
      let next = with_child row n m p.dir p.set in
      let whole = length-append (piece_bytes p) (flat_map piece_bytes ps) in
      fit-append (between n row is) (between m next is) (node_calls parent k) (row_calls parent ks) (node-walked n row is parent k).leaves
      (node-fit n row is parent k (all-front IsRec p.records (records_of ps) h) (omega arith))
      (row-fit m next is parent ks (all-back IsRec p.records (records_of ps) h) (omega arith))

-- ---- where the calls fit, each record has an encoding

alts-made : (w : PlainWriter) (xs : List PlainAlt) → AllByRecursion IsShapedAlt xs → AllFit w (alt_calls xs) → AllByRecursion IsRec (map alt_of xs)
alts-made w [] s h = tt
alts-made w (x ∷ xs) s h =
    let short = h.0.short in
    let size = rec-length (alt_of x) in
    (record { body = (s.0.0, (value_parts x.body).1 (s.0.1, h.0.parts)); short = omega arith }, alts-made (after w (call_alt x.stamp x.body)) xs s.1 h.1)

mutual
  node-made : (n : ℕ) (row : OpenRow) (is : List OpenInner) (parent : List (ℕ × ℕ)) (k : PlainNode)
      → IsSet parent → IsShapedNode k → AllFit (between n row is) (node_calls parent k) → Fine (node_piece parent k)
  node-made n row is parent (leaf_node l s xs) set shape h =
      let own = set_in s parent in
      let w = leaf_begun (between n row is) own (n + length (rec_bytes (leaf_rec l s))) in
      let short = h.0.short in
      let size = rec-length (leaf_rec l s) in
      let opens : IsRec (leaf_rec l s) = record { body = ((label_parts l).1 (shape.0, h.0.parts), shape.1); short = omega arith } in
      let alts = alts-made w xs shape.2 (fit-front w (alt_calls xs) (call_end_leaf ∷ []) h.1) in
      let closes : IsRec leaf_end = record { body = tt; short = omega arith } in
      record { recs = (opens, all-append IsRec (map alt_of xs) (leaf_end ∷ []) alts (closes, tt)); dir = omega arith; set = set-in s parent shape.1 set }
  node-made n row is parent (inner_node l s ks) set shape h =
      let own = set_in s parent in
      let ps = node_pieces own ks in
      let first = n + length (rec_bytes (inner_rec l s)) in
      let i : OpenInner = record { begin = n; set = own; row = row } in
      let w = between first (row_from first) (i ∷ is) in
      let made = with_pieces (row_from first) first ps in
      let v = between (first + length (flat_map piece_bytes ps)) made (i ∷ is) in
      let dir = with_pieces-dir first ps in
      let total = inner-size n l s own ps made.dir dir in
      let short = h.0.short in
      let size = rec-length (inner_rec l s) in
      let stored = set-in s parent shape.1 set in
      let opens : IsRec (inner_rec l s) = record { body = ((label_parts l).1 (shape.0, h.0.parts), shape.1); short = omega arith } in
      let end = (fit-back w v (row_calls own ks) (call_end_inner ∷ []) (row-walked first (row_from first) (i ∷ is) own ks).leaves h.1).0 in
      let kids = row-made first (row_from first) (i ∷ is) own ks stored shape.2 (fit-front w (row_calls own ks) (call_end_inner ∷ []) h.1) in
      let room = end.short in
      let few : IsFew (dir_of ps) = subst IsFew dir end.parts in
      let count = entries-length 0 ps in
      let row_size = ap length (closed-bytes ps) ∙ length-append (flat_map piece_bytes ps) (rec_bytes (end_rec (dir_of ps))) in
      let piece_size = length-append (rec_bytes (inner_rec l s)) (flat_map rec_bytes (closed_by_end ps)) in
      let last = rec-length (end_rec (dir_of ps)) in
      record { recs = (opens, closed-fits ps kids (omega arith) (omega arith)); dir = omega arith; set = stored }

  row-made : (n : ℕ) (row : OpenRow) (is : List OpenInner) (parent : List (ℕ × ℕ)) (ks : PlainNodes)
      → IsSet parent → AreShapedNodes ks → AllFit (between n row is) (row_calls parent ks) → AllByRecursion Fine (node_pieces parent ks)
  row-made n row is parent no_nodes set shape h = tt
  row-made n row is parent (node k ks) set shape h =
      let p = node_piece parent k in
      let m = n + length (piece_bytes p) in
      let w = between n row is in
      let next = with_child row n m p.dir p.set in (
        node-made n row is parent k set shape.0 (fit-front w (node_calls parent k) (row_calls parent ks) h),
        row-made m next is parent ks set shape.1 (fit-back w (between m next is) (node_calls parent k) (row_calls parent ks) (node-walked n row is parent k).leaves h),
      )

-- ---- archives

walk-fits : (rules : List PlainRule) (a : PlainArchive) → HasFile rules a → AllFit (started rules a.n) (walk_of a)
walk-fits rules a h =
    let ps = root_pieces a in
    let at = length (header_bytes rules a.n) in
    let row = root_row rules a in
    let dir = root-dir rules a in
    let size = file-size rules a row.dir dir in
    let short = h.short in
    let end = (all-back IsRec (records_of ps) (end_rec (dir_of ps) ∷ []) h.records).0 in
    let fits : length row.dir.entries < 2 ^ 32 = subst IsFew (sym dir) (few-of (dir_of ps) end) in
    let inside = row-fit at (row_from at) [] (upto_pairs a.n) a.kids (all-front IsRec (records_of ps) (end_rec (dir_of ps) ∷ []) h.records) (omega arith) in
    let closes : Fits (behind_kids rules a) call_finish = record { parts = fits; short = omega arith } in
    fit-append (started rules a.n) (behind_kids rules a) (row_calls (upto_pairs a.n) a.kids) (call_finish ∷ []) (kids-walked rules a).leaves inside (closes, tt)

walk-made : (rules : List PlainRule) (a : PlainArchive) → length (canonical rules) < 2 ^ 32 → IsShaped a → AllFit (started rules a.n) (walk_of a) → HasFile rules a
walk-made rules a text shape h =
    let ps = root_pieces a in
    let at = length (header_bytes rules a.n) in
    let row = root_row rules a in
    let dir = root-dir rules a in
    let size = file-size rules a row.dir dir in
    let kids = row-made at (row_from at) [] (upto_pairs a.n) a.kids (upto-set a.n shape.count) shape.kids (fit-front (started rules a.n) (row_calls (upto_pairs a.n) a.kids) (call_finish ∷ []) h) in
    let end = (fit-back (started rules a.n) (behind_kids rules a) (row_calls (upto_pairs a.n) a.kids) (call_finish ∷ []) (kids-walked rules a).leaves h).0 in
    let few : IsFew (dir_of ps) = subst IsFew dir end.parts in
    let room = end.short in
    let count = entries-length 0 ps in
    let whole = length-append (header_bytes rules a.n) (flat_map rec_bytes (file_records a) ++ tail_bytes a) in
    let body = length-append (flat_map rec_bytes (file_records a)) (tail_bytes a) in
    let short : length (file_bytes rules a) ≤ longest = omega arith in
    record { text = text; count = shape.count; records = closed-fits ps kids (omega arith) (omega arith); short = short }

pub walk-fits-exactly : (rules : List PlainRule) (a : PlainArchive) → length (canonical rules) < 2 ^ 32 → IsShaped a → HasFile rules a ↔ AllFit (started rules a.n) (walk_of a)
walk-fits-exactly rules a text shape = (walk-fits rules a, walk-made rules a text shape)
