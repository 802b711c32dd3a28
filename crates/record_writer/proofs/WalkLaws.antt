-- What the calls that walk an archive append.
use Rattle.std.proofs.Common.{◌≡◌, ℕ, ◌+◌, ◌-◌, ◌≤◌, List, [], ◌∷◌, ◌++◌, map, length, None, refl, sym, ap, ◌∙◌, append_assoc, arith}
use Rattle.std.specs.List.{flat_map}
use Rattle.std.proofs.lemmas.Grind.{flat_map-append}
use Rattle.std.proofs.lemmas.List.{append-nil, length-append}
use Rattle.version_set.specs.Members.{upto_pairs}
use Rattle.keyed_tree.specs.Data.{PlainLabel}
use Rattle.key_spec.specs.Data.{PlainRule}
use Rattle.archive_tree.specs.Data.{Stamp, PlainAlt, PlainNode, inner_node, leaf_node, PlainNodes, no_nodes, node, PlainArchive}
use Rattle.xa_fields.specs.Spelling.{u64_bytes, list_bytes}
use Rattle.record_format.specs.Data.{PlainEntry, PlainDir, inner_rec, leaf_rec, end_rec, leaf_end}
use Rattle.record_format.specs.Spelling.{entry_bytes, sets_bytes, dir_bytes, rec_bytes}
use Rattle.record_format.specs.Nodes.{Piece, piece_bytes, entries_from, dir_of, closed_by_end, alt_of, set_in, inner_piece, leaf_piece, node_piece, node_pieces}
use Rattle.record_format.specs.Files.{header_bytes, root_pieces, file_records, tail_bytes, file_bytes}
use Rattle.record_format.proofs.Pieces.{one-record, closed-bytes, rec-length}
use Rattle.record_writer.specs.Data.{OpenRow, OpenInner, PlainWriter, WriterCall, call_inner, call_leaf, call_alt, call_end_leaf, call_end_inner, call_finish}
use Rattle.record_writer.specs.Calls.{appended, row_from, with_child, started, leaf_begun, moved_on, after, all_appended, after_all}
use Rattle.record_writer.specs.Walks.{alt_calls, node_calls, row_calls, walk_of}

-- ---- calls one after the other

pub appended-append : (w : PlainWriter) (cs ds : List WriterCall) → all_appended w (cs ++ ds) ≡ all_appended w cs ++ all_appended (after_all w cs) ds
appended-append w [] ds = refl
appended-append w (c ∷ cs) ds =
    ap (λ (bs : List ℕ). appended w c ++ bs) (appended-append (after w c) cs ds)
    ∙ sym (append_assoc (appended w c) (all_appended (after w c) cs) (all_appended (after_all (after w c) cs) ds))

pub after-append : (w : PlainWriter) (cs ds : List WriterCall) → after_all w (cs ++ ds) ≡ after_all (after_all w cs) ds
after-append w [] ds = refl
after-append w (c ∷ cs) ds = after-append (after w c) cs ds

-- the calls append the bytes, and leave the writer so
pub record Walked (w : PlainWriter) (cs : List WriterCall) (bytes : List ℕ) (v : PlainWriter) : Type 0 where
  pub appends : all_appended w cs ≡ bytes
  pub leaves : after_all w cs ≡ v

then : (w v u : PlainWriter) (cs ds : List WriterCall) (b d : List ℕ) → Walked w cs b v → Walked v ds d u → Walked w (cs ++ ds) (b ++ d) u
then w v u cs ds b d first second = record {
  appends = appended-append w cs ds ∙ ap (λ (x : PlainWriter). all_appended w cs ++ all_appended x ds) first.leaves
      ∙ ap (λ (bs : List ℕ). all_appended w cs ++ bs) second.appends ∙ ap (λ (bs : List ℕ). bs ++ d) first.appends;
  leaves = after-append w cs ds ∙ ap (λ (x : PlainWriter). after_all x ds) first.leaves ∙ second.leaves;
}

-- one call, and then others
before : (w u : PlainWriter) (c : WriterCall) (cs : List WriterCall) (b : List ℕ) → Walked (after w c) cs b u → Walked w (c ∷ cs) (appended w c ++ b) u
before w u c cs b rest = record { appends = ap (λ (bs : List ℕ). appended w c ++ bs) rest.appends; leaves = rest.leaves }

-- the same, told otherwise
told : (w v u : PlainWriter) (cs : List WriterCall) (b d : List ℕ) → b ≡ d → v ≡ u → Walked w cs b v → Walked w cs d u
told w v u cs b d e g h = record { appends = h.appends ∙ e; leaves = h.leaves ∙ g }

-- ---- where a writer stands between two nodes

abbrev pub between : ℕ → OpenRow → List OpenInner → PlainWriter
between n row is = record { written = n; row = row; inners = is; leaf = None }

-- the row with these pieces as further children, the first of which begins at the offset
abbrev pub with_pieces : OpenRow → ℕ → List Piece → OpenRow
with_pieces row n [] = row
with_pieces row n (p ∷ ps) = with_pieces (with_child row n (n + length (piece_bytes p)) p.dir p.set) (n + length (piece_bytes p)) ps

abbrev row_of : ℕ → List PlainEntry → List (List (ℕ × ℕ)) → OpenRow
row_of start es sets = record { start = start; dir = record { entries = es; sets = sets } }

abbrev entry : ℕ → ℕ → ℕ → PlainEntry
entry start long dir = record { start = start; length = long; dir = dir }

with_pieces-is : (row : OpenRow) (n : ℕ) (ps : List Piece) → row.start ≤ n
    → with_pieces row n ps ≡ row_of row.start (row.dir.entries ++ entries_from (n - row.start) ps) (row.dir.sets ++ map (λ (p : Piece). p.set) ps)
with_pieces-is row n [] h = λ i. row_of row.start (sym (append-nil row.dir.entries) i) (sym (append-nil row.dir.sets) i)
with_pieces-is row n (p ∷ ps) h =
    let m = n + length (piece_bytes p) in
    let e = entry (n - row.start) (m - n) p.dir in
    let sets = map (λ (p : Piece). p.set) ps in
    let long : m - n ≡ length (piece_bytes p) = omega arith in
    let next : m - row.start ≡ n - row.start + length (piece_bytes p) = omega arith in
    let rest = with_pieces-is (with_child row n m p.dir p.set) m ps (omega arith) in
    rest
    ∙ (λ i. row_of row.start (append_assoc row.dir.entries (e ∷ []) (entries_from (m - row.start) ps) i) (append_assoc row.dir.sets (p.set ∷ []) sets i))
    ∙ (λ i. row_of row.start (row.dir.entries ++ entry (n - row.start) (long i) p.dir ∷ entries_from (next i) ps) (row.dir.sets ++ p.set ∷ sets))

-- the directory of a new row
pub with_pieces-dir : (n : ℕ) (ps : List Piece) → (with_pieces (row_from n) n ps).dir ≡ dir_of ps
with_pieces-dir n ps =
    let none : n - n ≡ 0 = omega arith in
    ap (λ (r : OpenRow). r.dir) (with_pieces-is (row_from n) n ps (omega arith)) ∙ ap (λ (k : ℕ). (row_of n (entries_from k ps) (map (λ (p : Piece). p.set) ps)).dir) none

-- ---- nodes

pub alts-walked : (w : PlainWriter) (xs : List PlainAlt) → Walked w (alt_calls xs) (flat_map rec_bytes (map alt_of xs)) (moved_on w (w.written + length (flat_map rec_bytes (map alt_of xs))))
alts-walked w [] = record { appends = refl; leaves = ap (moved_on w) (let e : w.written ≡ w.written + 0 = omega arith in e) }
alts-walked w (x ∷ xs) =
    let first = rec_bytes (alt_of x) in
    let others = flat_map rec_bytes (map alt_of xs) in
    let c = call_alt x.stamp x.body in
    let place : w.written + length first + length others ≡ w.written + length (first ++ others) = omega (arith, length-append first others) in
    before w _ c (alt_calls xs) others (told (after w c) _ _ (alt_calls xs) others others refl (ap (moved_on w) place) (alts-walked (after w c) xs))

-- a record that opens, what stands inside, and a record that closes
closed : (r a e z : List ℕ) → z ≡ a ++ e → r ++ (a ++ (e ++ [])) ≡ r ++ z
closed r a e z h = ap (λ (x : List ℕ). r ++ (a ++ x)) (append-nil e) ∙ ap (λ (x : List ℕ). r ++ x) (sym h)

pub place : (n : ℕ) (r a e p : List ℕ) → r ++ (a ++ (e ++ [])) ≡ p → n + length r + length a + length e ≡ n + length p
place n r a e p h = omega (arith, ap length h, length-append r (a ++ (e ++ [])), length-append a (e ++ []), length-append e [])

pub leaf-bytes : (l : PlainLabel) (s : Stamp) (set : List (ℕ × ℕ)) (xs : List PlainAlt)
    → rec_bytes (leaf_rec l s) ++ (flat_map rec_bytes (map alt_of xs) ++ (rec_bytes leaf_end ++ [])) ≡ piece_bytes (leaf_piece l s set xs)
leaf-bytes l s set xs =
    let alts = flat_map rec_bytes (map alt_of xs) in
    closed (rec_bytes (leaf_rec l s)) alts (rec_bytes leaf_end) (flat_map rec_bytes (map alt_of xs ++ leaf_end ∷ []))
    (flat_map-append rec_bytes (map alt_of xs) (leaf_end ∷ []) ∙ ap (λ (x : List ℕ). alts ++ x) (one-record leaf_end))

pub inner-bytes : (l : PlainLabel) (s : Stamp) (set : List (ℕ × ℕ)) (ps : List Piece) (d : PlainDir) → d ≡ dir_of ps
    → rec_bytes (inner_rec l s) ++ (flat_map piece_bytes ps ++ (rec_bytes (end_rec d) ++ [])) ≡ piece_bytes (inner_piece l s set ps)
inner-bytes l s set ps d same =
    let body = flat_map piece_bytes ps in
    closed (rec_bytes (inner_rec l s)) body (rec_bytes (end_rec d)) (flat_map rec_bytes (closed_by_end ps))
    (closed-bytes ps ∙ ap (λ (x : PlainDir). body ++ rec_bytes (end_rec x)) (sym same))

leaf-walked : (n : ℕ) (row : OpenRow) (is : List OpenInner) (l : PlainLabel) (s : Stamp) (set : List (ℕ × ℕ)) (xs : List PlainAlt)
    → Walked (between n row is) (call_leaf l s set ∷ (alt_calls xs ++ call_end_leaf ∷ [])) (piece_bytes (leaf_piece l s set xs))
    (between (n + length (piece_bytes (leaf_piece l s set xs))) (with_child row n (n + length (piece_bytes (leaf_piece l s set xs))) 0 set) is)
leaf-walked n row is l s set xs =
    let r = rec_bytes (leaf_rec l s) in
    let alts = flat_map rec_bytes (map alt_of xs) in
    let w = leaf_begun (between n row is) set (n + length r) in
    let v = moved_on w (n + length r + length alts) in
    let bytes = leaf-bytes l s set xs in
    let last : Walked v (call_end_leaf ∷ []) (rec_bytes leaf_end ++ []) (after v call_end_leaf) = record { appends = refl; leaves = refl } in
    let end = place n r alts (rec_bytes leaf_end) (piece_bytes (leaf_piece l s set xs)) bytes in
    told (between n row is) _ _ _ _ _ bytes (ap (λ (m : ℕ). between m (with_child row n m 0 set) is) end)
    (before (between n row is) _ (call_leaf l s set) _ _ (then w v _ (alt_calls xs) (call_end_leaf ∷ []) _ _ (alts-walked w xs) last))

mutual
  pub node-walked : (n : ℕ) (row : OpenRow) (is : List OpenInner) (parent : List (ℕ × ℕ)) (k : PlainNode)
      → Walked (between n row is) (node_calls parent k) (piece_bytes (node_piece parent k))
      (between (n + length (piece_bytes (node_piece parent k))) (with_child row n (n + length (piece_bytes (node_piece parent k))) ((node_piece parent k).dir) ((node_piece parent k).set)) is)
  node-walked n row is parent (leaf_node l s xs) = leaf-walked n row is l s (set_in s parent) xs
  node-walked n row is parent (inner_node l s ks) =
      let set = set_in s parent in
      let ps = node_pieces set ks in
      let r = rec_bytes (inner_rec l s) in
      let body = flat_map piece_bytes ps in
      let i : OpenInner = record { begin = n; set = set; row = row } in
      let first = n + length r in
      let kids = row-walked first (row_from first) (i ∷ is) set ks in
      let own = with_pieces (row_from first) first ps in
      let w = between first (row_from first) (i ∷ is) in
      let v = between (first + length body) own (i ∷ is) in
      let dir = with_pieces-dir first ps in
      let bytes = inner-bytes l s set ps own.dir dir in
      let last : Walked v (call_end_inner ∷ []) (rec_bytes (end_rec own.dir) ++ []) (after v call_end_inner) = record { appends = refl; leaves = refl } in
      let end = place n r body (rec_bytes (end_rec own.dir)) (piece_bytes (inner_piece l s set ps)) bytes in
      told (between n row is) _ _ _ _ _ bytes (λ j. between (end j) (with_child row n (end j) (length (dir_bytes (dir j))) set) is)
      (before (between n row is) _ (call_inner l s set) _ _ (then w v _ (row_calls set ks) (call_end_inner ∷ []) _ _ kids last))

  pub row-walked : (n : ℕ) (row : OpenRow) (is : List OpenInner) (parent : List (ℕ × ℕ)) (ks : PlainNodes)
      → Walked (between n row is) (row_calls parent ks) (flat_map piece_bytes (node_pieces parent ks))
      (between (n + length (flat_map piece_bytes (node_pieces parent ks))) (with_pieces row n (node_pieces parent ks)) is)
  row-walked n row is parent no_nodes = record { appends = refl; leaves = ap (λ (m : ℕ). between m row is) (let e : n ≡ n + 0 = omega arith in e) }
  row-walked n row is parent (node k ks) =
      let p = node_piece parent k in
      let ps = node_pieces parent ks in
      let m = n + length (piece_bytes p) in
      let next = with_child row n m p.dir p.set in
      let far : m + length (flat_map piece_bytes ps) ≡ n + length (piece_bytes p ++ flat_map piece_bytes ps) = omega (arith, length-append (piece_bytes p) (flat_map piece_bytes ps)) in
      told (between n row is) _ _ _ _ _ refl (ap (λ (z : ℕ). between z (with_pieces next m ps) is) far)
      (then (between n row is) (between m next is) _ (node_calls parent k) (row_calls parent ks) _ _ (node-walked n row is parent k) (row-walked m next is parent ks))

-- ---- what stands begun behind a walk

-- a writer in which no leaf stands begun
no-leaf : (w : PlainWriter) → w.leaf ≡ None → w ≡ between w.written w.row w.inners
no-leaf w e = λ i. record { written = w.written; row = w.row; inners = w.inners; leaf = e i }

closes : (w v : PlainWriter) (cs : List WriterCall) (bytes : List ℕ) → w.leaf ≡ None → v.leaf ≡ None → v.inners ≡ w.inners
    → Walked (between w.written w.row w.inners) cs bytes v → ((after_all w cs).leaf ≡ None) × ((after_all w cs).inners ≡ w.inners)
closes w v cs bytes e leaf inners h =
    let leaves : after_all w cs ≡ v = ap (λ (x : PlainWriter). after_all x cs) (no-leaf w e) ∙ h.leaves in
    (ap (λ (x : PlainWriter). x.leaf) leaves ∙ leaf, ap (λ (x : PlainWriter). x.inners) leaves ∙ inners)

pub row-closes : (w : PlainWriter) (set : List (ℕ × ℕ)) (ks : PlainNodes) → w.leaf ≡ None → ((after_all w (row_calls set ks)).leaf ≡ None) × ((after_all w (row_calls set ks)).inners ≡ w.inners)
row-closes w set ks e = closes w _ (row_calls set ks) _ e refl refl (row-walked w.written w.row w.inners set ks)

pub node-closes : (w : PlainWriter) (set : List (ℕ × ℕ)) (k : PlainNode) → w.leaf ≡ None → ((after_all w (node_calls set k)).leaf ≡ None) × ((after_all w (node_calls set k)).inners ≡ w.inners)
node-closes w set k e = closes w _ (node_calls set k) _ e refl refl (node-walked w.written w.row w.inners set k)

pub alts-keep : (w : PlainWriter) (xs : List PlainAlt)
    → ((after_all w (alt_calls xs)).leaf ≡ w.leaf) × ((after_all w (alt_calls xs)).inners ≡ w.inners) × ((after_all w (alt_calls xs)).row ≡ w.row)
alts-keep w xs = (let leaves = (alts-walked w xs).leaves in (ap (λ (x : PlainWriter). x.leaf) leaves, ap (λ (x : PlainWriter). x.inners) leaves, ap (λ (x : PlainWriter). x.row) leaves))

-- ---- how much is appended at least

dir-size : (d : PlainDir) → 4 ≤ length (dir_bytes d)
dir-size d = omega (arith, length-append (list_bytes entry_bytes d.entries) (sets_bytes d.sets))

pub end-sizes : (w : PlainWriter) → (9 ≤ length (appended w call_end_inner)) × (21 ≤ length (appended w call_finish))
end-sizes w =
    let d = w.row.dir in
    let end = rec-length (end_rec d) in
    let count = dir-size d in
    (omega arith, omega (arith, length-append (rec_bytes (end_rec d)) (u64_bytes (length (dir_bytes d)))))

-- ---- archives

-- the row of the virtual root
abbrev pub root_row : List PlainRule → PlainArchive → OpenRow
root_row rules a = let at = length (header_bytes rules a.n) in with_pieces (row_from at) at (root_pieces a)

pub root-dir : (rules : List PlainRule) (a : PlainArchive) → (root_row rules a).dir ≡ dir_of (root_pieces a)
root-dir rules a = with_pieces-dir (length (header_bytes rules a.n)) (root_pieces a)

-- where a writer stands behind the children of the virtual root
abbrev pub behind_kids : List PlainRule → PlainArchive → PlainWriter
behind_kids rules a = between (length (header_bytes rules a.n) + length (flat_map piece_bytes (root_pieces a))) (root_row rules a) []

pub kids-walked : (rules : List PlainRule) (a : PlainArchive)
    → Walked (started rules a.n) (row_calls (upto_pairs a.n) a.kids) (flat_map piece_bytes (root_pieces a)) (behind_kids rules a)
kids-walked rules a = (let at = length (header_bytes rules a.n) in row-walked at (row_from at) [] (upto_pairs a.n) a.kids)

-- what the walk of an archive appends behind the header
pub walk-bytes : (rules : List PlainRule) (a : PlainArchive) → all_appended (started rules a.n) (walk_of a) ≡ flat_map rec_bytes (file_records a) ++ tail_bytes a
walk-bytes rules a =
    let ps = root_pieces a in
    let body = flat_map piece_bytes ps in
    let e = λ (d : PlainDir). rec_bytes (end_rec d) in
    let t = λ (d : PlainDir). u64_bytes (length (dir_bytes d)) in
    let w = behind_kids rules a in
    let last : Walked w (call_finish ∷ []) ((e w.row.dir ++ t w.row.dir) ++ []) (after w call_finish) = record { appends = refl; leaves = refl } in
    let all = then (started rules a.n) w _ (row_calls (upto_pairs a.n) a.kids) (call_finish ∷ []) _ _ (kids-walked rules a) last in
    all.appends ∙ ap (λ (x : List ℕ). body ++ x) (append-nil (e w.row.dir ++ t w.row.dir))
    ∙ ap (λ (d : PlainDir). body ++ (e d ++ t d)) (root-dir rules a)
    ∙ sym (append_assoc body (e (dir_of ps)) (t (dir_of ps)))
    ∙ ap (λ (x : List ℕ). x ++ t (dir_of ps)) (sym (closed-bytes ps))

pub walk-spells : (rules : List PlainRule) (a : PlainArchive) → header_bytes rules a.n ++ all_appended (started rules a.n) (walk_of a) ≡ file_bytes rules a
walk-spells rules a = ap (λ (x : List ℕ). header_bytes rules a.n ++ x) (walk-bytes rules a)
