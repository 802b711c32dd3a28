-- What the file of an archive gives.
use Rattle.std.proofs.Common.{◌≡◌, ℕ, suc, ◌+◌, ◌-◌, ◌<◌, true, ltb, IsTrue, List, [], ◌∷◌, ◌++◌, map, length, drop, Option, Some, None, refl, sym, ap, subst, ◌∙◌, append_assoc, arith}
use Rattle.std.specs.Option.{option_map}
use Rattle.std.specs.List.{flat_map, AllByRecursion}
use Rattle.std.proofs.lemmas.List.{drop_at, map-append}
use Rattle.std.proofs.lemmas.Bool.Decides.{nat_tests}
use Rattle.keyed_tree.proofs.Kids.{both}
use Rattle.key_spec.specs.Data.{PlainRule}
use Rattle.archive_tree.specs.Data.{PlainAlt, PlainNode, inner_node, leaf_node, PlainNodes, no_nodes, node, PlainArchive}
use Rattle.version_set.specs.Members.{upto_pairs}
use Rattle.xa_fields.specs.Spelling.{u64_bytes}
use Rattle.xa_fields.proofs.Fields.{bind_some, some_is}
use Rattle.record_parts.specs.Bounds.{deepest}
use Rattle.record_format.specs.Bounds.{IsRec}
use Rattle.record_format.specs.Data.{PlainRec, inner_rec, leaf_rec, alt_rec, end_rec, leaf_end}
use Rattle.record_format.specs.Files.{header_bytes, root_pieces, file_records, tail_bytes, file_bytes, HasFile}
use Rattle.record_format.specs.Nested.{is_nested, are_nested}
use Rattle.record_format.specs.Nodes.{Piece, dir_of, closed_by_end, alt_of, set_in, node_piece, node_pieces}
use Rattle.record_format.specs.Spelling.{dir_bytes, kind_of, body_bytes, rec_bytes}
use Rattle.record_format.proofs.Records.{body_only, frame_only}
use Rattle.record_format.proofs.WholeDirectories.{same_bytes}
use Rattle.record_cursor.specs.Items.{PlainItem, end_item, finish, item_of, items_of}
use Rattle.record_cursor.specs.Places.{Standing, among_nodes, in_leaf, behind_root, finished, closed_by, after_item, after_items}
use Rattle.record_cursor.specs.Next.{item_in, record_item_at, next_of, opening_at, Gives}

-- ---- one record

item-is : (r : PlainRec) → IsRec r → item_in (kind_of r) (body_bytes r) ≡ Some (item_of r)
item-is (inner_rec l s) h = ap (option_map item_of) (body_only (inner_rec l s) h)
item-is (leaf_rec l s) h = ap (option_map item_of) (body_only (leaf_rec l s) h)
item-is (alt_rec s b) h = ap (option_map item_of) (body_only (alt_rec s b) h)
item-is (end_rec d) h = refl
item-is leaf_end h = ap (option_map item_of) (body_only leaf_end h)

record-item : (r : PlainRec) (rest : List ℕ) → IsRec r → record_item_at (rec_bytes r ++ rest) ≡ Some (item_of r, rest)
unfolding record_item_at
record-item r rest h =
    let f = frame_only (kind_of r) (body_bytes r) rest h.short in
    let i = item-is r h in
    rw f (rw i refl)

no-record-last : (r : PlainRec) (t : Standing) → after_item finished (item_of r) ≡ Some t → ⊥
no-record-last (inner_rec l s) t e = cc
no-record-last (leaf_rec l s) t e = cc
no-record-last (alt_rec s b) t e = cc
no-record-last (end_rec d) t e = cc
no-record-last leaf_end t e = cc

pub next-record : (s t : Standing) (r : PlainRec) (rest : List ℕ) → IsRec r → after_item s (item_of r) ≡ Some t → next_of s (rec_bytes r ++ rest) ≡ Some (item_of r, (t, rest))
unfolding next_of
next-record (among_nodes depth) t r rest h may = (let i = record-item r rest h in rw i (rw may refl))
next-record (in_leaf depth) t r rest h may = (let i = record-item r rest h in rw i (rw may refl))
next-record (behind_root n) t r rest h may = absurd (no-record-last r t may)
next-record finished t r rest h may = absurd (no-record-last r t may)

-- ---- records one after another

pub give-records : (s t : Standing) (rs : List PlainRec) (rest : List ℕ) → AllByRecursion IsRec rs → after_items s (map item_of rs) ≡ Some t → Gives s (flat_map rec_bytes rs ++ rest) (map item_of rs) t rest
give-records s t [] rest h may = (some_is s t may, refl)
give-records s t (r ∷ rs) rest h may =
    let first = bind_some (after_item s (item_of r)) (λ u. after_items u (map item_of rs)) t may in
    let more = flat_map rec_bytes rs ++ rest in
    let next = ap (next_of s) (append_assoc (rec_bytes r) (flat_map rec_bytes rs) rest) ∙ next-record s first.0 r more h.0 first.1 in
    (first.0, more, next, give-records first.0 t rs rest h.1 first.2)

-- ---- where items lead

after-both : (s t : Standing) (xs ys : List PlainItem) → after_items s xs ≡ Some t → after_items s (xs ++ ys) ≡ after_items t ys
after-both s t [] ys e = ap (λ (u : Standing). after_items u ys) (some_is s t e)
after-both s t (x ∷ xs) ys e =
    let first = bind_some (after_item s x) (λ u. after_items u xs) t e in
    let one = first.1 in
    rw one (after-both first.0 t xs ys first.2)

leaf-leads : (depth : ℕ) (xs : List PlainAlt) → after_items (in_leaf depth) (map item_of (map alt_of xs ++ leaf_end ∷ [])) ≡ Some (among_nodes depth)
leaf-leads depth [] = refl
leaf-leads depth (x ∷ xs) = leaf-leads depth xs

lt-is : (m n : ℕ) → IsTrue (ltb m n) → m < n
lt-is m n h = grind (arith, nat_tests)

closed-leads : (depth : ℕ) (ps : List Piece) → after_items (among_nodes depth) (map item_of (flat_map (λ (p : Piece). p.records) ps)) ≡ Some (among_nodes depth)
    → after_items (among_nodes depth) (map item_of (closed_by_end ps)) ≡ Some (closed_by (length (dir_bytes (dir_of ps))) depth)
closed-leads depth ps row =
    let rs = flat_map (λ (p : Piece). p.records) ps in
    ap (after_items (among_nodes depth)) (map-append item_of rs (end_rec (dir_of ps) ∷ []))
    ∙ after-both (among_nodes depth) (among_nodes depth) (map item_of rs) (end_item (length (dir_bytes (dir_of ps))) ∷ []) row

mutual
  node-leads : (parent : List (ℕ × ℕ)) (k : PlainNode) (depth d : ℕ) → IsTrue (is_nested d k) → depth + d ≡ deepest → after_items (among_nodes depth) (map item_of (node_piece parent k).records) ≡ Some (among_nodes depth)
  node-leads parent (inner_node l s ks) depth d nested all =
      let two = both (ltb 0 d) (are_nested (d - 1) ks) nested in
      let some = lt-is 0 d two.0 in
      let fits : ltb depth deepest ≡ true = grind (arith, nat_tests) in
      let set = set_in s parent in
      rw fits (closed-leads (suc depth) (node_pieces set ks) (row-leads set ks (suc depth) (d - 1) two.1 (omega arith)))
  node-leads parent (leaf_node l s xs) depth d nested all = leaf-leads depth xs

  row-leads : (set : List (ℕ × ℕ)) (ks : PlainNodes) (depth d : ℕ) → IsTrue (are_nested d ks) → depth + d ≡ deepest → after_items (among_nodes depth) (map item_of (flat_map (λ (p : Piece). p.records) (node_pieces set ks))) ≡ Some (among_nodes depth)
  row-leads set no_nodes depth d nested all = refl
  row-leads set (node k ks) depth d nested all =
      let two = both (is_nested d k) (are_nested d ks) nested in
      let first = (node_piece set k).records in
      let rs = flat_map (λ (p : Piece). p.records) (node_pieces set ks) in
      ap (after_items (among_nodes depth)) (map-append item_of first rs)
      ∙ after-both (among_nodes depth) (among_nodes depth) (map item_of first) (map item_of rs) (node-leads set k depth d two.0 all)
      ∙ row-leads set ks depth d two.1 all

-- ---- a record that opens a node

opened : (o : Option (PlainItem × (Standing × List ℕ))) (i : PlainItem) (rest : List ℕ) → option_map {U = PlainItem × List ℕ} (λ (x : PlainItem × (Standing × List ℕ)). (x.0, x.1.1)) o ≡ Some (i, rest) → (t : Standing) × (o ≡ Some (i, (t, rest)))
opened (Some x) i rest e = (x.1.0, ap (λ (p : PlainItem × List ℕ). Some (p.0, (x.1.0, p.1))) (some_is (x.0, x.1.1) (i, rest) e))
opened None i rest e = absurd cc

-- it comes next among nodes
pub opening-next : (bytes rest : List ℕ) (i : PlainItem) → opening_at bytes ≡ Some (i, rest) → (t : Standing) × (next_of (among_nodes 0) bytes ≡ Some (i, (t, rest)))
opening-next bytes rest i e = opened (next_of (among_nodes 0) bytes) i rest e

-- ---- the whole file

gives-both : (s t u : Standing) (a b c : List ℕ) (xs ys : List PlainItem) → Gives s a xs t b → Gives t b ys u c → Gives s a (xs ++ ys) u c
gives-both s t u a b c [] ys (same, bytes) h = subst (λ (x : Standing). Gives x a ys u c) (sym same) (subst (λ (x : List ℕ). Gives t x ys u c) (sym bytes) h)
gives-both s t u a b c (x ∷ xs) ys (v, more, next, others) h = (v, more, next, gives-both v t u more b c xs ys others h)

tail-next : (n : ℕ) → next_of (behind_root n) (u64_bytes n) ≡ Some (finish, (finished, []))
unfolding next_of
tail-next n = (let same = same_bytes (u64_bytes n) in rw same refl)

pub file-gives : (rules : List PlainRule) (a : PlainArchive) → HasFile rules a → IsTrue (are_nested deepest a.kids) → Gives (among_nodes 0) (drop (length (header_bytes rules a.n)) (file_bytes rules a)) (items_of a) finished []
file-gives rules a has nested =
    let n = length (dir_bytes (dir_of (root_pieces a))) in
    let leads : after_items (among_nodes 0) (map item_of (file_records a)) ≡ Some (behind_root n) = closed-leads 0 (root_pieces a) (row-leads (upto_pairs a.n) a.kids 0 deepest nested refl) in
    let records = give-records (among_nodes 0) (behind_root n) (file_records a) (tail_bytes a) has.records leads in
    let behind = drop_at (header_bytes rules a.n) (flat_map rec_bytes (file_records a) ++ tail_bytes a) (length (header_bytes rules a.n)) refl in
    subst (λ (bs : List ℕ). Gives (among_nodes 0) bs (items_of a) finished []) (sym behind)
    (gives-both (among_nodes 0) (behind_root n) finished (flat_map rec_bytes (file_records a) ++ tail_bytes a) (tail_bytes a) [] (map item_of (file_records a)) (finish ∷ []) records
    (finished, [], tail-next n, (refl, refl)))
