-- The bytes of pieces, and which rows of pieces have an encoding.
pub use Rattle.jsonml_tree.proofs.Lists.{all-append}
use Rattle.std.proofs.Common.{◌≡◌, ℕ, zero, suc, ◌+◌, ◌^◌, ◌<◌, ◌≤◌, false, cond, eqb, List, [], ◌∷◌, ◌++◌, map, length, Some, None, refl, sym, ap, subst, ◌∙◌, arith}
use Rattle.std.specs.List.{flat_map, AllByRecursion}
use Rattle.std.proofs.lemmas.List.{length-append, append-nil}
use Rattle.std.proofs.lemmas.Bool.Decides.{nat_tests}
use Rattle.std.proofs.lemmas.Grind.{flat_map-append}
use Rattle.version_set.specs.Members.{upto_pairs}
use Rattle.archive_tree.specs.Data.{Stamp, PlainNodes, no_nodes, node, nodes_list}
use Rattle.record_parts.specs.Bounds.{most, IsSet, IsStamp}
use Rattle.record_format.specs.Data.{PlainEntry, PlainRec, end_rec}
use Rattle.record_format.specs.Spelling.{body_bytes, rec_bytes}
use Rattle.record_format.specs.Bounds.{IsEntry, IsDir, IsRec}
use Rattle.record_format.specs.Nodes.{Piece, piece_bytes, entries_from, dir_of, closed_by_end, set_in, node_pieces}

-- ---- lists

pub all-front : {X : Type 0} (P : X → Type 0) (xs ys : List X) → AllByRecursion P (xs ++ ys) → AllByRecursion P xs
all-front P [] ys h = tt
all-front P (x ∷ xs) ys h = (h.0, all-front P xs ys h.1)

pub all-back : {X : Type 0} (P : X → Type 0) (xs ys : List X) → AllByRecursion P (xs ++ ys) → AllByRecursion P ys
all-back P [] ys h = h
all-back P (x ∷ xs) ys h = all-back P xs ys h.1

-- ---- the bytes of pieces

abbrev pub records_of : List Piece → List PlainRec
records_of ps = flat_map (λ (p : Piece). p.records) ps

pub records-bytes : (ps : List Piece) → flat_map rec_bytes (records_of ps) ≡ flat_map piece_bytes ps
records-bytes [] = refl
records-bytes (p ∷ ps) = flat_map-append rec_bytes p.records (records_of ps) ∙ ap (λ (bs : List ℕ). piece_bytes p ++ bs) (records-bytes ps)

pub one-record : (r : PlainRec) → flat_map rec_bytes (r ∷ []) ≡ rec_bytes r
one-record r = append-nil (rec_bytes r)

-- a row is its pieces and the END
pub closed-bytes : (ps : List Piece) → flat_map rec_bytes (closed_by_end ps) ≡ flat_map piece_bytes ps ++ rec_bytes (end_rec (dir_of ps))
closed-bytes ps =
    flat_map-append rec_bytes (records_of ps) (end_rec (dir_of ps) ∷ [])
    ∙ ap (λ (bs : List ℕ). bs ++ flat_map rec_bytes (end_rec (dir_of ps) ∷ [])) (records-bytes ps)
    ∙ ap (λ (bs : List ℕ). flat_map piece_bytes ps ++ bs) (one-record (end_rec (dir_of ps)))

pub rec-length : (r : PlainRec) → length (rec_bytes r) ≡ length (body_bytes r) + 9
rec-length r = omega arith

pub entries-more : (at : ℕ) (ps : List Piece) (p : Piece)
    → entries_from at (ps ++ p ∷ []) ≡ entries_from at ps ++ record { start = at + length (flat_map piece_bytes ps); length = length (piece_bytes p); dir = p.dir } ∷ []
entries-more at [] p = ap (λ (n : ℕ). record { start = n; length = length (piece_bytes p); dir = p.dir } ∷ []) (let e : at ≡ at + 0 = omega arith in e)
entries-more at (q ∷ ps) p =
    let rest = entries-more (at + length (piece_bytes q)) ps p in
    let place : at + length (piece_bytes q) + length (flat_map piece_bytes ps) ≡ at + length (flat_map piece_bytes (q ∷ ps)) = omega (arith, length-append (piece_bytes q) (flat_map piece_bytes ps)) in
    ap (λ (es : List PlainEntry). record { start = at; length = length (piece_bytes q); dir = q.dir } ∷ es)
    (rest ∙ ap (λ (n : ℕ). entries_from (at + length (piece_bytes q)) ps ++ record { start = n; length = length (piece_bytes p); dir = p.dir } ∷ []) place)

pub entries-length : (at : ℕ) (ps : List Piece) → length (entries_from at ps) ≡ length ps
entries-length at [] = refl
entries-length at (p ∷ ps) = ap suc (entries-length (at + length (piece_bytes p)) ps)

pub pieces-length : (set : List (ℕ × ℕ)) (ks : PlainNodes) → length (node_pieces set ks) ≡ length (nodes_list ks)
pieces-length set no_nodes = refl
pieces-length set (node k ks) = ap suc (pieces-length set ks)

-- ---- rows that have an encoding

-- what is known of a piece
pub record Fine (p : Piece) : Type 0 where
  pub recs : AllByRecursion IsRec p.records
  pub dir : p.dir ≤ length (piece_bytes p)
  pub set : IsSet p.set

entries-fit : (at : ℕ) (ps : List Piece) → AllByRecursion Fine ps → at + length (flat_map piece_bytes ps) < 2 ^ 64 → AllByRecursion IsEntry (entries_from at ps)
entries-fit at [] h g = tt
entries-fit at (p ∷ ps) h g =
    let whole = length-append (piece_bytes p) (flat_map piece_bytes ps) in
    let dir = h.0.dir in
    let starts : at < 2 ^ 64 = omega arith in
    let long : length (piece_bytes p) < 2 ^ 64 = omega arith in
    let ends : p.dir < 2 ^ 64 = omega arith in
    (record { start = starts; length = long; dir = ends }, entries-fit (at + length (piece_bytes p)) ps h.1 (omega arith))

sets-fit : (ps : List Piece) → AllByRecursion Fine ps → AllByRecursion IsSet (map (λ (p : Piece). p.set) ps)
sets-fit [] h = tt
sets-fit (p ∷ ps) h = (h.0.set, sets-fit ps h.1)

records-fit : (ps : List Piece) → AllByRecursion Fine ps → AllByRecursion IsRec (records_of ps)
records-fit [] h = tt
records-fit (p ∷ ps) h = all-append IsRec p.records (records_of ps) h.0.recs (records-fit ps h.1)

length-map : (ps : List Piece) → length (map (λ (p : Piece). p.set) ps) ≡ length ps
length-map [] = refl
length-map (p ∷ ps) = ap suc (length-map ps)

pub closed-fits : (ps : List Piece) → AllByRecursion Fine ps → length ps < 2 ^ 32 → length (flat_map rec_bytes (closed_by_end ps)) < 2 ^ 64 → AllByRecursion IsRec (closed_by_end ps)
closed-fits ps h few g =
    let end = end_rec (dir_of ps) in
    let whole = ap length (closed-bytes ps) ∙ length-append (flat_map piece_bytes ps) (rec_bytes end) in
    let tail = rec-length end in
    let count = entries-length 0 ps in
    let is_dir : IsDir (dir_of ps) = record {
      few = omega arith;
      entries = entries-fit 0 ps h (omega arith);
      sets = sets-fit ps h;
      paired = length-map ps ∙ sym count;
    } in
    all-append IsRec (records_of ps) (end ∷ []) (records-fit ps h) (record { body = is_dir; short = omega arith }, tt)

pub set-in : (s : Stamp) (parent : List (ℕ × ℕ)) → IsStamp s → IsSet parent → IsSet (set_in s parent)
set-in None parent h g = g
set-in (Some s) parent h g = h.0

-- the set of all versions
pub upto-set : (n : ℕ) → n ≤ most → IsSet (upto_pairs n)
upto-set zero h = record { canonical = tt; within = tt }
upto-set (suc n) h =
    let some : eqb (suc n) 0 ≡ false = grind (arith, nat_tests) in
    let one : ((1, suc n) ∷ []) ≡ upto_pairs (suc n) = ap (λ b. cond b [] ((1, suc n) ∷ [])) (sym some) in
    subst IsSet one (record { canonical = (omega arith, omega arith, tt); within = (h, tt) })
