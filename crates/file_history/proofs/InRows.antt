-- The nodes of a row, and the row inside one that is found.
use Rattle.std.proofs.Common.{◌≡◌, ℕ, ◌+◌, ◌-◌, ◌<◌, nat_lt, IsTrue, List, [], ◌∷◌, ◌++◌, length, Option, Some, None, refl, sym, ap, subst, ◌∙◌, inl, inr, arith}
use Rattle.std.specs.Prelude.{IsSomeAnd}
use Rattle.std.specs.List.{flat_map, AllByRecursion}
use Rattle.std.proofs.lemmas.Bool.Decides.{nat_tests}
use Rattle.std.proofs.lemmas.List.{append-nil}
use Rattle.version_set.specs.Members.{members}
use Rattle.keyed_tree.specs.Data.{PlainLabel}
use Rattle.keyed_tree.specs.Lists.{Has}
use Rattle.keyed_tree.proofs.Kids.{both}
use Rattle.archive_tree.specs.Data.{Stamp, eff, PlainNode, inner_node, leaf_node, PlainNodes, no_nodes, node, node_stamp, node_kids, nodes_list}
use Rattle.archive_tree.specs.Seek.{node_with, rise, are_sorted, AreRowsSorted}
use Rattle.archive_tree.specs.Stands.{labels}
use Rattle.archive_tree.specs.View.{stamp_view}
use Rattle.archive_tree.proofs.Histories.{node_has, kids_sorted, rise-all}
use Rattle.xa_outside.specs.Folder.{Files}
use Rattle.record_parts.specs.Bounds.{deepest}
use Rattle.record_format.specs.Bounds.{IsRec, IsDir}
use Rattle.record_format.specs.Data.{end_rec}
use Rattle.record_format.specs.Nested.{is_nested, are_nested}
use Rattle.record_format.specs.Nodes.{Piece, piece_bytes, set_in, node_piece, node_pieces, dir_of, closed_by_end}
use Rattle.record_format.specs.Probed.{opening}
use Rattle.record_format.proofs.Pieces.{records_of, all-front, all-back}
use Rattle.file_rows.specs.StandsAt.{RowLaid}
use Rattle.file_rows.specs.View.{PlainRow, row_view}
use Rattle.file_rows.specs.declared.places.Row.{Row}
use Rattle.file_history.specs.Opened.{IsFound}
use Rattle.file_history.specs.Parts.{pieces_of, PartIs}
use Rattle.file_history.specs.Rows.{RowIs, InRow}
use Rattle.file_history.specs.declared.open.Found.{Found}

-- ---- the records of a row

pub end-dir : (ps : List Piece) → AllByRecursion IsRec (closed_by_end ps) → IsDir (dir_of ps)
end-dir ps h = (all-back IsRec (records_of ps) (end_rec (dir_of ps) ∷ []) h).0.body

-- of a node: its opening record, and those of its kids
record Records (parent : List (ℕ × ℕ)) (k : PlainNode) : Type 0 where
  opens : IsRec (opening k)
  all : AllByRecursion IsRec (node_piece parent k).records
  inside : (l : PlainLabel) (s : Stamp) (ks : PlainNodes) → k ≡ inner_node l s ks → AllByRecursion IsRec (closed_by_end (node_pieces (set_in s parent) ks))

inner-is : (l m : PlainLabel) (s t : Stamp) (ks js : PlainNodes) → inner_node l s ks ≡ inner_node m t js → (s ≡ t) × (ks ≡ js)
inner-is l m s t ks js e = (ap node_stamp e, ap node_kids e)

records-in : (parent : List (ℕ × ℕ)) (k : PlainNode) → AllByRecursion IsRec (node_piece parent k).records → Records parent k
records-in parent (inner_node l s ks) h = record {
  opens = h.0;
  all = h;
  inside = λ m t js e. (
      let two = inner-is l m s t ks js e in
      subst (λ (u : Stamp). AllByRecursion IsRec (closed_by_end (node_pieces (set_in u parent) js))) two.0 (subst (λ (is : PlainNodes). AllByRecursion IsRec (closed_by_end (node_pieces (set_in s parent) is))) two.1 h.1));
}
records-in parent (leaf_node l s xs) h = record { opens = h.0; all = h; inside = λ m t js e. absurd cc }

row-records : (parent : List (ℕ × ℕ)) (ks : PlainNodes) → AllByRecursion IsRec (records_of (node_pieces parent ks)) → AllByRecursion (Records parent) (nodes_list ks)
row-records parent no_nodes h = tt
row-records parent (node k ks) h =
    let front = all-front IsRec (node_piece parent k).records (records_of (node_pieces parent ks)) h in
    let back = all-back IsRec (node_piece parent k).records (records_of (node_pieces parent ks)) h in
    (records-in parent k front, row-records parent ks back)

all-opens : (parent : List (ℕ × ℕ)) (ns : List PlainNode) → AllByRecursion (Records parent) ns → AllByRecursion (λ k. IsRec (opening k)) ns
all-opens parent [] h = tt
all-opens parent (k ∷ ns) h = (h.0.opens, all-opens parent ns h.1)

all-has : (P : PlainNode → Type 0) (k : PlainNode) (ns : List PlainNode) → AllByRecursion P ns → Has k ns → P k
all-has P k [] h m = absurd m
all-has P k (j ∷ ns) h m = elim m [ inl e ↦ subst P e h.0 | inr n ↦ all-has P k ns h.1 n ]

-- ---- how deep its nodes nest

all-nested : (d : ℕ) (ks : PlainNodes) → IsTrue (are_nested d ks) → AllByRecursion (λ k. IsTrue (is_nested d k)) (nodes_list ks)
all-nested d no_nodes h = tt
all-nested d (node k ks) h = (let two = both (is_nested d k) (are_nested d ks) h in (two.0, all-nested d ks two.1))

below : (m n : ℕ) → IsTrue (nat_lt 0 (n - m)) → m < n
below m n h = grind (arith, nat_tests)

-- the kids of an inner node nest less deep
kids-nested : (depth deeper : ℕ) (l : PlainLabel) (s : Stamp) (ks : PlainNodes) → (depth < deepest → deeper ≡ depth + 1) → IsTrue (is_nested (deepest - depth) (inner_node l s ks)) → IsTrue (are_nested (deepest - deeper) ks)
kids-nested depth deeper l s ks step h =
    let two = both (nat_lt 0 (deepest - depth)) (are_nested (deepest - depth - 1) ks) h in
    let is = step (below depth deepest two.0) in
    let less : deepest - depth - 1 ≡ deepest - deeper = omega (arith, is) in
    subst (λ (d : ℕ). IsTrue (are_nested d ks)) less two.1

-- ---- the whole row as a part

pieces-list : (parent : List (ℕ × ℕ)) (ks : PlainNodes) → node_pieces parent ks ≡ pieces_of parent (nodes_list ks)
pieces-list parent no_nodes = refl
pieces-list parent (node k ks) = ap (λ (ps : List Piece). node_piece parent k ∷ ps) (pieces-list parent ks)

pieces-count : (parent : List (ℕ × ℕ)) (ks : PlainNodes) → length (node_pieces parent ks) ≡ length (nodes_list ks)
pieces-count parent no_nodes = refl
pieces-count parent (node k ks) = (let rest = pieces-count parent ks in omega (arith, rest))

pub row-part : (told : Option Files) (name bytes : List ℕ) (depth : ℕ) (row : PlainRow) (parent : List (ℕ × ℕ)) (ks : PlainNodes) (count : ℕ) → RowIs told name bytes depth row parent ks → count ≡ length (node_pieces parent ks)
    → PartIs told name bytes row parent (record { depth = depth; low = 0; high = count; low_at = row.first; high_at = row.end }) [] (nodes_list ks) []
row-part told name bytes depth row parent ks count h e =
    let all : node_pieces parent ks ≡ pieces_of parent ([] ++ (nodes_list ks ++ [])) = pieces-list parent ks ∙ ap (pieces_of parent) (sym (append-nil (nodes_list ks))) in
    let size : row.end ≡ row.first + length (flat_map (λ (p : Piece). piece_bytes p) (pieces_of parent (nodes_list ks))) =
    h.stands.end ∙ ap (λ (ps : List Piece). row.first + length (flat_map piece_bytes ps)) (pieces-list parent ks) in
    record {
      size = h.size;
      tells = h.tells;
      stands = subst (RowLaid bytes row) all h.stands;
      dir = subst (λ (ps : List Piece). IsDir (dir_of ps)) all (end-dir (node_pieces parent ks) h.records);
      sorted = rise-all (labels ks) (both (rise (labels ks)) (are_sorted ks) h.sorted).0;
      opens = all-opens parent (nodes_list ks) (row-records parent ks (all-front IsRec (records_of (node_pieces parent ks)) (end_rec (dir_of (node_pieces parent ks)) ∷ []) h.records));
      nested = all-nested (deepest - depth) ks h.nested;
      low = refl;
      high = omega (arith, e, pieces-count parent ks);
      low_at = omega arith;
      high_at = size;
    }

pub row-later : (told later : Option Files) (name bytes : List ℕ) (depth : ℕ) (row : PlainRow) (parent : List (ℕ × ℕ)) (ks : PlainNodes) → later ≡ told → RowIs told name bytes depth row parent ks → RowIs later name bytes depth row parent ks
row-later told later name bytes depth row parent ks e h = subst (λ (t : Option Files). RowIs t name bytes depth row parent ks) (sym e) h

-- ---- the row inside a node that is found

inside-row : (told : Option Files) (name bytes : List ℕ) (depth deeper : ℕ) (row : PlainRow) (parent : List (ℕ × ℕ)) (ks : PlainNodes) (k : PlainNode) (f : Found) → (depth < deepest → deeper ≡ depth + 1) → RowIs told name bytes depth row parent ks → AreRowsSorted (node_kids k) → Records parent k
    → IsTrue (is_nested (deepest - depth) k) → IsFound bytes parent k f → InRow told name bytes deeper f.row (set_in (stamp_view f.stamp) parent) (node_kids k)
inside-row told name bytes depth deeper row parent ks (leaf_node l s xs) f step h sorted records nested is = subst (λ (o : Option Row). InRow told name bytes deeper o (set_in (stamp_view f.stamp) parent) no_nodes) (sym is.1) refl
inside-row told name bytes depth deeper row parent ks (inner_node l s js) f step h sorted records nested is =
    subst (λ (t : Stamp). InRow told name bytes deeper f.row (set_in t parent) js) (sym is.0) (row-of f.row is.1)
  where
    row-of : (o : Option Row) → IsSomeAnd o (λ (r : Row). RowLaid bytes (row_view r) (node_pieces (set_in s parent) js)) → InRow told name bytes deeper o (set_in s parent) js
    row-of (Some r) g = record { size = h.size; tells = h.tells; stands = g; sorted = sorted; records = records.inside l s js refl; nested = kids-nested depth deeper l s js step nested }
    row-of None g = absurd g

pub found-row : (told : Option Files) (name bytes : List ℕ) (depth deeper : ℕ) (row : PlainRow) (parent : List (ℕ × ℕ)) (ks : PlainNodes) (w : PlainLabel) (k : PlainNode) (f : Found) → (depth < deepest → deeper ≡ depth + 1) → RowIs told name bytes depth row parent ks → node_with w (nodes_list ks) ≡ Some k
    → IsFound bytes parent k f → InRow told name bytes deeper f.row (set_in (stamp_view f.stamp) parent) (node_kids k)
found-row told name bytes depth deeper row parent ks w k f step h e is =
    let records = row-records parent ks (all-front IsRec (records_of (node_pieces parent ks)) (end_rec (dir_of (node_pieces parent ks)) ∷ []) h.records) in
    let has = (node_has w k (nodes_list ks) e).0 in
    inside-row told name bytes depth deeper row parent ks k f step h (kids_sorted w ks k h.sorted e) (all-has (Records parent) k (nodes_list ks) records has)
    (all-has (λ j. IsTrue (is_nested (deepest - depth) j)) k (nodes_list ks) (all-nested (deepest - depth) ks h.nested) has) is

-- the records of a node that is found
pub found-records : (told : Option Files) (name bytes : List ℕ) (depth : ℕ) (row : PlainRow) (parent : List (ℕ × ℕ)) (ks : PlainNodes) (w : PlainLabel) (k : PlainNode) → RowIs told name bytes depth row parent ks → node_with w (nodes_list ks) ≡ Some k → AllByRecursion IsRec (node_piece parent k).records
found-records told name bytes depth row parent ks w k h e =
    (all-has (Records parent) k (nodes_list ks) (row-records parent ks (all-front IsRec (records_of (node_pieces parent ks)) (end_rec (dir_of (node_pieces parent ks)) ∷ []) h.records)) (node_has w k (nodes_list ks) e).0).all

pub stored-set : (s : Stamp) (parent : List (ℕ × ℕ)) → members (set_in s parent) ≡ eff s (members parent)
stored-set None parent = refl
stored-set (Some set) parent = refl
