-- Which archives have a file, as far as the records of their nodes go.
use Rattle.std.proofs.Common.{◌≡◌, ℕ, ◌^◌, ◌<◌, ◌≤◌, ◌&&◌, IsTrue, List, [], ◌∷◌, ◌++◌, map, length, refl, ap, ◌∙◌, arith}
use Rattle.std.specs.List.{flat_map, AllByRecursion}
use Rattle.std.proofs.lemmas.List.{length-append}
use Rattle.key_spec.specs.Data.{PlainRule}
use Rattle.key_spec.specs.Canonical.{canonical}
use Rattle.keyed_tree.proofs.Kids.{both}
use Rattle.archive_tree.specs.Data.{PlainAlt, PlainNode, inner_node, leaf_node, PlainNodes, no_nodes, node, nodes_list, PlainArchive}
use Rattle.version_set.specs.Members.{upto_pairs}
use Rattle.record_format.specs.Data.{inner_rec, leaf_rec, end_rec, leaf_end}
use Rattle.record_format.specs.Spelling.{rec_bytes}
use Rattle.record_parts.specs.Bounds.{most, IsSet}
use Rattle.record_format.specs.Bounds.{IsDir, IsRec}
use Rattle.record_format.specs.Nodes.{Piece, piece_bytes, entries_from, dir_of, closed_by_end, alt_of, set_in, node_piece, node_pieces}
use Rattle.record_format.specs.Files.{root_pieces, file_records, tail_bytes, header_bytes, file_bytes, longest, HasFile}
pub use Rattle.record_format.proofs.Pieces.{all-append, all-front, all-back, records_of, one-record, closed-bytes, rec-length, entries-more, entries-length, pieces-length, Fine, closed-fits, set-in, upto-set}
use Rattle.archive_tree.specs.View.{node_view, nodes_view}
use Rattle.archive_tree.specs.declared.node.ANode.{ANode}
use Rattle.record_parts.specs.Checks.{value_fits, label_fits, stamp_fits}
use Rattle.record_parts.specs.Encodable.{label_there, label_back, value_there, value_back}
use Rattle.record_parts.specs.Sets.{stamp_there, stamp_back}
use Rattle.archive_file.specs.Goes.{fits_four, alts_go, node_goes, nodes_go, row_goes, HasBody, HasParts, HaveParts}
use Rattle.archive_file.proofs.GoesLaws.{both-hold, lt-of, of-lt}

alts-fit : (xs : List PlainAlt) → IsTrue (alts_go xs) → length (flat_map rec_bytes (map alt_of xs ++ leaf_end ∷ [])) < 2 ^ 64 → AllByRecursion IsRec (map alt_of xs ++ leaf_end ∷ [])
alts-fit [] h g = (record { body = tt; short = omega arith }, tt)
alts-fit (x ∷ xs) h g =
    let one = both (stamp_fits x.stamp) (value_fits x.body && alts_go xs) h in
    let two = both (value_fits x.body) (alts_go xs) one.1 in
    let whole = length-append (rec_bytes (alt_of x)) (flat_map rec_bytes (map alt_of xs ++ leaf_end ∷ [])) in
    let first = rec-length (alt_of x) in
    (record { body = (stamp_there x.stamp one.0, value_there x.body two.0); short = omega arith }, alts-fit xs two.1 (omega arith))

mutual
  node-fine : (parent : List (ℕ × ℕ)) (k : PlainNode) → IsSet parent → IsTrue (node_goes k) → length (piece_bytes (node_piece parent k)) < 2 ^ 64 → Fine (node_piece parent k)
  node-fine parent (leaf_node l s xs) set h g =
      let one = both (label_fits l) (stamp_fits s && alts_go xs) h in
      let two = both (stamp_fits s) (alts_go xs) one.1 in
      let stamp = stamp_there s two.0 in
      let whole = length-append (rec_bytes (leaf_rec l s)) (flat_map rec_bytes (map alt_of xs ++ leaf_end ∷ [])) in
      let first = rec-length (leaf_rec l s) in
      record {
        recs = (record { body = (label_there l one.0, stamp); short = omega arith }, alts-fit xs two.1 (omega arith));
        dir = omega arith;
        set = set-in s parent stamp set;
      }
  node-fine parent (inner_node l s ks) set h g =
      let one = both (label_fits l) (stamp_fits s && (fits_four (length (nodes_list ks)) && nodes_go ks)) h in
      let two = both (stamp_fits s) (fits_four (length (nodes_list ks)) && nodes_go ks) one.1 in
      let three = both (fits_four (length (nodes_list ks))) (nodes_go ks) two.1 in
      let stamp = stamp_there s two.0 in
      let own = set-in s parent stamp set in
      let ps = node_pieces (set_in s parent) ks in
      let end = end_rec (dir_of ps) in
      let whole = length-append (rec_bytes (inner_rec l s)) (flat_map rec_bytes (closed_by_end ps)) in
      let first = rec-length (inner_rec l s) in
      let row = ap length (closed-bytes ps) ∙ length-append (flat_map piece_bytes ps) (rec_bytes end) in
      let last = rec-length end in
      let count = pieces-length (set_in s parent) ks in
      let few = lt-of (length (nodes_list ks)) (2 ^ 32) three.0 in
      let fine = nodes-fine (set_in s parent) ks own three.1 (omega arith) in
      record {
        recs = (record { body = (label_there l one.0, stamp); short = omega arith }, closed-fits ps fine (omega arith) (omega arith));
        dir = omega arith;
        set = own;
      }

  nodes-fine : (parent : List (ℕ × ℕ)) (ks : PlainNodes) → IsSet parent → IsTrue (nodes_go ks) → length (flat_map piece_bytes (node_pieces parent ks)) < 2 ^ 64 → AllByRecursion Fine (node_pieces parent ks)
  nodes-fine parent no_nodes set h g = tt
  nodes-fine parent (node k ks) set h g =
      let two = both (node_goes k) (nodes_go ks) h in
      let whole = length-append (piece_bytes (node_piece parent k)) (flat_map piece_bytes (node_pieces parent ks)) in
      (node-fine parent k set two.0 (omega arith), nodes-fine parent ks set two.1 (omega arith))

-- ---- nodes that have records pass

alts-from : (xs : List PlainAlt) → AllByRecursion IsRec (map alt_of xs ++ leaf_end ∷ []) → IsTrue (alts_go xs)
alts-from [] h = refl
alts-from (x ∷ xs) h =
    both-hold (stamp_fits x.stamp) (value_fits x.body && alts_go xs) (stamp_back x.stamp h.0.body.0)
    (both-hold (value_fits x.body) (alts_go xs) (value_back x.body h.0.body.1) (alts-from xs h.1))

pub few-from : (set : List (ℕ × ℕ)) (ks : PlainNodes) → AllByRecursion IsRec (closed_by_end (node_pieces set ks)) → IsTrue (fits_four (length (nodes_list ks)))
few-from set ks h =
    let ps = node_pieces set ks in
    let last = (all-back IsRec (records_of ps) (end_rec (dir_of ps) ∷ []) h).0 in
    let dir : IsDir (dir_of ps) = last.body in
    let few : length (entries_from 0 ps) < 2 ^ 32 = dir.few in
    let count = entries-length 0 ps in
    let same = pieces-length set ks in
    of-lt (length (nodes_list ks)) (2 ^ 32) (omega arith)

mutual
  node-from : (parent : List (ℕ × ℕ)) (k : PlainNode) → AllByRecursion IsRec ((node_piece parent k).records) → IsTrue (node_goes k)
  node-from parent (leaf_node l s xs) h =
      both-hold (label_fits l) (stamp_fits s && alts_go xs) (label_back l h.0.body.0)
      (both-hold (stamp_fits s) (alts_go xs) (stamp_back s h.0.body.1) (alts-from xs h.1))
  node-from parent (inner_node l s ks) h =
      let ps = node_pieces (set_in s parent) ks in
      let kids = all-front IsRec (records_of ps) (end_rec (dir_of ps) ∷ []) h.1 in
      both-hold (label_fits l) (stamp_fits s && (fits_four (length (nodes_list ks)) && nodes_go ks)) (label_back l h.0.body.0)
      (both-hold (stamp_fits s) (fits_four (length (nodes_list ks)) && nodes_go ks) (stamp_back s h.0.body.1)
      (both-hold (fits_four (length (nodes_list ks))) (nodes_go ks) (few-from (set_in s parent) ks h.1) (nodes-from (set_in s parent) ks kids)))

  nodes-from : (parent : List (ℕ × ℕ)) (ks : PlainNodes) → AllByRecursion IsRec (records_of (node_pieces parent ks)) → IsTrue (nodes_go ks)
  nodes-from parent no_nodes h = refl
  nodes-from parent (node k ks) h =
      let p = node_piece parent k in
      let rest = node_pieces parent ks in
      both-hold (node_goes k) (nodes_go ks) (node-from parent k (all-front IsRec p.records (records_of rest) h)) (nodes-from parent ks (all-back IsRec p.records (records_of rest) h))

pub row-from : (set : List (ℕ × ℕ)) (ks : PlainNodes) → AllByRecursion IsRec (closed_by_end (node_pieces set ks)) → IsTrue (row_goes ks)
row-from set ks h =
    let ps = node_pieces set ks in
    both-hold (fits_four (length (nodes_list ks))) (nodes_go ks) (few-from set ks h) (nodes-from set ks (all-front IsRec (records_of ps) (end_rec (dir_of ps) ∷ []) h))

-- ---- files

pub has-file : (rules : List PlainRule) (a : PlainArchive) → length (canonical rules) ≤ 1048576 → a.n ≤ most → IsTrue (row_goes a.kids) → length (file_bytes rules a) ≤ longest → HasFile rules a
has-file rules a text few goes short =
    let ps = root_pieces a in
    let end = end_rec (dir_of ps) in
    let two = both (fits_four (length (nodes_list a.kids))) (nodes_go a.kids) goes in
    let count = pieces-length (upto_pairs a.n) a.kids in
    let less = lt-of (length (nodes_list a.kids)) (2 ^ 32) two.0 in
    let whole = length-append (header_bytes rules a.n) (flat_map rec_bytes (file_records a) ++ tail_bytes a) in
    let body = length-append (flat_map rec_bytes (file_records a)) (tail_bytes a) in
    let row = ap length (closed-bytes ps) ∙ length-append (flat_map piece_bytes ps) (rec_bytes end) in
    let fine = nodes-fine (upto_pairs a.n) a.kids (upto-set a.n few) two.1 (omega arith) in
    record { text = omega arith; count = few; records = closed-fits ps fine (omega arith) (omega arith); short = short }

pub file-goes : (rules : List PlainRule) (a : PlainArchive) → HasFile rules a → IsTrue (row_goes a.kids)
file-goes rules a h = row-from (upto_pairs a.n) a.kids h.records

-- the pieces of nodes of the program
pub pieces-map : (set : List (ℕ × ℕ)) (xs : List ANode) → node_pieces set (nodes_view xs) ≡ map (λ (k : ANode). node_piece set (node_view k)) xs
pieces-map set [] = refl
pieces-map set (x ∷ xs) = ap (λ (ps : List Piece). node_piece set (node_view x) ∷ ps) (pieces-map set xs)

-- ---- what is needed to write nodes that pass

bodies-go : (xs : List PlainAlt) → IsTrue (alts_go xs) → AllByRecursion HasBody xs
bodies-go [] h = tt
bodies-go (x ∷ xs) h =
    let one = both (stamp_fits x.stamp) (value_fits x.body && alts_go xs) h in
    let two = both (value_fits x.body) (alts_go xs) one.1 in
    (value_there x.body two.0, bodies-go xs two.1)

mutual
  parts-of : (k : PlainNode) → IsTrue (node_goes k) → HasParts k
  parts-of (inner_node l s ks) h =
      let one = both (label_fits l) (stamp_fits s && (fits_four (length (nodes_list ks)) && nodes_go ks)) h in
      let two = both (stamp_fits s) (fits_four (length (nodes_list ks)) && nodes_go ks) one.1 in
      let three = both (fits_four (length (nodes_list ks))) (nodes_go ks) two.1 in
      (label_there l one.0, lt-of (length (nodes_list ks)) (2 ^ 32) three.0, parts-of-each ks three.1)
  parts-of (leaf_node l s xs) h =
      let one = both (label_fits l) (stamp_fits s && alts_go xs) h in
      let two = both (stamp_fits s) (alts_go xs) one.1 in
      (label_there l one.0, bodies-go xs two.1)

  parts-of-each : (ks : PlainNodes) → IsTrue (nodes_go ks) → HaveParts ks
  parts-of-each no_nodes h = tt
  parts-of-each (node k ks) h = (let two = both (node_goes k) (nodes_go ks) h in (parts-of k two.0, parts-of-each ks two.1))

pub row-parts : (ks : PlainNodes) → IsTrue (row_goes ks) → (length (nodes_list ks) < 2 ^ 32) × HaveParts ks
row-parts ks h =
    let two = both (fits_four (length (nodes_list ks))) (nodes_go ks) h in
    (lt-of (length (nodes_list ks)) (2 ^ 32) two.0, parts-of-each ks two.1)

-- ---- an END has an encoding where the nodes in front of it have theirs

pub row-closes : (set : List (ℕ × ℕ)) (ks : PlainNodes) → IsSet set → AllByRecursion IsRec (records_of (node_pieces set ks)) → length (nodes_list ks) < 2 ^ 32
    → length (flat_map rec_bytes (closed_by_end (node_pieces set ks))) < 2 ^ 64 → AllByRecursion IsRec (closed_by_end (node_pieces set ks))
row-closes set ks is records few short =
    let ps = node_pieces set ks in
    let whole = ap length (closed-bytes ps) ∙ length-append (flat_map piece_bytes ps) (rec_bytes (end_rec (dir_of ps))) in
    let count = pieces-length set ks in
    closed-fits ps (nodes-fine set ks is (nodes-from set ks records) (omega arith)) (omega arith) short
