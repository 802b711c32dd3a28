-- No element of a version of a sound archive has too many items.
use Rattle.std.proofs.Common.{ℕ, ◌≤◌, ◌<◌, ◌^◌, Bool, true, false, cond, leb, IsTrue, List, [], ◌∷◌, ◌++◌, map, length, refl, subst, inl, inr, ◌+◌, arith}
use Rattle.std.specs.List.{AllByRecursion}
use Rattle.std.proofs.lemmas.Bool.Decides.{nat_tests}
use Rattle.jsonml_tree.specs.Data.{PlainTree, text, element, PlainContent, content, PlainTrees, no_trees, tree, list_of}
use Rattle.jsonml_tree.specs.Fits.{items_fit, content_items_fit, all_items_fit, ItemsFit}
use Rattle.key_spec.specs.Data.{PlainRule}
use Rattle.keyed_tree.specs.Data.{PlainName, attr, tag, PlainKey, scalar, inside, PlainKeyed, kid, label_of}
use Rattle.keyed_tree.specs.Lists.{Has}
use Rattle.keyed_tree.specs.Plain.{content_of, item_onto, plain, items_among}
use Rattle.jsonml_tree.proofs.Lists.{has_all}
use Rattle.version_set.specs.Members.{has, upto_pairs}
use Rattle.archive_tree.specs.Data.{eff, PlainAlt, PlainNode, inner_node, leaf_node, PlainNodes, no_nodes, node, node_stamp, nodes_list}
use Rattle.archive_tree.specs.Read.{body_at, read, read_row}
use Rattle.record_format.specs.Data.{end_rec, leaf_end}
use Rattle.record_format.specs.Bounds.{IsRec}
use Rattle.record_parts.specs.Bounds.{IsItem, IsInside, AreItems, IsValue}
use Rattle.record_format.specs.Nodes.{dir_of, alt_of, set_in, node_piece, node_pieces}
use Rattle.archive_file.specs.Sound.{SoundAs}
use Rattle.archive_file.proofs.ArchiveKeyed.{read-of}
use Rattle.archive_file.proofs.FileLaws.{all-front, all-back, records_of, few-from}
use Rattle.archive_file.proofs.GoesLaws.{both-hold, lt-of}

few : (n : ℕ) → n < 2 ^ 32 → IsTrue (leb n 4294967295)
few n h = (let le : n ≤ 4294967295 = omega arith in grind (arith, nat_tests))

mutual
  item-few : (t : PlainTree) → IsItem t → IsTrue (items_fit t)
  item-few (text s) h = refl
  item-few (element t c) h = content-few c h.1

  content-few : (c : PlainContent) → IsInside c → IsTrue (content_items_fit c)
  content-few (content xs ts) h = both-hold (leb (length (list_of ts)) 4294967295) (all_items_fit ts) (few (length (list_of ts)) h.1) (items-few ts h.2)

  items-few : (ts : PlainTrees) → AreItems ts → IsTrue (all_items_fit ts)
  items-few no_trees h = refl
  items-few (tree t ts) h = both-hold (items_fit t) (all_items_fit ts) (item-few t h.0) (items-few ts h.1)

value-few : (v : PlainKey) → IsValue v → IsTrue (content_items_fit (content_of v))
value-few (scalar s) h = refl
value-few (inside c) h = content-few c h.inside

body-few : (n : ℕ) (ns : List ℕ) (xs : List PlainAlt) → AllByRecursion IsRec (map alt_of xs ++ leaf_end ∷ []) → IsTrue (content_items_fit (content_of (body_at n ns xs)))
body-few n ns [] h = refl
body-few n ns (x ∷ xs) h =
    let mine = value-few x.body h.0.body.1 in
    let rest = body-few n ns xs h.1 in
    elim (has (eff x.stamp ns) n) as (λ b. IsTrue (content_items_fit (content_of (cond b x.body (body_at n ns xs))))) [ true ↦ mine | false ↦ rest ]

-- an item before others
onto-length : (name : PlainName) (t : PlainTree) (ts : PlainTrees) (m : ℕ) → length (list_of ts) ≤ m → length (list_of (item_onto name t ts)) ≤ m + 1
onto-length (attr s) t ts m h = omega arith
onto-length (tag s) t ts m h = omega arith

onto-few : (name : PlainName) (t : PlainTree) (ts : PlainTrees) → IsTrue (items_fit t) → IsTrue (all_items_fit ts) → IsTrue (all_items_fit (item_onto name t ts))
onto-few (attr s) t ts h g = g
onto-few (tag s) t ts h g = both-hold (items_fit t) (all_items_fit ts) h g

-- a row reads at most so many items
row-length : (n : ℕ) (ns : List ℕ) (ks : PlainNodes) → length (list_of (items_among (read_row n ns ks))) ≤ length (nodes_list ks)
row-length n ns no_nodes = omega arith
row-length n ns (node k ks) =
    let rest = row-length n ns ks in
    let m = length (nodes_list ks) in
    let kids = read_row n ns ks in
    let mine = onto-length (label_of (read n ns k)).name (plain (read n ns k)) (items_among kids) m rest in
    let whole = λ (b : Bool). length (list_of (items_among (cond b (kid (read n ns k) kids) kids))) ≤ m + 1 in
    let short : whole (has (eff (node_stamp k) ns) n) = elim (has (eff (node_stamp k) ns) n) as whole [ true ↦ mine | false ↦ omega arith ] in
    omega (arith, short)

mutual
  node-few : (n : ℕ) (ns : List ℕ) (parent : List (ℕ × ℕ)) (k : PlainNode) → AllByRecursion IsRec ((node_piece parent k).records) → ItemsFit (plain (read n ns k))
  node-few n ns parent (leaf_node l s xs) h = body-few n (eff s ns) xs h.1
  node-few n ns parent (inner_node l s ks) h =
      let set = set_in s parent in
      let ps = node_pieces set ks in
      let mine = eff s ns in
      let count = lt-of (length (nodes_list ks)) (2 ^ 32) (few-from set ks h.1) in
      let read_items = items_among (read_row n mine ks) in
      let short = row-length n mine ks in
      let long : length (list_of read_items) < 2 ^ 32 = omega arith in
      both-hold (leb (length (list_of read_items)) 4294967295) (all_items_fit read_items) (few (length (list_of read_items)) long) (nodes-few n mine set ks (all-front IsRec (records_of ps) (end_rec (dir_of ps) ∷ []) h.1))

  nodes-few : (n : ℕ) (ns : List ℕ) (parent : List (ℕ × ℕ)) (ks : PlainNodes) → AllByRecursion IsRec (records_of (node_pieces parent ks)) → IsTrue (all_items_fit (items_among (read_row n ns ks)))
  nodes-few n ns parent no_nodes h = refl
  nodes-few n ns parent (node k ks) h =
      let p = node_piece parent k in
      let more = records_of (node_pieces parent ks) in
      let kids = read_row n ns ks in
      let first = node-few n ns parent k (all-front IsRec p.records more h) in
      let rest = nodes-few n ns parent ks (all-back IsRec p.records more h) in
      let mine = onto-few (label_of (read n ns k)).name (plain (read n ns k)) (items_among kids) first rest in
      elim (has (eff (node_stamp k) ns) n) as (λ (b : Bool). IsTrue (all_items_fit (items_among (cond b (kid (read n ns k) kids) kids)))) [ true ↦ mine | false ↦ rest ]

-- a node among others has its records
node-among : (parent : List (ℕ × ℕ)) (ks : PlainNodes) (k : PlainNode) → AllByRecursion IsRec (records_of (node_pieces parent ks)) → Has k (nodes_list ks) → AllByRecursion IsRec ((node_piece parent k).records)
node-among parent no_nodes k h m = absurd m
node-among parent (node j ks) k h m =
    let p = node_piece parent j in
    let more = records_of (node_pieces parent ks) in
    elim m [
      | inl e ↦ subst (λ (z : PlainNode). AllByRecursion IsRec ((node_piece parent z).records)) e (all-front IsRec p.records more h)
      | inr i ↦ node-among parent ks k (all-back IsRec p.records more h) i
    ]

pub sound-few : (rules : List PlainRule) (vs : List PlainKeyed) (bytes : List ℕ) → SoundAs rules vs bytes → AllByRecursion (λ v. ItemsFit (plain v)) vs
sound-few rules vs bytes s =
    let a = s.file.archive in
    let set = upto_pairs a.n in
    let ps = node_pieces set a.kids in
    let recs = all-front IsRec (records_of ps) (end_rec (dir_of ps) ∷ []) s.file.has.records in
    has_all (λ v. ItemsFit (plain v)) vs (λ v m. (
    let r = read-of vs a s.file.is v m in
    subst (λ (k : PlainKeyed). ItemsFit (plain k)) r.gives (node-few r.number _ set r.root (node-among set a.kids r.root recs r.among))))
