-- What the file of an archive gives, node by node.
use Rattle.std.proofs.Common.{◌≡◌, ℕ, List, [], ◌∷◌, ◌++◌, map, refl, ap, ◌∙◌, append_assoc}
use Rattle.std.proofs.lemmas.List.{map-append}
use Rattle.version_set.specs.Members.{upto_pairs}
use Rattle.archive_tree.specs.Data.{PlainAlt, PlainNode, inner_node, leaf_node, PlainNodes, no_nodes, node, PlainArchive}
use Rattle.record_format.specs.Data.{end_rec, leaf_end}
use Rattle.record_format.specs.Files.{file_records}
use Rattle.record_format.specs.Nodes.{dir_of, closed_by_end, alt_of, set_in, node_piece, node_pieces}
use Rattle.record_format.proofs.Pieces.{records_of}
use Rattle.record_cursor.specs.Items.{PlainItem, inner_item, leaf_item, leaf_end_item, finish, item_of, items_of}
use Rattle.record_cursor.specs.NodeItems.{end_of, alt_items, node_items, row_items, archive_items}

items-alts : (xs : List PlainAlt) → map item_of (map alt_of xs) ≡ alt_items xs
items-alts [] = refl
items-alts (x ∷ xs) = ap (λ (is : List PlainItem). item_of (alt_of x) ∷ is) (items-alts xs)

closed : (set : List (ℕ × ℕ)) (ks : PlainNodes) → map item_of (records_of (node_pieces set ks)) ≡ row_items set ks → map item_of (closed_by_end (node_pieces set ks)) ≡ row_items set ks ++ end_of set ks ∷ []
closed set ks h =
    map-append item_of (records_of (node_pieces set ks)) (end_rec (dir_of (node_pieces set ks)) ∷ []) ∙ ap (λ (is : List PlainItem). is ++ end_of set ks ∷ []) h

mutual
  items-node : (parent : List (ℕ × ℕ)) (k : PlainNode) → map item_of ((node_piece parent k).records) ≡ node_items parent k
  items-node parent (inner_node l s ks) = ap (λ (is : List PlainItem). inner_item l s ∷ is) (closed (set_in s parent) ks (items-row (set_in s parent) ks))
  items-node parent (leaf_node l s xs) =
      ap (λ (is : List PlainItem). leaf_item l s ∷ is) (map-append item_of (map alt_of xs) (leaf_end ∷ []) ∙ ap (λ (is : List PlainItem). is ++ leaf_end_item ∷ []) (items-alts xs))

  items-row : (set : List (ℕ × ℕ)) (ks : PlainNodes) → map item_of (records_of (node_pieces set ks)) ≡ row_items set ks
  items-row set no_nodes = refl
  items-row set (node k ks) = map-append item_of ((node_piece set k).records) (records_of (node_pieces set ks)) ∙ (λ i. items-node set k i ++ items-row set ks i)

pub nodes-are : (a : PlainArchive) → map item_of (file_records a) ≡ archive_items a
nodes-are a = closed (upto_pairs a.n) a.kids (items-row (upto_pairs a.n) a.kids)

pub items-are : (a : PlainArchive) → items_of a ≡ row_items (upto_pairs a.n) a.kids ++ end_of (upto_pairs a.n) a.kids ∷ finish ∷ []
items-are a = ap (λ (is : List PlainItem). is ++ finish ∷ []) (nodes-are a) ∙ append_assoc (row_items (upto_pairs a.n) a.kids) (end_of (upto_pairs a.n) a.kids ∷ []) (finish ∷ [])
