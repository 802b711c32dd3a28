-- The view of each shape of a node, and what is read of a well formed one.
use Rattle.std.proofs.Common.{◌≡◌, ℕ, true, false, cond, IsTrue, List, [], ◌∷◌, map, Option, Vec, Global, refl, rules}
use Rattle.version_set.specs.Members.{has}
use Rattle.version_set.specs.declared.set.VersionSet.{VersionSet}
use Rattle.keyed_tree.specs.Data.{kid}
use Rattle.keyed_tree.specs.View.{label_view}
use Rattle.keyed_tree.specs.WellFormed.{is_key_well_formed, is_label_well_formed, IsKeyWellFormed, are_kids_well_formed, IsKeyedWellFormed}
use Rattle.keyed_tree.specs.declared.label.Label.{Label}
use Rattle.keyed_tree.proofs.Kids.{both, kids_from-kids_list}
use Rattle.keyed_tree.proofs.Views.{keyed_view-Inner, keyed_view-Leaf}
use Rattle.archive_tree.specs.Data.{eff, PlainAlt, PlainNode, inner_node, leaf_node, PlainNodes, no_nodes, node, node_stamp, nodes_from, node_kids}
use Rattle.archive_tree.specs.WellFormed.{are_alts_well_formed, is_node_well_formed, are_nodes_well_formed, IsNodeWellFormed, AreNodesWellFormed}
use Rattle.archive_tree.specs.Read.{body_at, read, read_row}
use Rattle.archive_tree.specs.View.{stamp_view, alt_view, node_view}
use Rattle.archive_tree.specs.declared.node.Alt.{Alt}
use Rattle.archive_tree.specs.declared.node.ANode.{ANode, Inner, Leaf, the_lemmas}
use Rattle.archive_tree.proofs.Parts.{nodes_list-nodes_from}

pub node_view-Inner : (l : Label) (s : Option VersionSet) (ks : Vec ANode Global) → node_view (Inner l s ks) ≡ inner_node (label_view l) (stamp_view s) (nodes_from (map node_view ks.items))
node_view-Inner l s ks = search (rules, the_lemmas)

pub node_view-Leaf : (l : Label) (s : Option VersionSet) (xs : Vec Alt Global) → node_view (Leaf l s xs) ≡ leaf_node (label_view l) (stamp_view s) (map alt_view xs.items)
node_view-Leaf l s xs = search (rules, the_lemmas)

pub node_kids-Inner : (l : Label) (s : Option VersionSet) (ks : Vec ANode Global) → node_kids (node_view (Inner l s ks)) ≡ nodes_from (map node_view ks.items)
node_kids-Inner l s ks = search (rules, the_lemmas)

pub ruleset nodes = (node_view-Inner, node_view-Leaf, node_kids-Inner, nodes_list-nodes_from)

pub ruleset readings = (node_view-Inner, node_view-Leaf, keyed_view-Inner, keyed_view-Leaf, kids_from-kids_list)

body_well : (n : ℕ) (ns : List ℕ) (xs : List PlainAlt) → IsTrue (are_alts_well_formed xs) → IsKeyWellFormed (body_at n ns xs)
body_well n ns [] h = refl
body_well n ns (x ∷ xs) h =
    let two = both (is_key_well_formed x.body) (are_alts_well_formed xs) h in
    elim (has (eff x.stamp ns) n) as (λ b. IsKeyWellFormed (cond b x.body (body_at n ns xs))) [ true ↦ two.0 | false ↦ body_well n ns xs two.1 ]

mutual
  -- a version that is read of well formed nodes is well formed
  pub read_well : (n : ℕ) (ps : List ℕ) (k : PlainNode) → IsNodeWellFormed k → IsKeyedWellFormed (read n ps k)
  read_well n ps (inner_node l s ks) h =
      let two = both (is_label_well_formed l) (are_nodes_well_formed ks) h in
      let label = two.0 in
      rw label (read_row_well n (eff s ps) ks two.1)
  read_well n ps (leaf_node l s xs) h =
      let two = both (is_label_well_formed l) (are_alts_well_formed xs) h in
      let label = two.0 in
      rw label (body_well n (eff s ps) xs two.1)

  read_row_well : (n : ℕ) (ns : List ℕ) (ks : PlainNodes) → AreNodesWellFormed ks → IsTrue (are_kids_well_formed (read_row n ns ks))
  read_row_well n ns no_nodes h = refl
  read_row_well n ns (node k ks) h =
      let two = both (is_node_well_formed k) (are_nodes_well_formed ks) h in
      let first = read_well n ns k two.0 in
      let rest = read_row_well n ns ks two.1 in
      elim (has (eff (node_stamp k) ns) n) as (λ b. IsTrue (are_kids_well_formed (cond b (kid (read n ns k) (read_row n ns ks)) (read_row n ns ks)))) [ true ↦ rw first rest | false ↦ rest ]
