-- A list has at most one archive.
use Rattle.std.proofs.Common.{◌≡◌, ◌≢◌, ℕ, List, [], sym, subst, ◌∙◌, inl, inr}
use Rattle.std.specs.List.{AllByRecursion}
use Rattle.std.proofs.lemmas.Cmp.{nat_cmp_total}
use Rattle.keyed_tree.specs.Data.{PlainKey, PlainLabel, PlainKeyed}
use Rattle.keyed_tree.specs.Laws.{label_cmp_total}
use Rattle.keyed_tree.specs.Lists.{Has}
use Rattle.jsonml_tree.proofs.Lists.{all_has, source, same_items}
use Rattle.archive_tree.specs.Data.{PlainAlt, PlainNode, inner_node, leaf_node, PlainNodes, no_nodes, node, node_label, nodes_list, PlainArchive}
use Rattle.archive_tree.specs.Stands.{Stamped, nums, nums_with, first_num, under, bodies, RowStands, AltStands, StandsFor, EachStands, ArchiveOf}
use Rattle.archive_tree.proofs.Parts.{nodes_list-injective, each_has, stands_some, same_label, one_kind, same_stamp}

-- a is the only node that stands for a list for which it stands
abbrev pub IsOnly : PlainNode → Type 0
IsOnly a = (b : PlainNode) (ws : List (ℕ × PlainKeyed)) (ps : List ℕ) → StandsFor a ws ps → StandsFor b ws ps → a ≡ b

abbrev pub Row : PlainNodes → (PlainLabel → List (ℕ × PlainKeyed)) → List ℕ → Type 0
Row ks u ns = RowStands ks u (EachStands ks u ns)

module _ (u : PlainLabel → List (ℕ × PlainKeyed)) (ns : List ℕ) where
  -- a kid of the one row is one of the other
  there : (ks js : PlainNodes) → ((k : PlainNode) → Has k (nodes_list ks) → IsOnly k) → Row ks u ns → Row js u ns → (k : PlainNode) → Has k (nodes_list ks) → Has k (nodes_list js)
  there ks js only h g k m =
      let stands = each_has ks u ns k h.kids m in
      let found = source node_label (node_label k) (nodes_list js) (g.covered (node_label k) (stands_some k (u (node_label k)) ns stands)) in
      let also = each_has js u ns found.item g.kids found.has in
      let alike : k ≡ found.item = only k m found.item (u (node_label k)) ns stands (subst (λ l. StandsFor found.item (u l) ns) found.is also) in
      subst (λ z. Has z (nodes_list js)) (sym alike) found.has

  back : (ks js : PlainNodes) → ((k : PlainNode) → Has k (nodes_list ks) → IsOnly k) → Row ks u ns → Row js u ns → (j : PlainNode) → Has j (nodes_list js) → Has j (nodes_list ks)
  back ks js only h g j m =
      let stands = each_has js u ns j g.kids m in
      let found = source node_label (node_label j) (nodes_list ks) (h.covered (node_label j) (stands_some j (u (node_label j)) ns stands)) in
      let also = each_has ks u ns found.item h.kids found.has in
      let alike : found.item ≡ j = only found.item found.has j (u (node_label j)) ns (subst (λ l. StandsFor found.item (u l) ns) found.is also) stands in
      subst (λ z. Has z (nodes_list ks)) alike found.has

  pub one_row : (ks js : PlainNodes) → ((k : PlainNode) → Has k (nodes_list ks) → IsOnly k) → Row ks u ns → Row js u ns → ks ≡ js
  one_row ks js only h g = nodes_list-injective ks js (same_items node_label label_cmp_total (nodes_list ks) (nodes_list js) h.ascending g.ascending (there ks js only h g) (back ks js only h g))

module _ (ws : List (ℕ × PlainKeyed)) where
  abbrev Alts : List PlainAlt → Type 0
  Alts xs = AllByRecursion (λ a. AltStands a ws) xs

  alt_there : (xs ys : List PlainAlt) → Alts xs → Alts ys → ((b : PlainKey) → nums_with ws b ≢ [] → Has b (bodies ys)) → (x : PlainAlt) → Has x xs → Has x ys
  alt_there xs ys h g covered x m =
      let stands = all_has (λ a. AltStands a ws) xs x h m in
      let found = source (λ (a : PlainAlt). a.body) x.body ys (covered x.body stands.some) in
      let also = all_has (λ a. AltStands a ws) ys found.item g found.has in
      let stamp : x.stamp ≡ found.item.stamp = same_stamp x.stamp found.item.stamp (nums_with ws x.body) (nums ws) stands.stamped (subst (λ b. Stamped found.item.stamp (nums_with ws b) (nums ws)) found.is also.stamped) in
      let alike : x ≡ found.item = (λ i. record { stamp = stamp i; body = sym found.is i }) in
      subst (λ z. Has z ys) (sym alike) found.has

same_inner : (l m : PlainLabel) (s t : _) (ks js : PlainNodes) → l ≡ m → s ≡ t → ks ≡ js → inner_node l s ks ≡ inner_node m t js
same_inner l m s t ks js e f g = cc

same_leaf : (l m : PlainLabel) (s t : _) (xs ys : List PlainAlt) → l ≡ m → s ≡ t → xs ≡ ys → leaf_node l s xs ≡ leaf_node m t ys
same_leaf l m s t xs ys e f g = cc

mutual
  pub one_node : (a : PlainNode) → IsOnly a
  one_node (inner_node l s ks) (inner_node m t js) ws ps h g =
      same_inner l m s t ks js
      (same_label l m ws h.common.some h.common.labelled g.common.labelled)
      (same_stamp s t (nums ws) ps h.common.stamped g.common.stamped)
      (one_row (under ws) (nums ws) ks js (one_each ks) h.row g.row)
  one_node (inner_node l s ks) (leaf_node m t ys) ws ps h g = absurd (one_kind ws h.common.some h.inners g.leaves)
  one_node (leaf_node l s xs) (inner_node m t js) ws ps h g = absurd (one_kind ws h.common.some g.inners h.leaves)
  one_node (leaf_node l s xs) (leaf_node m t ys) ws ps h g =
      same_leaf l m s t xs ys
      (same_label l m ws h.common.some h.common.labelled g.common.labelled)
      (same_stamp s t (nums ws) ps h.common.stamped g.common.stamped)
      (same_items (first_num (nums ws)) nat_cmp_total xs ys h.in_order g.in_order (alt_there ws xs ys h.alts g.alts g.covered) (alt_there ws ys xs g.alts h.alts h.covered))

  pub one_each : (ks : PlainNodes) (k : PlainNode) → Has k (nodes_list ks) → IsOnly k
  one_each no_nodes k m = absurd m
  one_each (node j ks) k m = elim m [ inl e ↦ subst IsOnly e (one_node j) | inr n ↦ one_each ks k n ]

pub one_archive : (vs : List PlainKeyed) (a b : PlainArchive) → ArchiveOf vs a → ArchiveOf vs b → a ≡ b
one_archive vs a b h g =
    let counts : a.n ≡ b.n = sym h.count ∙ g.count in
    let rows : a.kids ≡ b.kids = one_row _ _ a.kids b.kids (one_each a.kids) h.row g.row in
    λ i. record { n = counts i; kids = rows i }
