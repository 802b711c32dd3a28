-- What a version adds to an archive is as well formed as both.
use Rattle.std.proofs.Common.{◌≡◌, ℕ, true, false, cond, IsTrue, List, [], ◌∷◌, ◌++◌, map, Some, None, refl, subst, inl, inr}
use Rattle.std.proofs.lemmas.Bool.{and_from}
use Rattle.std.specs.Option.{unwrap_or}
use Rattle.std.specs.Ordering.{is_eq}
use Rattle.keyed_tree.specs.Data.{PlainKey, PlainKeyed, inner, leaf, PlainKids, no_kids, kid, kids_list}
use Rattle.keyed_tree.specs.Kids.{kid_at}
use Rattle.keyed_tree.specs.Lists.{Has}
use Rattle.keyed_tree.specs.Order.{key_cmp}
use Rattle.keyed_tree.specs.WellFormed.{is_key_well_formed, is_label_well_formed, is_keyed_well_formed, are_kids_well_formed, IsKeyWellFormed, IsKeyedWellFormed}
use Rattle.keyed_tree.proofs.Kids.{both, has_found}
use Rattle.keyed_tree.proofs.KidsKeep.{kid_well_formed}
use Rattle.archive_tree.specs.Data.{Stamp, PlainAlt, PlainNode, inner_node, leaf_node, PlainNodes, no_nodes, node, node_label, PlainArchive}
use Rattle.archive_tree.specs.WellFormed.{are_alts_well_formed, is_node_well_formed, are_nodes_well_formed, IsNodeWellFormed, AreNodesWellFormed}
use Rattle.nested_merge.specs.Merged.{grown, kept, started, vanished, fresh, fresh_row, fresh_onto, below, above, turn, merged_alt, merged_alts, has_alt, merged, merged_row, with_version}
use Rattle.nested_merge.proofs.Weave.{has_above, has_below}

mutual
  fresh_well : (s : Stamp) (k : PlainKeyed) → IsKeyedWellFormed k → IsNodeWellFormed (fresh s k)
  fresh_well s (inner l ks) h = (let two = both (is_label_well_formed l) (are_kids_well_formed ks) h in and_from _ _ two.0 (fresh_row_well ks two.1))
  fresh_well s (leaf l b) h = (let two = both (is_label_well_formed l) (is_key_well_formed b) h in and_from _ _ two.0 (and_from _ _ two.1 refl))

  fresh_row_well : (ks : PlainKids) → IsTrue (are_kids_well_formed ks) → AreNodesWellFormed (fresh_row ks)
  fresh_row_well no_kids h = refl
  fresh_row_well (kid k ks) h = (let two = both (is_keyed_well_formed k) (are_kids_well_formed ks) h in and_from _ _ (fresh_well None k two.0) (fresh_row_well ks two.1))

abbrev AllWell : List PlainKeyed → Type 0
AllWell cs = (c : PlainKeyed) → Has c cs → IsKeyedWellFormed c

onto_well : (s : Stamp) (cs : List PlainKeyed) (r : PlainNodes) → AllWell cs → AreNodesWellFormed r → AreNodesWellFormed (fresh_onto s cs r)
onto_well s [] r h g = g
onto_well s (c ∷ cs) r h g = and_from _ _ (fresh_well s c (h c (inl refl))) (onto_well s cs r (λ d m. h d (inr m)) g)

vanished_well : (q : List (ℕ × ℕ)) (a : PlainNode) → IsNodeWellFormed a → IsNodeWellFormed (vanished q a)
vanished_well q (inner_node l s ks) h = h
vanished_well q (leaf_node l s xs) h = h

alts_append : (xs ys : List PlainAlt) → IsTrue (are_alts_well_formed xs) → IsTrue (are_alts_well_formed ys) → IsTrue (are_alts_well_formed (xs ++ ys))
alts_append [] ys h g = g
alts_append (x ∷ xs) ys h g = (let two = both (is_key_well_formed x.body) (are_alts_well_formed xs) h in and_from _ _ two.0 (alts_append xs ys two.1 g))

module _ (n : ℕ) (q : List (ℕ × ℕ)) (b : PlainKey) (w : IsKeyWellFormed b) where
  alt_well : (x : PlainAlt) → IsKeyWellFormed x.body → IsKeyWellFormed (merged_alt n q b x).body
  alt_well x h = elim (is_eq (key_cmp x.body b)) as (λ t. IsKeyWellFormed (cond {A = PlainAlt} t (record { stamp = grown n x.stamp; body = x.body }) (record { stamp = kept q x.stamp; body = x.body })).body) [ true ↦ h | false ↦ h ]

  map_well : (xs : List PlainAlt) → IsTrue (are_alts_well_formed xs) → IsTrue (are_alts_well_formed (map (merged_alt n q b) xs))
  map_well [] h = refl
  map_well (x ∷ xs) h = (let two = both (is_key_well_formed x.body) (are_alts_well_formed xs) h in and_from _ _ (alt_well x two.0) (map_well xs two.1))

  alts_well : (xs : List PlainAlt) → IsTrue (are_alts_well_formed xs) → IsTrue (are_alts_well_formed (merged_alts n q b xs))
  alts_well xs h =
      let new : List PlainAlt = record { stamp = Some ((n, n) ∷ []); body = b } ∷ [] in
      let added : IsTrue (are_alts_well_formed (cond (has_alt b xs) [] new)) = elim (has_alt b xs) as (λ t. IsTrue (are_alts_well_formed (cond t [] new))) [ true ↦ refl | false ↦ and_from _ _ w refl ] in
      alts_append (map (merged_alt n q b) xs) (cond (has_alt b xs) [] new) (map_well xs h) added

mutual
  merged_well : (n : ℕ) (q : List (ℕ × ℕ)) (a : PlainNode) (c : PlainKeyed) → IsNodeWellFormed a → IsKeyedWellFormed c → IsNodeWellFormed (merged n q a c)
  merged_well n q (inner_node l s ks) (inner m cs) h g =
      let two = both (is_label_well_formed l) (are_nodes_well_formed ks) h in
      and_from _ _ two.0 (row_well n (unwrap_or s q) ks (kids_list cs) two.1 (λ c i. kid_well_formed (inner m cs) c g i))
  merged_well n q (inner_node l s ks) (leaf m b) h g = h
  merged_well n q (leaf_node l s xs) (inner m cs) h g = h
  merged_well n q (leaf_node l s xs) (leaf m b) h g =
      let two = both (is_label_well_formed l) (are_alts_well_formed xs) h in
      let body = both (is_label_well_formed m) (is_key_well_formed b) g in
      and_from _ _ two.0 (alts_well n (unwrap_or s q) b body.1 xs two.1)

  row_well : (n : ℕ) (q : List (ℕ × ℕ)) (ks : PlainNodes) (cs : List PlainKeyed) → AreNodesWellFormed ks → AllWell cs → AreNodesWellFormed (merged_row n q ks cs)
  row_well n q no_nodes cs h g = onto_well (started n q) cs no_nodes g refl
  row_well n q (node k ks) cs h g =
      let two = both (is_node_well_formed k) (are_nodes_well_formed ks) h in
      let m = node_label k in
      let here : IsNodeWellFormed (turn (vanished q k) (λ c. merged n q k c) (kid_at m cs)) = elim (kid_at m cs) as (λ o. kid_at m cs ≡ o → IsNodeWellFormed (turn (vanished q k) (λ c. merged n q k c) o)) [
        | None ↦ λ e. vanished_well q k two.0
        | Some c ↦ λ e. merged_well n q k c two.0 (g c (has_found m c cs e).0)
      ] refl in
      onto_well (started n q) (below m cs) _ (λ c i. g c (has_below m c cs i)) (and_from _ _ here (row_well n q ks (above m cs) two.1 (λ c i. g c (has_above m c cs i))))

pub version_well : (a : PlainArchive) (k : PlainKeyed) → AreNodesWellFormed a.kids → IsKeyedWellFormed k → AreNodesWellFormed (with_version a k).kids
version_well a k h g = row_well _ _ a.kids (k ∷ []) h (λ c m. elim m [ inl e ↦ subst IsKeyedWellFormed e g | inr x ↦ absurd x ])
