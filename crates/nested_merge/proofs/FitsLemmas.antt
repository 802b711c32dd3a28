-- A tree fits an archive where it is alike with its versions, and only there.
use Rattle.std.proofs.Common.{◌≡◌, ◌↔◌, ℕ, ◌+◌, true, IsTrue, true≢false, List, [], ◌∷◌, Some, None, IfSome, refl, ap, sym, subst, ◌∙◌, inl, inr}
use Rattle.std.proofs.lemmas.Bool.{and_from}
use Rattle.std.proofs.Math.Bool.{Bool-set}
use Rattle.std.proofs.Math.Logic.{∥∥₁_elim}
use Rattle.std.specs.List.{enumerate_from}
use Rattle.std.specs.Option.{option_and_then}
use Rattle.std.specs.Ordering.{is_eq}
use Rattle.keyed_tree.specs.Alike.{IsInner, IsLeaf}
use Rattle.keyed_tree.specs.Data.{PlainLabel, PlainKeyed, inner, leaf, label_of, kids_of, kids_list}
use Rattle.keyed_tree.specs.Kids.{kid_at}
use Rattle.keyed_tree.specs.Laws.{label_cmp-is_eq}
use Rattle.keyed_tree.specs.Lists.{Has}
use Rattle.keyed_tree.specs.Order.{label_cmp}
use Rattle.keyed_tree.specs.Paths.{node_at}
use Rattle.keyed_tree.proofs.Kids.{both}
use Rattle.jsonml_tree.proofs.Lists.{all_has, source}
use Rattle.archive_tree.specs.Data.{PlainNode, inner_node, leaf_node, PlainNodes, no_nodes, node, node_label, nodes_list, PlainArchive}
use Rattle.archive_tree.specs.Stands.{nums, under, rooted, numbered, StandsFor, ArchiveOf, Kept}
use Rattle.archive_tree.proofs.Parts.{each_has, not_both_kinds}
use Rattle.archive_tree.proofs.Those.{has_those, has_rooted}
use Rattle.archive_tree.proofs.Readings.{some_has}
use Rattle.nested_merge.specs.Alike.{AlikeAll}
use Rattle.nested_merge.specs.Fits.{if_there, fits, all_fit}
use Rattle.nested_merge.proofs.Grown.{Fits, EachFits}
use Rattle.nested_merge.proofs.Alikes.{AlikeBelow}
use Rattle.nested_merge.proofs.ArchiveGrows.{root_fits}

-- ---- the test, and what it tells

mutual
  to_test : (a : PlainNode) (c : PlainKeyed) → Fits a c → IsTrue (fits a c)
  to_test (inner_node l s ks) (inner m cs) h = all_to_test ks (kids_list cs) h
  to_test (inner_node l s ks) (leaf m b) h = absurd h
  to_test (leaf_node l s xs) (inner m cs) h = absurd h
  to_test (leaf_node l s xs) (leaf m b) h = refl

  all_to_test : (ks : PlainNodes) (cs : List PlainKeyed) → EachFits ks cs → IsTrue (all_fit ks cs)
  all_to_test no_nodes cs h = refl
  all_to_test (node k ks) cs h =
      let here : IsTrue (if_there (kid_at (node_label k) cs) (λ c. fits k c)) = elim (kid_at (node_label k) cs) as (λ o. IfSome o (λ c. Fits k c) → IsTrue (if_there o (λ c. fits k c))) [ None ↦ λ g. refl | Some c ↦ λ g. to_test k c g ] h.0 in
      and_from _ _ here (all_to_test ks cs h.1)

mutual
  from_test : (a : PlainNode) (c : PlainKeyed) → IsTrue (fits a c) → Fits a c
  from_test (inner_node l s ks) (inner m cs) h = all_from_test ks (kids_list cs) h
  from_test (inner_node l s ks) (leaf m b) h = absurd (true≢false (sym h))
  from_test (leaf_node l s xs) (inner m cs) h = absurd (true≢false (sym h))
  from_test (leaf_node l s xs) (leaf m b) h = tt

  all_from_test : (ks : PlainNodes) (cs : List PlainKeyed) → IsTrue (all_fit ks cs) → EachFits ks cs
  all_from_test no_nodes cs h = tt
  all_from_test (node k ks) cs h =
      let two = both (if_there (kid_at (node_label k) cs) (λ c. fits k c)) (all_fit ks cs) h in
      (elim (kid_at (node_label k) cs) as (λ o. IsTrue (if_there o (λ c. fits k c)) → IfSome o (λ c. Fits k c)) [ None ↦ λ g. tt | Some c ↦ λ g. from_test k c g ] two.0, all_from_test ks cs two.1)

fits_has : (ks : PlainNodes) (k : PlainNode) (cs : List PlainKeyed) → EachFits ks cs → Has k (nodes_list ks) → IfSome (kid_at (node_label k) cs) (λ c. Fits k c)
fits_has no_nodes k cs h m = absurd m
fits_has (node j ks) k cs h m = elim m [ inl e ↦ subst (λ z. IfSome (kid_at (node_label z) cs) (λ c. Fits z c)) e h.0 | inr i ↦ fits_has ks k cs h.1 i ]

-- ---- a tree that fits a node is alike with its versions

record Step (l : PlainLabel) (p : List PlainLabel) (t x : PlainKeyed) : Type 0 where
  kid : PlainKeyed
  first : kid_at l (kids_of t) ≡ Some kid
  rest : node_at p kid ≡ Some x

none_some : (x : PlainKeyed) → ¬ (None ≡ Some x)
none_some x e = cc

same_some : (a b : PlainKeyed) → Some a ≡ Some b → a ≡ b
same_some a b e = cc

a_step : (l : PlainLabel) (p : List PlainLabel) (t x : PlainKeyed) → node_at (l ∷ p) t ≡ Some x → Step l p t x
a_step l p t x e =
    elim (kid_at l (kids_of t)) as (λ o. kid_at l (kids_of t) ≡ o → option_and_then (node_at p) o ≡ Some x → Step l p t x) [
      | None ↦ λ d g. absurd (none_some x g)
      | Some k ↦ λ d g. record { kid = k; first = d; rest = g }
    ] refl e

no_step : (l : PlainLabel) (p : List PlainLabel) (t x : PlainKeyed) → IsLeaf t → ¬ (node_at (l ∷ p) t ≡ Some x)
no_step l p (inner m ks) x h e = h
no_step l p (leaf m b) x h e = none_some x e

abbrev Follows : PlainNode → Type 0
Follows a = (ws : List (ℕ × PlainKeyed)) (ps : List ℕ) (c : PlainKeyed) → StandsFor a ws ps → Fits a c → (n : ℕ) (t : PlainKeyed) → Has (n, t) ws → AlikeBelow t c

mutual
  follows : (a : PlainNode) → Follows a
  follows (inner_node l s ks) ws ps (leaf m b) h f n t i p x y e g = absurd f
  follows (inner_node l s ks) ws ps (inner m cs) h f n t i [] x y e g =
      (λ z. subst IsInner (same_some (inner m cs) y g) tt, λ z. subst IsInner (same_some t x e) (all_has (λ w. IsInner w.1) ws (n, t) h.inners i))
  follows (inner_node l s ks) ws ps (inner m cs) h f n t i (o ∷ p) x y e g =
      let one = a_step o p t x e in
      let two = a_step o p (inner m cs) y g in
      let left = has_those (λ k. kid_at o (kids_of k)) n t one.kid ws i one.first in
      let found = source node_label o (nodes_list ks) (h.row.covered o (some_has (under ws o) (n, one.kid) left)) in
      let stands : StandsFor found.item (under ws o) (nums ws) = subst (λ z. StandsFor found.item (under ws z) (nums ws)) found.is (each_has ks (under ws) (nums ws) found.item h.row.kids found.has) in
      let fit : Fits found.item two.kid = subst (λ z. IfSome z (λ c. Fits found.item c)) (ap (λ z. kid_at z (kids_list cs)) found.is ∙ two.first) (fits_has ks found.item (kids_list cs) f found.has) in
      each_follows ks found.item found.has (under ws o) (nums ws) two.kid stands fit n one.kid left p x y one.rest two.rest
  follows (leaf_node l s xs) ws ps (inner m cs) h f n t i p x y e g = absurd f
  follows (leaf_node l s xs) ws ps (leaf m b) h f n t i [] x y e g =
      (λ z. absurd (not_both_kinds x z (subst IsLeaf (same_some t x e) (all_has (λ w. IsLeaf w.1) ws (n, t) h.leaves i))), λ z. absurd (not_both_kinds y z (subst IsLeaf (same_some (leaf m b) y g) tt)))
  follows (leaf_node l s xs) ws ps (leaf m b) h f n t i (o ∷ p) x y e g = absurd (no_step o p t x (all_has (λ w. IsLeaf w.1) ws (n, t) h.leaves i) e)

  each_follows : (ks : PlainNodes) (k : PlainNode) → Has k (nodes_list ks) → Follows k
  each_follows no_nodes k m = absurd m
  each_follows (node j ks) k m = elim m [ inl e ↦ subst Follows e (follows j) | inr i ↦ each_follows ks k i ]

-- ---- the root

record Place (v : PlainKeyed) (n : ℕ) (vs : List PlainKeyed) : Type 0 where
  number : ℕ
  has : Has (number, v) (enumerate_from n vs)

later : (v w : PlainKeyed) (n : ℕ) (vs : List PlainKeyed) → Place v (n + 1) vs → Place v n (w ∷ vs)
later v w n vs p = record { number = p.number; has = inr p.has }

place : (v : PlainKeyed) (n : ℕ) (vs : List PlainKeyed) → Has v vs → Place v n vs
place v n [] m = absurd m
place v n (w ∷ vs) m = elim m [
  | inl e ↦ record { number = n; has = inl (λ i. (n, e i)) }
  | inr i ↦ later v w n vs (place v (n + 1) vs i)
]

root_found : (k : PlainKeyed) (l : PlainLabel) → label_of k ≡ l → kid_at l (k ∷ []) ≡ Some k
root_found k l e = (let d : is_eq (label_cmp (label_of k) l) ≡ true = (label_cmp-is_eq (label_of k) l).1 e in rw d refl)

module _ (a : PlainArchive) (k : PlainKeyed) where
  root_follows : (vs : List PlainKeyed) → ArchiveOf vs a → EachFits a.kids (k ∷ []) → AlikeAll vs k
  root_follows vs h f v m [] x y b d = absurd b
  root_follows vs h f v m (l ∷ p) x y b d =
      let spot = place v 1 vs m in
      let pair : Has (spot.number, v) (rooted (numbered vs) l) = subst (λ z. Has (spot.number, v) (rooted (numbered vs) z)) b.0 (has_rooted spot.number v (numbered vs) spot.has) in
      let found = source node_label l (nodes_list a.kids) (h.row.covered l (some_has (rooted (numbered vs) l) (spot.number, v) pair)) in
      let stands : StandsFor found.item (rooted (numbered vs) l) (nums (numbered vs)) = subst (λ z. StandsFor found.item (rooted (numbered vs) z) (nums (numbered vs))) found.is (each_has a.kids (rooted (numbered vs)) (nums (numbered vs)) found.item h.row.kids found.has) in
      let fit : Fits found.item k = subst (λ z. IfSome z (λ c. Fits found.item c)) (root_found k (node_label found.item) (d.0 ∙ sym found.is)) (fits_has a.kids found.item (k ∷ []) f found.has) in
      follows found.item (rooted (numbered vs) l) (nums (numbered vs)) k stands fit spot.number v pair p x y b.1 d.1

  pub fits_alike : ∥ Kept a ∥₁ → IsTrue (all_fit a.kids (k ∷ [])) ↔ ((vs : List PlainKeyed) → ArchiveOf vs a → AlikeAll vs k)
  fits_alike kept = (
    λ t vs h. root_follows vs h (all_from_test a.kids (k ∷ []) t),
    λ alike. ∥∥₁_elim {P = IsTrue (all_fit a.kids (k ∷ []))} kept (Bool-set (all_fit a.kids (k ∷ [])) true) (λ v. all_to_test a.kids (k ∷ []) (root_fits v.versions a k v.is (alike v.versions v.is) a.kids v.is.row.kids)),
  )
