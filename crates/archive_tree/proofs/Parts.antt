-- Rows of nodes, and the parts of what is said of a node.
use Rattle.std.proofs.Common.{◌≡◌, ◌≢◌, ℕ, List, [], ◌∷◌, Some, None, refl, ap, sym, subst, ◌∙◌, inl, inr}
use Rattle.std.specs.List.{AllByRecursion}
use Rattle.version_set.proofs.MembersLemmas.{members-injective}
use Rattle.keyed_tree.specs.Alike.{IsInner, IsLeaf}
use Rattle.keyed_tree.specs.Data.{PlainLabel, PlainKeyed, inner, leaf, label_of}
use Rattle.keyed_tree.specs.Lists.{Has}
use Rattle.archive_tree.specs.Data.{Stamp, eff, PlainNode, inner_node, leaf_node, PlainNodes, no_nodes, node, node_label, node_stamp, nodes_list, nodes_from}
use Rattle.archive_tree.specs.Stands.{nums, Stamped, StandsFor, EachStands}

pub nodes_list-nodes_from : (ks : List PlainNode) → nodes_list (nodes_from ks) ≡ ks
nodes_list-nodes_from [] = refl
nodes_list-nodes_from (k ∷ ks) = ap (λ z. k ∷ z) (nodes_list-nodes_from ks)

pub nodes_from-nodes_list : (ks : PlainNodes) → nodes_from (nodes_list ks) ≡ ks
nodes_from-nodes_list no_nodes = refl
nodes_from-nodes_list (node k ks) = ap (λ z. node k z) (nodes_from-nodes_list ks)

pub nodes_list-injective : (ks js : PlainNodes) → nodes_list ks ≡ nodes_list js → ks ≡ js
nodes_list-injective ks js e = sym (nodes_from-nodes_list ks) ∙ ap nodes_from e ∙ nodes_from-nodes_list js

-- each kid of a row stands for its list
pub each_has : (ks : PlainNodes) (u : PlainLabel → List (ℕ × PlainKeyed)) (ns : List ℕ) (k : PlainNode) → EachStands ks u ns → Has k (nodes_list ks) → StandsFor k (u (node_label k)) ns
each_has no_nodes u ns k h m = absurd m
each_has (node j ks) u ns k h m = elim m [ inl e ↦ subst (λ z. StandsFor z (u (node_label z)) ns) e h.0 | inr n ↦ each_has ks u ns k h.1 n ]

pub has_each : (ks : PlainNodes) (u : PlainLabel → List (ℕ × PlainKeyed)) (ns : List ℕ) → ((k : PlainNode) → Has k (nodes_list ks) → StandsFor k (u (node_label k)) ns) → EachStands ks u ns
has_each no_nodes u ns h = tt
has_each (node k ks) u ns h = (h k (inl refl), has_each ks u ns (λ j m. h j (inr m)))

pub stands_some : (a : PlainNode) (ws : List (ℕ × PlainKeyed)) (ps : List ℕ) → StandsFor a ws ps → ws ≢ []
stands_some (inner_node l s ks) ws ps h = h.common.some
stands_some (leaf_node l s xs) ws ps h = h.common.some

pub stands_stamped : (a : PlainNode) (ws : List (ℕ × PlainKeyed)) (ps : List ℕ) → StandsFor a ws ps → Stamped (node_stamp a) (nums ws) ps
stands_stamped (inner_node l s ks) ws ps h = h.common.stamped
stands_stamped (leaf_node l s xs) ws ps h = h.common.stamped

pub stands_nums : (a : PlainNode) (ws : List (ℕ × PlainKeyed)) (ps : List ℕ) → StandsFor a ws ps → eff (node_stamp a) ps ≡ nums ws
stands_nums a ws ps h = (stands_stamped a ws ps h).effective

pub same_label : (l m : PlainLabel) (ws : List (ℕ × PlainKeyed)) → ws ≢ [] → AllByRecursion (λ w. label_of w.1 ≡ l) ws → AllByRecursion (λ w. label_of w.1 ≡ m) ws → l ≡ m
same_label l m [] s h g = absurd (s refl)
same_label l m (w ∷ ws) s h g = sym h.0 ∙ g.0

pub not_both_kinds : (k : PlainKeyed) → IsInner k → ¬ (IsLeaf k)
not_both_kinds (inner l ks) h g = g
not_both_kinds (leaf l b) h g = h

pub one_kind : (ws : List (ℕ × PlainKeyed)) → ws ≢ [] → AllByRecursion (λ w. IsInner w.1) ws → ¬ (AllByRecursion (λ w. IsLeaf w.1) ws)
one_kind [] s h g = s refl
one_kind (w ∷ ws) s h g = not_both_kinds w.1 h.0 g.0

-- one set of numbers is stored in one way
pub same_stamp : (s t : Stamp) (ns ps : List ℕ) → Stamped s ns ps → Stamped t ns ps → s ≡ t
same_stamp None None ns ps h g = refl
same_stamp None (Some t) ns ps h g = absurd (g.stored.0 refl (sym h.effective))
same_stamp (Some s) None ns ps h g = absurd (h.stored.0 refl (sym g.effective))
same_stamp (Some s) (Some t) ns ps h g = ap (λ z. Some z) (members-injective s t (h.canonical s refl) (g.canonical t refl) (h.effective ∙ sym g.effective))
