-- A tree that is alike with the versions of a node fits that node.
use Rattle.std.proofs.Common.{◌≡◌, ◌≢◌, ◌↔◌, ℕ, List, [], ◌∷◌, ◌++◌, Some, None, IfSome, refl, sym, subst, ◌∙◌, ◌⊎◌, inl, inr}
use Rattle.std.specs.List.{AllByRecursion}
use Rattle.keyed_tree.specs.Alike.{IsInner, IsLeaf, EndsAt, Alike, AllAlike}
use Rattle.keyed_tree.specs.Data.{PlainLabel, PlainKeyed, inner, leaf, label_of, kids_of}
use Rattle.keyed_tree.specs.Kids.{kid_at}
use Rattle.keyed_tree.specs.Lists.{Has}
use Rattle.keyed_tree.specs.Paths.{node_at}
use Rattle.archive_tree.specs.Data.{PlainNode, inner_node, leaf_node, PlainNodes, no_nodes, node, node_label}
use Rattle.archive_tree.specs.Stands.{nums, under, StandsFor, EachStands}
use Rattle.archive_tree.proofs.Parts.{not_both_kinds}
use Rattle.nested_merge.specs.Alike.{AlikeAll}
use Rattle.nested_merge.proofs.Picked.{all_picked}
use Rattle.nested_merge.proofs.Grown.{Fits, EachFits}

-- ---- alike trees

same_some : (a b : PlainKeyed) → Some a ≡ Some b → a ≡ b
same_some a b e = cc

-- a path ends at one node
one_end : (p : List PlainLabel) (k x y : PlainKeyed) → EndsAt p k x → EndsAt p k y → x ≡ y
one_end [] k x y h g = absurd h
one_end (l ∷ p) k x y h g = same_some x y (sym h.1 ∙ g.1)

itself : (k : PlainKeyed) → Alike k k
itself k p x y h g = (let e = one_end p k x y h g in (λ z. subst IsInner e z, λ z. subst IsInner (sym e) z))

swapped : (k j : PlainKeyed) → Alike k j → Alike j k
swapped k j h p x y a b = (let both = h p y x b a in (both.1, both.0))

has_either : (v k : PlainKeyed) (vs : List PlainKeyed) → Has v (vs ++ k ∷ []) → Has v vs ⊎ (k ≡ v)
has_either v k [] m = elim m [ inl e ↦ inr e | inr x ↦ absurd x ]
has_either v k (w ∷ ws) m = elim m [
  | inl e ↦ inl (inl e)
  | inr x ↦ elim (has_either v k ws x) [ inl y ↦ inl (inr y) | inr e ↦ inr e ]
]

-- with a tree that is alike with each of them, all are alike
pub all_alike : (vs : List PlainKeyed) (k : PlainKeyed) → AllAlike vs → AlikeAll vs k → AllAlike (vs ++ k ∷ [])
all_alike vs k h g a b m n = elim (has_either a k vs m) [
  | inl x ↦ elim (has_either b k vs n) [
    | inl y ↦ h a b x y
    | inr e ↦ subst (λ z. Alike a z) e (g a x)
  ]
  | inr d ↦ elim (has_either b k vs n) [
    | inl y ↦ subst (λ z. Alike z b) d (swapped b k (g b y))
    | inr e ↦ subst (λ z. Alike z b) d (subst (λ z. Alike k z) e (itself k))
  ]
]

-- ---- below the labels of the trees themselves

abbrev pub AlikeBelow : PlainKeyed → PlainKeyed → Type 0
AlikeBelow k c = (p : List PlainLabel) (x y : PlainKeyed) → node_at p k ≡ Some x → node_at p c ≡ Some y → IsInner x ↔ IsInner y

pub alike_below : (k c : PlainKeyed) → Alike k c → label_of k ≡ label_of c → AlikeBelow k c
alike_below k c h e p x y a b = h (label_of c ∷ p) x y (e, a) (refl, b)

below_path : (l : PlainLabel) (p : List PlainLabel) (k j : PlainKeyed) → kid_at l (kids_of k) ≡ Some j → node_at (l ∷ p) k ≡ node_at p j
below_path l p k j e = rw e

alike_kids : (l : PlainLabel) (k j c d : PlainKeyed) → kid_at l (kids_of k) ≡ Some j → kid_at l (kids_of c) ≡ Some d → AlikeBelow k c → AlikeBelow j d
alike_kids l k j c d e f h p x y a b = h (l ∷ p) x y (below_path l p k j e ∙ a) (below_path l p c d f ∙ b)

first_kind : (ws : List (ℕ × PlainKeyed)) (P : PlainKeyed → Type 0) → ws ≢ [] → AllByRecursion (λ w. P w.1) ws → (k : PlainKeyed) × P k
first_kind [] P s h = absurd (s refl)
first_kind (w ∷ ws) P s h = (w.1, h.0)

both_all : (P Q : PlainKeyed → Type 0) (ws : List (ℕ × PlainKeyed)) → AllByRecursion (λ w. P w.1) ws → AllByRecursion (λ w. Q w.1) ws → AllByRecursion (λ w. P w.1 × Q w.1) ws
both_all P Q [] h g = tt
both_all P Q (w ∷ ws) h g = ((h.0, g.0), both_all P Q ws h.1 g.1)

mutual
  pub fits : (a : PlainNode) (ws : List (ℕ × PlainKeyed)) (ps : List ℕ) (c : PlainKeyed) → StandsFor a ws ps → AllByRecursion (λ w. AlikeBelow w.1 c) ws → Fits a c
  fits (inner_node l s ks) ws ps (inner m cs) h g = each_fits ks (under ws) (nums ws) (inner m cs) h.row.kids
      (λ x d e. all_picked (λ k. AlikeBelow k (inner m cs)) (λ k. AlikeBelow k d) (λ k. kid_at x (kids_of k)) (λ k j f a. alike_kids x k j (inner m cs) d f e a) ws g)
  fits (inner_node l s ks) ws ps (leaf m b) h g =
      (let one = first_kind ws (λ k. IsInner k × AlikeBelow k (leaf m b)) h.common.some (both_all IsInner (λ k. AlikeBelow k (leaf m b)) ws h.inners g) in (one.1.1 [] one.0 (leaf m b) refl refl).0 one.1.0)
  fits (leaf_node l s xs) ws ps (inner m cs) h g =
      (let one = first_kind ws (λ k. IsLeaf k × AlikeBelow k (inner m cs)) h.common.some (both_all IsLeaf (λ k. AlikeBelow k (inner m cs)) ws h.leaves g) in not_both_kinds one.0 ((one.1.1 [] one.0 (inner m cs) refl refl).1 tt) one.1.0)
  fits (leaf_node l s xs) ws ps (leaf m b) h g = tt

  pub each_fits : (ks : PlainNodes) (u : PlainLabel → List (ℕ × PlainKeyed)) (ns : List ℕ) (c : PlainKeyed) → EachStands ks u ns
      → ((l : PlainLabel) (d : PlainKeyed) → kid_at l (kids_of c) ≡ Some d → AllByRecursion (λ w. AlikeBelow w.1 d) (u l)) → EachFits ks (kids_of c)
  each_fits no_nodes u ns c h g = tt
  each_fits (node k ks) u ns c h g = (
    elim (kid_at (node_label k) (kids_of c)) as (λ o. kid_at (node_label k) (kids_of c) ≡ o → IfSome o (λ d. Fits k d)) [
      | None ↦ λ e. tt
      | Some d ↦ λ e. fits k (u (node_label k)) ns d h.0 (g (node_label k) d e)
    ] refl,
    each_fits ks u ns c h.1 g,
  )
