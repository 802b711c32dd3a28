-- The rows of a spelled archive, spread.
use Rattle.std.proofs.Common.{◌≡◌, ℕ, List, [], ◌∷◌, ◌++◌, map, length, append_assoc, refl, sym, ap, subst, ◌∙◌}
use Rattle.std.proofs.lemmas.List.{append-nil, map-append}
use Rattle.std.specs.List.{AllByRecursion}
use Rattle.keyed_tree.specs.Data.{PlainLabel}
use Rattle.archive_tree.specs.Data.{Stamp, PlainAlt, PlainNode, inner_node, leaf_node, PlainNodes, node, nodes_from, PlainArchive}
use Rattle.archive_tree.specs.Stands.{Kept}
use Rattle.version_runs.specs.Runs.{AreStarts}
use Rattle.version_runs.specs.Spread.{spread, spread_alt, spread_list, spread_node, spread_nodes, spread_stamp, AreNodesWithin, IsNodeWithin, IsStampWithin}
use Rattle.version_runs.proofs.Archives.{sets_within, spread_archive}
use Rattle.spelled_archive.specs.View.{node_view}
use Rattle.spelled_archive.specs.declared.node.SNode.{SNode}

abbrev made_of : ℕ → PlainNodes → PlainArchive
made_of n ks = record { n = n; kids = ks }

pub spread-from : (ps : List ℕ) (n : ℕ) (ks : List PlainNode) → nodes_from (map (spread_node ps n) ks) ≡ spread_nodes ps n (nodes_from ks)
spread-from ps n [] = refl
spread-from ps n (k ∷ ks) = ap (node (spread_node ps n k)) (spread-from ps n ks)

pub within-from : (c : ℕ) (ks : List PlainNode) → AreNodesWithin c (nodes_from ks) → AllByRecursion (IsNodeWithin c) ks
within-from c [] w = tt
within-from c (k ∷ ks) w = (w.0, within-from c ks w.1)

-- the first of some nodes
pub first_within : (c : ℕ) (xs ys : List SNode) (x : SNode) → AllByRecursion (IsNodeWithin c) (map node_view xs) → xs ≡ x ∷ ys → IsNodeWithin c (node_view x)
first_within c xs ys x w e = (subst (λ z. AllByRecursion (IsNodeWithin c) (map node_view z)) e w).0

-- what is in a node
pub inner-within : (c : ℕ) (k : PlainNode) (l : PlainLabel) (s : Stamp) (ks : List PlainNode) → k ≡ inner_node l s (nodes_from ks) → IsNodeWithin c k → IsStampWithin c s × AllByRecursion (IsNodeWithin c) ks
inner-within c k l s ks e w = (let both : IsNodeWithin c (inner_node l s (nodes_from ks)) = subst (IsNodeWithin c) e w in (both.0, within-from c ks both.1))

pub leaf-within : (c : ℕ) (k : PlainNode) (l : PlainLabel) (s : Stamp) (xs : List PlainAlt) → k ≡ leaf_node l s xs → IsNodeWithin c k → IsStampWithin c s × AllByRecursion (λ x. IsStampWithin c x.stamp) xs
leaf-within c k l s xs e w = subst (IsNodeWithin c) e w

pub inner-spread : (ps : List ℕ) (n : ℕ) (k : PlainNode) (l : PlainLabel) (s t : Stamp) (ks js : List PlainNode) → k ≡ inner_node l s (nodes_from ks) → t ≡ spread_stamp ps n s → js ≡ map (spread_node ps n) ks
    → inner_node l t (nodes_from js) ≡ spread_node ps n k
inner-spread ps n k l s t ks js e stamp kids = (λ i. inner_node l (stamp i) (nodes_from (kids i))) ∙ ap (inner_node l (spread_stamp ps n s)) (spread-from ps n ks) ∙ ap (spread_node ps n) (sym e)

pub leaf-spread : (ps : List ℕ) (n : ℕ) (k : PlainNode) (l : PlainLabel) (s t : Stamp) (xs ys : List PlainAlt) → k ≡ leaf_node l s xs → t ≡ spread_stamp ps n s → ys ≡ map (spread_alt ps n) xs
    → leaf_node l t ys ≡ spread_node ps n k
leaf-spread ps n k l s t xs ys e stamp alts = (λ i. leaf_node l (stamp i) (alts i)) ∙ ap (spread_node ps n) (sym e)

-- the sets of an archive of so many runs
pub kept-within : (c : ℕ) (a : PlainArchive) → c ≡ a.n → Kept a → AreNodesWithin c a.kids
kept-within c a e k = subst (λ m. AreNodesWithin m a.kids) (sym e) (sets_within k.versions a k.is)

pub kept-spread : (ps : List ℕ) (n : ℕ) (a : PlainArchive) → AreStarts ps n → length ps ≡ a.n → Kept a → Kept (spread ps n a)
kept-spread ps n a st e k = record { versions = spread_list ps n k.versions; is = spread_archive ps n k.versions a st e k.is }

-- the archive of spread nodes
pub spread-archive-is : (ps : List ℕ) (n : ℕ) (a : PlainArchive) (m : ℕ) (ks js : List PlainNode) → made_of m (nodes_from ks) ≡ a → js ≡ map (spread_node ps n) ks → made_of n (nodes_from js) ≡ spread ps n a
spread-archive-is ps n a m ks js parts is =
    let kids = ap nodes_from is ∙ spread-from ps n ks ∙ ap (λ (z : PlainArchive). spread_nodes ps n z.kids) parts in
    ap (made_of n) kids

-- ---- a list that is made item by item

-- one more, of the first that is left
pub made-on : {X Y : Type 0} (view : X → Y) (f : Y → Y) (made next : List X) (x : X) (y : Y) (left whole : List Y) → map view made ++ map f (y ∷ left) ≡ whole → next ≡ made ++ x ∷ [] → view x ≡ f y → map view next ++ map f left ≡ whole
made-on view f made next x y left whole all pushed is =
    ap (λ z. map view z ++ map f left) pushed ∙ ap (λ z. z ++ map f left) (map-append view made (x ∷ []))
    ∙ append_assoc (map view made) (view x ∷ []) (map f left) ∙ ap (λ z. map view made ++ z ∷ map f left) is ∙ all

-- none is left
pub made-all : {X Y : Type 0} (view : X → Y) (f : Y → Y) (made : List X) (left : List X) (whole : List Y) → map view made ++ map f (map view left) ≡ whole → left ≡ [] → map view made ≡ whole
made-all view f made left whole all none = sym (append-nil (map view made)) ∙ sym (ap (λ z. map view made ++ map f (map view z)) none) ∙ all
