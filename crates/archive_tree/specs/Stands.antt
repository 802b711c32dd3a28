-- For which lists of versions a node and an archive stand.
pub use Rattle.jsonml_tree.specs.Lists.{AllDiffer}
use Rattle.std.specs.Prelude.{◌≡◌, ◌≢◌, ◌↔◌, ℕ, zero, suc, Bool, false, List, [], ◌∷◌, map, length, Option, Some, None, IsSome, ⊤, slice_get, if◌then◌else◌}
use Rattle.std.specs.Option.{option_map}
use Rattle.std.specs.List.{filter_map, enumerate_from, AllByRecursion}
use Rattle.std.specs.Ordering.{is_eq, nat_cmp}
use Rattle.version_set.specs.Pairs.{IsCanonical}
use Rattle.keyed_tree.specs.Alike.{IsInner, IsLeaf, AllAlike}
use Rattle.keyed_tree.specs.Data.{PlainKey, PlainLabel, PlainKeyed, inner, leaf, label_of, kids_of}
use Rattle.keyed_tree.specs.Kids.{IsOrdered, kid_at}
use Rattle.keyed_tree.specs.Lists.{Ascends, Has}
use Rattle.keyed_tree.specs.Order.{key_cmp, label_cmp}
use Rattle.keyed_tree.specs.Proper.{IsElement}
use Rattle.archive_tree.specs.Data.{Stamp, eff, PlainAlt, PlainNode, inner_node, leaf_node, PlainNodes, no_nodes, node, node_label, nodes_list, PlainArchive}

-- ---- lists of versions, each with its number

-- the first of the numbers
abbrev pub head_or : ℕ → List ℕ → ℕ
head_or d [] = d
head_or d (n ∷ ns) = n

abbrev pub nums : List (ℕ × PlainKeyed) → List ℕ
nums ws = map (λ w. w.0) ws

-- each number with what f gives of its tree, where it gives something
abbrev pub those : (PlainKeyed → Option PlainKeyed) → List (ℕ × PlainKeyed) → List (ℕ × PlainKeyed)
those f ws = filter_map (λ w. option_map (λ k. (w.0, k)) (f w.1)) ws

-- the tree, if it passes
abbrev pub passed : (PlainKeyed → Bool) → PlainKeyed → Option PlainKeyed
passed p k = if p k then Some k else None

-- each number with the kid of that label of its tree, where there is one
abbrev pub under : List (ℕ × PlainKeyed) → PlainLabel → List (ℕ × PlainKeyed)
under ws l = those (λ k. kid_at l (kids_of k)) ws

-- each number whose tree has that label, with its tree
abbrev pub rooted : List (ℕ × PlainKeyed) → PlainLabel → List (ℕ × PlainKeyed)
rooted ws l = those (passed (λ k. is_eq (label_cmp (label_of k) l))) ws

-- whether a tree is a leaf with that body
abbrev pub has_body : PlainKey → PlainKeyed → Bool
has_body b (inner l ks) = false
has_body b (leaf l c) = is_eq (key_cmp c b)

-- the numbers whose trees have that body
abbrev pub nums_with : List (ℕ × PlainKeyed) → PlainKey → List ℕ
nums_with ws b = nums (those (passed (has_body b)) ws)

-- ---- nodes

-- the stamp stands for ns under a parent that has ps, and is stored exactly where they differ
pub record Stamped (s : Stamp) (ns ps : List ℕ) : Type 0 where
  pub effective : eff s ps ≡ ns
  pub stored : IsSome s ↔ (ns ≢ ps)
  pub canonical : (t : List (ℕ × ℕ)) → s ≡ Some t → IsCanonical t

abbrev pub labels : PlainNodes → List PlainLabel
labels ks = map node_label (nodes_list ks)

-- what is said of each node
pub record CommonStands (l : PlainLabel) (s : Stamp) (ws : List (ℕ × PlainKeyed)) (ps : List ℕ) : Type 0 where
  pub some : ws ≢ []
  pub labelled : AllByRecursion (λ w. label_of w.1 ≡ l) ws
  pub stamped : Stamped s (nums ws) ps

-- kids in a row, where u gives for each label the list that its kid stands for
pub record RowStands (ks : PlainNodes) (u : PlainLabel → List (ℕ × PlainKeyed)) (each : Type 0) : Type 0 where
  pub ascending : Ascends label_cmp (labels ks)
  pub kids : each
  pub covered : (l : PlainLabel) → u l ≢ [] → Has l (labels ks)

pub record InnerStands (l : PlainLabel) (s : Stamp) (ks : PlainNodes) (ws : List (ℕ × PlainKeyed)) (ps : List ℕ) (each : Type 0) : Type 0 where
  pub common : CommonStands l s ws ps
  pub inners : AllByRecursion (λ w. IsInner w.1) ws
  pub row : RowStands ks (under ws) each

-- the first number of an alternative of a leaf that has ns
abbrev pub first_num : List ℕ → PlainAlt → ℕ
first_num ns a = head_or 0 (eff a.stamp ns)

abbrev pub bodies : List PlainAlt → List PlainKey
bodies xs = map (λ a. a.body) xs

-- an alternative stands for the numbers whose bodies equal its own
pub record AltStands (a : PlainAlt) (ws : List (ℕ × PlainKeyed)) : Type 0 where
  pub some : nums_with ws a.body ≢ []
  pub stamped : Stamped a.stamp (nums_with ws a.body) (nums ws)

pub record LeafStands (l : PlainLabel) (s : Stamp) (xs : List PlainAlt) (ws : List (ℕ × PlainKeyed)) (ps : List ℕ) : Type 0 where
  pub common : CommonStands l s ws ps
  pub leaves : AllByRecursion (λ w. IsLeaf w.1) ws
  pub different : AllDiffer (bodies xs)
  pub in_order : Ascends nat_cmp (map (first_num (nums ws)) xs)
  pub alts : AllByRecursion (λ a. AltStands a ws) xs
  pub covered : (b : PlainKey) → nums_with ws b ≢ [] → Has b (bodies xs)

abbrev mutual
  -- the node stands for the list of numbered trees, under a parent that has ps
  pub StandsFor : PlainNode → List (ℕ × PlainKeyed) → List ℕ → Type 0
  StandsFor (inner_node l s ks) ws ps = InnerStands l s ks ws ps (EachStands ks (under ws) (nums ws))
  StandsFor (leaf_node l s xs) ws ps = LeafStands l s xs ws ps

  pub EachStands : PlainNodes → (PlainLabel → List (ℕ × PlainKeyed)) → List ℕ → Type 0
  EachStands no_nodes u ns = ⊤
  EachStands (node k ks) u ns = StandsFor k (u (node_label k)) ns × EachStands ks u ns

-- ---- archives

-- the versions with their numbers, from 1
abbrev pub numbered : List PlainKeyed → List (ℕ × PlainKeyed)
numbered vs = enumerate_from 1 vs

-- the version of that number, which counts from 1
abbrev pub version_of : List PlainKeyed → ℕ → Option PlainKeyed
version_of vs zero = None
version_of vs (suc i) = slice_get vs i

-- these versions have this archive
pub record ArchiveOf (vs : List PlainKeyed) (a : PlainArchive) : Type 0 where
  pub count : length vs ≡ a.n
  pub ordered : AllByRecursion IsOrdered vs
  pub elements : AllByRecursion IsElement vs
  pub alike : AllAlike vs
  pub row : RowStands a.kids (rooted (numbered vs)) (EachStands a.kids (rooted (numbered vs)) (nums (numbered vs)))

-- the versions that an archive stands for
pub record Kept (a : PlainArchive) : Type 0 where
  pub versions : List PlainKeyed
  pub is : ArchiveOf versions a
