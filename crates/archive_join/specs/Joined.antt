-- What the nodes of two archives become in one archive, in which the versions of the second follow those of the first.
use Rattle.std.specs.Prelude.{ℕ, ◌+◌, not, List, [], ◌∷◌, ◌++◌, map, filter, Option, Some, None, if◌then◌else◌}
use Rattle.std.specs.Option.{unwrap_or}
use Rattle.std.specs.List.{find}
use Rattle.std.specs.Ordering.{is_eq, is_lt, is_le}
use Rattle.version_set.specs.Members.{united, upto_pairs}
use Rattle.keyed_tree.specs.Data.{PlainKey, PlainLabel}
use Rattle.keyed_tree.specs.Order.{key_cmp, label_cmp}
use Rattle.archive_tree.specs.Data.{Stamp, PlainAlt, PlainNode, inner_node, leaf_node, PlainNodes, no_nodes, node, node_label, nodes_list, PlainArchive}
use Rattle.archive_tree.specs.Seek.{node_with}
use Rattle.record_copy.specs.Raised.{raised, raised_nodes}
use Rattle.nested_merge.specs.Merged.{has_alt}

-- ---- stamps, under a parent that has p in the one archive and q in the other

-- of what both have
abbrev pub paired : List (ℕ × ℕ) → List (ℕ × ℕ) → Stamp → Stamp → Stamp
paired p q None None = None
paired p q None (Some t) = Some (united p t)
paired p q (Some s) t = Some (united s (unwrap_or t q))

-- of what the one alone has
abbrev pub alone : List (ℕ × ℕ) → List (ℕ × ℕ) → Stamp → Stamp
alone p [] s = s
alone p (r ∷ rs) s = Some (unwrap_or s p)

-- ---- alternatives of a leaf that has p in the first and q in the second

-- the alternative with this body
abbrev pub alt_of : PlainKey → List PlainAlt → Option PlainAlt
alt_of b xs = find (λ a. is_eq (key_cmp a.body b)) xs

-- the stamp of an alternative of the first, with the one of the second that has its body
abbrev pub stamp_with : List (ℕ × ℕ) → List (ℕ × ℕ) → Stamp → Option PlainAlt → Stamp
stamp_with p q s None = alone p q s
stamp_with p q s (Some y) = paired p q s y.stamp

abbrev pub joined_alt : List (ℕ × ℕ) → List (ℕ × ℕ) → List PlainAlt → PlainAlt → PlainAlt
joined_alt p q ys x = record { stamp = stamp_with p q x.stamp (alt_of x.body ys); body = x.body }

abbrev pub alone_alt : List (ℕ × ℕ) → List (ℕ × ℕ) → PlainAlt → PlainAlt
alone_alt p q x = record { stamp = alone p q x.stamp; body = x.body }

-- those whose bodies others have not
abbrev pub others : List PlainAlt → List PlainAlt → List PlainAlt
others xs ys = filter (λ y. not (has_alt y.body xs)) ys

-- the alternatives of the first, and behind them those of the second whose bodies the first has not
abbrev pub joined_alts : List (ℕ × ℕ) → List (ℕ × ℕ) → List PlainAlt → List PlainAlt → List PlainAlt
joined_alts p q xs ys = map (joined_alt p q ys) xs ++ map (alone_alt q p) (others xs ys)

-- ---- nodes

abbrev pub alone_node : List (ℕ × ℕ) → List (ℕ × ℕ) → PlainNode → PlainNode
alone_node p q (inner_node l s ks) = inner_node l (alone p q s) ks
alone_node p q (leaf_node l s xs) = leaf_node l (alone p q s) xs

-- nodes that the one alone has, before a row
abbrev pub alone_onto : List (ℕ × ℕ) → List (ℕ × ℕ) → List PlainNode → PlainNodes → PlainNodes
alone_onto p q [] r = r
alone_onto p q (k ∷ ks) r = node (alone_node p q k) (alone_onto p q ks r)

-- the front part of a row below a label
abbrev pub below : PlainLabel → List PlainNode → List PlainNode
below l [] = []
below l (k ∷ ks) = if is_lt (label_cmp (node_label k) l) then k ∷ below l ks else []

-- the nodes above a label
abbrev pub above : PlainLabel → List PlainNode → List PlainNode
above l [] = []
above l (k ∷ ks) = if is_le (label_cmp (node_label k) l) then above l ks else k ∷ ks

-- the node that the first alone has, or with the one that the second has
abbrev pub alone_or_joined : PlainNode → (PlainNode → PlainNode) → Option PlainNode → PlainNode
alone_or_joined k f None = k
alone_or_joined k f (Some j) = f j

abbrev mutual
  -- a node that both have, of one kind
  pub joined_node : List (ℕ × ℕ) → List (ℕ × ℕ) → PlainNode → PlainNode → PlainNode
  joined_node p q (inner_node l s ks) (inner_node m t js) = inner_node l (paired p q s t) (joined_row (unwrap_or s p) (unwrap_or t q) ks (nodes_list js))
  joined_node p q (inner_node l s ks) (leaf_node m t ys) = inner_node l s ks
  joined_node p q (leaf_node l s xs) (inner_node m t js) = leaf_node l s xs
  joined_node p q (leaf_node l s xs) (leaf_node m t ys) = leaf_node l (paired p q s t) (joined_alts (unwrap_or s p) (unwrap_or t q) xs ys)

  -- the rows of both, in the order of their labels
  pub joined_row : List (ℕ × ℕ) → List (ℕ × ℕ) → PlainNodes → List PlainNode → PlainNodes
  joined_row p q no_nodes js = alone_onto q p js no_nodes
  joined_row p q (node k ks) js = alone_onto q p (below (node_label k) js)
      (node (alone_or_joined (alone_node p q k) (λ j. joined_node p q k j) (node_with (node_label k) js)) (joined_row p q ks (above (node_label k) js)))

-- the archive of the versions of a, and behind them those of b
abbrev pub joined : PlainArchive → PlainArchive → PlainArchive
joined a b = record { n = a.n + b.n; kids = joined_row (upto_pairs a.n) (raised a.n (upto_pairs b.n)) a.kids (nodes_list (raised_nodes a.n b.kids)) }
