-- What the nodes of an archive become with one more version.
use Rattle.std.specs.Prelude.{ℕ, ◌+◌, Bool, List, [], ◌∷◌, ◌++◌, map, Option, Some, None, if◌then◌else◌}
use Rattle.std.specs.Option.{unwrap_or}
use Rattle.std.specs.List.{list_any}
use Rattle.std.specs.Ordering.{is_eq, is_lt, is_le}
use Rattle.version_set.specs.Members.{upto_pairs, with_last}
use Rattle.keyed_tree.specs.Data.{PlainKey, PlainLabel, PlainKeyed, inner, leaf, PlainKids, no_kids, kid, kids_list, label_of}
use Rattle.keyed_tree.specs.Kids.{kid_at}
use Rattle.keyed_tree.specs.Order.{key_cmp, label_cmp}
use Rattle.archive_tree.specs.Data.{Stamp, PlainAlt, PlainNode, inner_node, leaf_node, PlainNodes, no_nodes, node, node_label, PlainArchive}

-- the stamp of what version n has too
abbrev pub grown : ℕ → Stamp → Stamp
grown n None = None
grown n (Some s) = Some (with_last s n)

-- the stamp of what version n does not have, under a parent that has it and had the set q before
abbrev pub kept : List (ℕ × ℕ) → Stamp → Stamp
kept q s = Some (unwrap_or s q)

-- the stamp of what begins with version n, under a parent that had the set q before
abbrev pub started : ℕ → List (ℕ × ℕ) → Stamp
started n [] = None
started n (p ∷ ps) = Some ((n, n) ∷ [])

-- a node that version n does not have, while its parent, with q before, does
abbrev pub vanished : List (ℕ × ℕ) → PlainNode → PlainNode
vanished q (inner_node l s ks) = inner_node l (kept q s) ks
vanished q (leaf_node l s xs) = leaf_node l (kept q s) xs

-- a node that one version alone has
abbrev mutual
  pub fresh : Stamp → PlainKeyed → PlainNode
  fresh s (inner l ks) = inner_node l s (fresh_row ks)
  fresh s (leaf l b) = leaf_node l s (record { stamp = None; body = b } ∷ [])

  pub fresh_row : PlainKids → PlainNodes
  fresh_row no_kids = no_nodes
  fresh_row (kid k ks) = node (fresh None k) (fresh_row ks)

-- fresh nodes before a row
abbrev pub fresh_onto : Stamp → List PlainKeyed → PlainNodes → PlainNodes
fresh_onto s [] r = r
fresh_onto s (c ∷ cs) r = node (fresh s c) (fresh_onto s cs r)

-- the front part of kids below a label
abbrev pub below : PlainLabel → List PlainKeyed → List PlainKeyed
below l [] = []
below l (c ∷ cs) = if is_lt (label_cmp (label_of c) l) then c ∷ below l cs else []

-- the kids above a label
abbrev pub above : PlainLabel → List PlainKeyed → List PlainKeyed
above l [] = []
above l (c ∷ cs) = if is_le (label_cmp (label_of c) l) then above l cs else c ∷ cs

-- an alternative of a leaf that had q, where version n has the body b
abbrev pub merged_alt : ℕ → List (ℕ × ℕ) → PlainKey → PlainAlt → PlainAlt
merged_alt n q b a = if is_eq (key_cmp a.body b) then record { stamp = grown n a.stamp; body = a.body } else record { stamp = kept q a.stamp; body = a.body }

abbrev pub has_alt : PlainKey → List PlainAlt → Bool
has_alt b xs = list_any (λ a. is_eq (key_cmp a.body b)) xs

-- the alternatives, and behind them the new body where none has it
abbrev pub merged_alts : ℕ → List (ℕ × ℕ) → PlainKey → List PlainAlt → List PlainAlt
merged_alts n q b xs = map (merged_alt n q b) xs ++ (if has_alt b xs then [] else record { stamp = Some ((n, n) ∷ []); body = b } ∷ [])

-- the node without its tree in version n, or with it
abbrev pub turn : PlainNode → (PlainKeyed → PlainNode) → Option PlainKeyed → PlainNode
turn k f None = k
turn k f (Some c) = f c

abbrev mutual
  -- a node, under a parent that had the set q, with its tree in version n
  pub merged : ℕ → List (ℕ × ℕ) → PlainNode → PlainKeyed → PlainNode
  merged n q (inner_node l s ks) (inner m cs) = inner_node l (grown n s) (merged_row n (unwrap_or s q) ks (kids_list cs))
  merged n q (inner_node l s ks) (leaf m b) = inner_node l s ks
  merged n q (leaf_node l s xs) (inner m cs) = leaf_node l s xs
  merged n q (leaf_node l s xs) (leaf m b) = leaf_node l (grown n s) (merged_alts n (unwrap_or s q) b xs)

  -- a row of kids with those of version n, in the order of their labels
  pub merged_row : ℕ → List (ℕ × ℕ) → PlainNodes → List PlainKeyed → PlainNodes
  merged_row n q no_nodes cs = fresh_onto (started n q) cs no_nodes
  merged_row n q (node k ks) cs = fresh_onto (started n q) (below (node_label k) cs)
      (node (turn (vanished q k) (λ c. merged n q k c) (kid_at (node_label k) cs)) (merged_row n q ks (above (node_label k) cs)))

-- an archive with one more version
abbrev pub with_version : PlainArchive → PlainKeyed → PlainArchive
with_version a k = record { n = a.n + 1; kids = merged_row (a.n + 1) (upto_pairs a.n) a.kids (k ∷ []) }
