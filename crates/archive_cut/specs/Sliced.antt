-- What an archive becomes of the versions from i to j, which are then counted from 1.
use Rattle.std.specs.Prelude.{ℕ, ◌+◌, ◌-◌, Bool, ◌&&◌, nat_le, nat_lt, List, [], ◌∷◌, map, filter, take, drop, Some, None, if◌then◌else◌}
use Rattle.version_set.specs.Members.{members, intervals, upto_pairs}
use Rattle.keyed_tree.specs.Data.{PlainKeyed}
use Rattle.archive_tree.specs.Data.{Stamp, PlainAlt, PlainNode, inner_node, leaf_node, PlainNodes, no_nodes, node, node_stamp, PlainArchive}
use Rattle.archive_tree.specs.PartsTest.{is_none, is_same}
use Rattle.archive_tree.specs.Stands.{first_num}
use Rattle.record_format.specs.Nodes.{set_in}

-- ---- sets

abbrev pub is_between : ℕ → ℕ → ℕ → Bool
is_between i j n = nat_le i n && nat_le n j

-- the numbers from i to j, counted from i
abbrev pub clipped : ℕ → ℕ → List ℕ → List ℕ
clipped i j ns = map (λ n. n + 1 - i) (filter (is_between i j) ns)

-- the set of what is left of a set
abbrev pub cut_set : ℕ → ℕ → List (ℕ × ℕ) → List (ℕ × ℕ)
cut_set i j q = intervals (clipped i j (members q))

-- no number of the set is left
abbrev pub is_gone : ℕ → ℕ → List (ℕ × ℕ) → Bool
is_gone i j s = is_none (members (cut_set i j s))

-- a set under a parent that has another: it is stored where they differ
abbrev pub stamp_under : List (ℕ × ℕ) → List (ℕ × ℕ) → Stamp
stamp_under parent s = if is_same (members s) (members parent) then None else Some s

-- what is left of a stamp under a parent that had q
abbrev pub cut_stamp : ℕ → ℕ → List (ℕ × ℕ) → Stamp → Stamp
cut_stamp i j q s = stamp_under (cut_set i j q) (cut_set i j (set_in s q))

-- ---- alternatives of a leaf that had q

abbrev pub cut_alt : ℕ → ℕ → List (ℕ × ℕ) → PlainAlt → PlainAlt
cut_alt i j q a = record { stamp = cut_stamp i j q a.stamp; body = a.body }

-- those of which a number is left
abbrev pub left_alts : ℕ → ℕ → List (ℕ × ℕ) → List PlainAlt → List PlainAlt
left_alts i j q [] = []
left_alts i j q (x ∷ xs) = if is_gone i j (set_in x.stamp q) then left_alts i j q xs else cut_alt i j q x ∷ left_alts i j q xs

-- an alternative among others whose first numbers ascend, in a leaf that has ns
abbrev pub put_alt : List ℕ → PlainAlt → List PlainAlt → List PlainAlt
put_alt ns a [] = a ∷ []
put_alt ns a (b ∷ bs) = if nat_lt (first_num ns b) (first_num ns a) then b ∷ put_alt ns a bs else a ∷ b ∷ bs

-- in the order of their first numbers
abbrev pub by_first : List ℕ → List PlainAlt → List PlainAlt
by_first ns [] = []
by_first ns (a ∷ xs) = put_alt ns a (by_first ns xs)

abbrev pub sliced_alts : ℕ → ℕ → List (ℕ × ℕ) → List PlainAlt → List PlainAlt
sliced_alts i j q xs = by_first (members (cut_set i j q)) (left_alts i j q xs)

-- ---- nodes under a parent that had q

abbrev mutual
  pub sliced_node : ℕ → ℕ → List (ℕ × ℕ) → PlainNode → PlainNode
  sliced_node i j q (inner_node l s ks) = inner_node l (cut_stamp i j q s) (sliced_row i j (set_in s q) ks)
  sliced_node i j q (leaf_node l s xs) = leaf_node l (cut_stamp i j q s) (sliced_alts i j (set_in s q) xs)

  -- those of which a number is left
  pub sliced_row : ℕ → ℕ → List (ℕ × ℕ) → PlainNodes → PlainNodes
  sliced_row i j q no_nodes = no_nodes
  sliced_row i j q (node k ks) = if is_gone i j (set_in (node_stamp k) q) then sliced_row i j q ks else node (sliced_node i j q k) (sliced_row i j q ks)

-- ---- archives

-- the archive of the versions from i to j
abbrev pub sliced : ℕ → ℕ → PlainArchive → PlainArchive
sliced i j a = record { n = j + 1 - i; kids = sliced_row i j (upto_pairs a.n) a.kids }

-- the versions from i to j
abbrev pub items : ℕ → ℕ → List PlainKeyed → List PlainKeyed
items i j vs = take (j + 1 - i) (drop (i - 1) vs)
