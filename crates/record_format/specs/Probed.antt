-- How many bytes of an archive's file a search for a path looks at, and how many children.
use Rattle.std.specs.Prelude.{ℕ, zero, suc, ◌+◌, ◌*◌, max, List, [], ◌∷◌, length, map, Option, Some, None}
use Rattle.std.specs.Int.Digits.{digits_of}
use Rattle.keyed_tree.specs.Data.{PlainLabel}
use Rattle.archive_tree.specs.Data.{PlainNode, inner_node, leaf_node, PlainNodes, node_kids, nodes_list, PlainArchive}
use Rattle.archive_tree.specs.Seek.{node_with}
use Rattle.record_format.specs.Data.{PlainRec, inner_rec, leaf_rec}
use Rattle.record_format.specs.Spelling.{rec_bytes}

-- the greatest sum of at most p of these numbers
abbrev pub greatest_sum : ℕ → List ℕ → ℕ
greatest_sum p [] = 0
greatest_sum zero (x ∷ xs) = 0
greatest_sum (suc p) (x ∷ xs) = max (x + greatest_sum p xs) (greatest_sum (suc p) xs)

-- the record that opens a node
abbrev pub opening : PlainNode → PlainRec
opening (inner_node l s ks) = inner_rec l s
opening (leaf_node l s xs) = leaf_rec l s

-- how many of k children a search by halving looks at, at most: as many as k has binary digits
abbrev pub most_probes : ℕ → ℕ
most_probes k = length (digits_of 2 k)

-- the kind and the length of an END, the number of children, and an entry and an opening record for each child that is looked at
abbrev pub row_probed : List PlainNode → ℕ
row_probed ks = 13 + (24 * most_probes (length ks) + greatest_sum (most_probes (length ks)) (map (λ k. length (rec_bytes (opening k))) ks))

-- what is counted below the node that a label led to, if it led to one, with what f gives of its kids
abbrev pub onward : (PlainNodes → ℕ) → Option PlainNode → ℕ
onward f None = 0
onward f (Some k) = f (node_kids k)

-- at this row, and at the kids of each node that is found and is not the last of the path
abbrev pub path_probed : List PlainLabel → PlainNodes → ℕ
path_probed [] ks = 0
path_probed (l ∷ ls) ks = row_probed (nodes_list ks) + onward (path_probed ls) (node_with l (nodes_list ks))

abbrev pub probed : PlainArchive → List PlainLabel → ℕ
probed a path = path_probed path a.kids

-- the most children that are looked at
abbrev pub path_steps : List PlainLabel → PlainNodes → ℕ
path_steps [] ks = 0
path_steps (l ∷ ls) ks = most_probes (length (nodes_list ks)) + onward (path_steps ls) (node_with l (nodes_list ks))

abbrev pub steps_along : PlainArchive → List PlainLabel → ℕ
steps_along a path = path_steps path a.kids
