-- How many children a search by halving looks at.
use Rattle.std.specs.Prelude.{ℕ, zero, suc, ◌+◌, ◌/◌, List, [], ◌∷◌, length, take, drop, Option, Some, None, slice_get}
use Rattle.std.specs.declared.cmp.Ordering.{Ordering}
use Rattle.std.specs.declared.cmp.Ordering.TheVariants.{Less, Equal, Greater}
use Rattle.keyed_tree.specs.Data.{PlainLabel}
use Rattle.keyed_tree.specs.Order.{label_cmp}
use Rattle.archive_tree.specs.Data.{PlainNode, PlainNodes, node_label, nodes_list, PlainArchive}
use Rattle.archive_tree.specs.Seek.{node_with}
use Rattle.record_format.specs.Probed.{onward}

-- what f gives of the half that is left: the children behind the one at a position, where its label is less than the one that is wanted, those
-- before it, where it is greater, and none where it is found
abbrev pub beside : (List PlainNode → ℕ) → ℕ → List PlainNode → Ordering → ℕ
beside f at ks Less = f (drop (at + 1) ks)
beside f at ks Equal = 0
beside f at ks Greater = f (take at ks)

-- the child in the middle, and what f gives beside it
abbrev pub from_middle : (List PlainNode → ℕ) → PlainLabel → List PlainNode → Option PlainNode → ℕ
from_middle f wanted ks None = 0
from_middle f wanted ks (Some k) = 1 + beside f (length ks / 2) ks (label_cmp (node_label k) wanted)

-- the children that are looked at, where at most so many are
abbrev pub probes_within : ℕ → PlainLabel → List PlainNode → ℕ
probes_within zero wanted ks = 0
probes_within (suc d) wanted ks = from_middle (probes_within d wanted) wanted ks (slice_get ks (length ks / 2))

-- the children that are looked at until the label is found, or none is left where it would stand: at first the one in the middle
abbrev pub probes : PlainLabel → List PlainNode → ℕ
probes wanted ks = probes_within (length ks) wanted ks

-- at this row, and at the kids of each node that is found and is not the last of the path
abbrev pub path_probes : List PlainLabel → PlainNodes → ℕ
path_probes [] ks = 0
path_probes (l ∷ ls) ks = probes l (nodes_list ks) + onward (path_probes ls) (node_with l (nodes_list ks))

-- from the virtual root on
abbrev pub probes_along : PlainArchive → List PlainLabel → ℕ
probes_along a path = path_probes path a.kids
