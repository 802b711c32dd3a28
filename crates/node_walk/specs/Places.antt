-- Where a cursor stands in a walk.
use Rattle.std.specs.Prelude.{⊤, ℕ, ◌-◌}
use Rattle.record_parts.specs.Bounds.{deepest}
use Rattle.record_cursor.specs.Places.{Standing, among_nodes, in_leaf, behind_root, finished}
use Rattle.node_walk.specs.Seen.{Seen}

-- below how many open inner nodes
abbrev pub depth_of : Standing → ℕ
depth_of (among_nodes depth) = depth
depth_of (in_leaf depth) = depth
depth_of (behind_root n) = 0
depth_of finished = 0

abbrev pub IsAmongNodes : Standing → Type 0
IsAmongNodes (among_nodes depth) = ⊤
IsAmongNodes (in_leaf depth) = ⊥
IsAmongNodes (behind_root n) = ⊥
IsAmongNodes finished = ⊥

abbrev pub IsInLeaf : Standing → Type 0
IsInLeaf (among_nodes depth) = ⊥
IsInLeaf (in_leaf depth) = ⊤
IsInLeaf (behind_root n) = ⊥
IsInLeaf finished = ⊥

-- how deep inner nodes may still nest
abbrev pub left_of : Seen → ℕ
left_of s = deepest - depth_of s.cursor.standing
