-- The timestamp tree that is written, by the places of its sets.
use Rattle.std.specs.Prelude.{◌≡◌, ℕ, ◌+◌, ◌<◌, ◌≤◌, List, [], ◌∷◌, ◌++◌, length, map}
use Rattle.version_set.specs.Members.{united}
use Rattle.version_set.specs.declared.set.VersionSet.{VersionSet}
use Rattle.timestamp_tree.specs.Data.{PlainTs, top}
use Rattle.timestamp_tree.specs.Bytes.{stored, tree_bytes}
use Rattle.record_writer.specs.Places.{set_at, above}
use Rattle.record_writer.specs.declared.plan.Plan.{Plan}
use Rattle.record_writer.specs.declared.plan.TreeNode.{TreeNode}

-- a node without its parts
abbrev pub node_bytes : List VersionSet → TreeNode → List ℕ
node_bytes sets n = stored (set_at sets n.set) n.left

-- the nodes from the last to the first
abbrev pub spelled : List VersionSet → List TreeNode → List ℕ
spelled sets [] = []
spelled sets (n ∷ ns) = spelled sets ns ++ node_bytes sets n

abbrev pub set_of : TreeNode → ℕ
set_of n = n.set

-- the first number above the places of all sets
abbrev pub above_nodes : List TreeNode → ℕ
above_nodes ns = above (map set_of ns)

-- sets were added
abbrev pub IsMore : List VersionSet → List VersionSet → Type 0
IsMore old new = (more : List VersionSet) × (new ≡ old ++ more)

-- the place of the union of two sets
pub record United (old new : List VersionSet) (one two at : ℕ) : Type 0 where
  pub more : IsMore old new
  pub known : at < length new
  pub set : set_at new at ≡ united (set_at old one) (set_at old two)

-- a node was added above two trees
pub record Joined (old new : List VersionSet) (before after : List TreeNode) (left right plan : Plan) : Type 0 where
  pub more : IsMore old new
  pub known : above_nodes after ≤ length new
  pub at : plan.set < length new
  pub set : set_at new plan.set ≡ united (set_at old left.set) (set_at old right.set)
  pub size : plan.size ≡ length (stored (set_at new plan.set) left.size) + (left.size + right.size)
  pub nodes : spelled new after ≡ stored (set_at new plan.set) left.size ++ spelled old before

-- a tree was added
pub record Planned (old new : List VersionSet) (before after : List TreeNode) (t : PlainTs) (plan : Plan) : Type 0 where
  pub more : IsMore old new
  pub known : above_nodes after ≤ length new
  pub at : plan.set < length new
  pub set : set_at new plan.set ≡ top t
  pub size : plan.size ≡ length (tree_bytes t)
  pub nodes : spelled new after ≡ tree_bytes t ++ spelled old before
