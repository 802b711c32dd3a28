-- The record that closes a row, planned.
use Rattle.std.specs.Prelude.{◌≡◌, ◌≤◌, List, length}
use Rattle.record_format.specs.Spelling.{sets_bytes}
use Rattle.record_writer.specs.Plans.{above_nodes, spelled}
use Rattle.record_writer.specs.Rows.{row_view}
use Rattle.record_writer.specs.declared.plan.TreeNode.{TreeNode}
use Rattle.record_writer.specs.declared.rows.Row.{Row}

-- the row has the sets of the nodes too, and they spell the tree over the sets of its children
pub record Laid (old new : Row) (nodes : List TreeNode) : Type 0 where
  pub row : row_view new ≡ row_view old
  pub known : above_nodes nodes ≤ length new.sets.items
  pub tree : spelled new.sets.items nodes ≡ sets_bytes (row_view old).dir.sets
