-- What one node of a stored tree says of a version.
use Rattle.std.specs.Prelude.{ℕ, ◌+◌, ◌≤◌, ◌<◌, ◌^◌, List, length, Bool, Option}
use Rattle.version_set.specs.Members.{members, has}
use Rattle.timestamp_tree.specs.Bytes.{stored}
use Rattle.record_parts.specs.Bounds.{IsSet}
use Rattle.record_cursor.specs.Moves.{TellsFront}
use Rattle.xa_outside.specs.Folder.{Files}
use Rattle.file_rows.specs.StandsAt.{StandsAt}
use Rattle.file_get.specs.declared.node.Probe.{Probe}

-- whether the set has i, the byte size of the left part, and how many bytes the node has itself
abbrev pub says : ℕ → List (ℕ × ℕ) → ℕ → Bool × ℕ × ℕ
says i s left = (has (members s) i, left, length (stored s left))

abbrev pub says_of : ℕ → List (ℕ × ℕ) × ℕ → Bool × ℕ × ℕ
says_of i node = says i node.0 node.1

abbrev pub probe_view : Probe → Bool × ℕ × ℕ
probe_view probe = (probe.has, probe.left, probe.size)

-- A node with this set and a left part of this size stands at an offset of a file that is told, and ends before another.
pub record NodeTold (files : Option Files) (name bytes : List ℕ) (last at limit : ℕ) (s : List (ℕ × ℕ)) (left : ℕ) : Type 0 where
  pub tells : TellsFront files name last bytes
  pub within : limit ≤ last
  pub stands : StandsAt bytes at (stored s left)
  pub fits : at + length (stored s left) ≤ limit
  pub set : IsSet s
  pub some : 1 ≤ length s
  pub short : left < 2 ^ 64
