-- What a node of a tree that is read out of a file says of a number.
use Rattle.std.specs.Prelude.{◌≡◌, ℕ, List, Bool, length, Some, None, option_map, Result, Ok, Err}
use Rattle.version_set.specs.Members.{members, has}
use Rattle.timestamp_tree.specs.Bytes.{stored}
use Rattle.timestamp_tree.specs.Nodes.{IfDamage}
use Rattle.timestamp_tree.specs.Reading.{some_stored_at}
use Rattle.timestamp_tree.specs.declared.fault.NodeFault.{NodeFault}
use Rattle.timestamp_tree.specs.declared.probe.Probe.{Probe}

-- whether the set of a node has i, the byte size of its left part, and how many bytes it has itself
abbrev pub said_of : ℕ → (List (ℕ × ℕ) × ℕ) × List ℕ → Bool × ℕ × ℕ
said_of i x = (has (members x.0.0) i, x.0.1, length (stored x.0.0 x.0.1))

-- what the node at the front of the piece says of i, and damage where none stands there
abbrev pub TellsProbe : ℕ → ℕ → List ℕ → Result Probe NodeFault → Type 0
TellsProbe most i piece (Ok p) = option_map (said_of i) (some_stored_at most piece) ≡ Some (p.has, p.left, p.size)
TellsProbe most i piece (Err e) = IfDamage e (some_stored_at most piece ≡ None)
