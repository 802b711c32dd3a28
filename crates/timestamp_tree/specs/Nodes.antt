-- A node of a tree that is read out of a file.
use Rattle.std.specs.Prelude.{◌≡◌, ◌≤◌, ◌<◌, ⊤, ℕ, ◌+◌, ◌*◌, List, length, take, drop, Option, Some, None, Result, Ok, Err}
use Rattle.std.specs.FinMap as map
use Rattle.std.specs.Int.{w32, w64}
use Rattle.xa_fields.specs.Reading.{Reader, number_at, chain_at, both_at}
use Rattle.xa_outside.specs.Causes.{Rose}
use Rattle.xa_outside.specs.Folder.{Files, bytes_or_none}
use Rattle.version_set.specs.View.{pairs_of}
use Rattle.timestamp_tree.specs.Reading.{pair_at, next_pair, stored_at}
use Rattle.timestamp_tree.specs.declared.node.Node.{Node}
use Rattle.timestamp_tree.specs.declared.fault.NodeFault.{NodeFault}
use Rattle.timestamp_tree.specs.declared.fault.NodeFault.TheVariants.{Damage, Folder}

-- a stored node, as plain data: the intervals of its set, the byte size of its left part, and its own size
pub record StoredNode : Type 0 where
  pub pairs : List (ℕ × ℕ)
  pub left : ℕ
  pub size : ℕ

abbrev pub stored_view : Node → StoredNode
stored_view node = record { pairs = pairs_of node.set; left = node.left; size = node.size }

-- ---- what a fault says

abbrev pub IfDamage : NodeFault → Type 0 → Type 0
IfDamage Damage P = P
IfDamage other P = ⊤

abbrev pub IfFolder : NodeFault → Type 0 → Type 0
IfFolder Folder P = P
IfFolder other P = ⊤

abbrev pub fault_of : {T : Type 0} → Result T NodeFault → Option NodeFault
fault_of (Ok x) = None
fault_of (Err e) = Some e

abbrev pub IsCause : ℕ → ℕ → Option NodeFault → Type 0
IsCause before now None = ⊤
IsCause before now (Some e) = IfFolder e (Rose before now)

-- Files and draft stay, and the folder fails only where its count rose.
pub record OnlyReads {S : Type 0} (files : S → Option Files) (draft : S → Option (List ℕ)) (faults : S → ℕ) (old new : S) (ended : Option NodeFault) : Type 0 where
  pub same_files : files new ≡ files old
  pub same_draft : draft new ≡ draft old
  pub later : faults old ≤ faults new
  pub cause : IsCause (faults old) (faults new) ended

-- ---- what stands in a piece of a file

-- the bytes of a file from an offset on, as far as the other
abbrev pub piece_of : Files → List ℕ → ℕ → ℕ → List ℕ
piece_of files name at limit = drop at (take limit (bytes_or_none (map.get files name)))

-- so many bytes at the front of the piece, and damage where it has fewer
abbrev pub TellsBytes : {T : Type 0} → ℕ → List ℕ → List ℕ → Result T NodeFault → Type 0
TellsBytes n piece bytes (Ok x) = bytes ≡ take n piece
TellsBytes n piece bytes (Err e) = IfDamage e (length piece < n)

-- the node at the front of the piece, and damage where none stands there
abbrev pub TellsNode : ℕ → List ℕ → Result Node NodeFault → Type 0
TellsNode most piece (Ok node) = stored_at most piece ≡ Some ((pairs_of node.set, node.left), drop node.size piece)
TellsNode most piece (Err e) = IfDamage e (stored_at most piece ≡ None)

-- the number of the intervals of that node
abbrev pub TellsCount : List ℕ → Result ℕ NodeFault → Type 0
TellsCount piece (Ok n) = number_at w32 piece ≡ Some (n, drop 4 piece)
TellsCount piece (Err e) = IfDamage e ((most : ℕ) → stored_at most piece ≡ None)

-- so many intervals of numbers up to `most`, and the byte size of the left part
abbrev pub parts_at : ℕ → ℕ → Reader (List (ℕ × ℕ) × ℕ)
parts_at most n = both_at (chain_at pair_at (next_pair most) 1 n) (number_at w64)

-- the node whose number of intervals stands before the piece
abbrev pub TellsParts : ℕ → ℕ → List ℕ → Result Node NodeFault → Type 0
TellsParts most n piece (Ok node) = parts_at most n piece ≡ Some ((pairs_of node.set, node.left), drop (8 * n + 8) piece)
TellsParts most n piece (Err e) = IfDamage e (parts_at most n piece ≡ None)
