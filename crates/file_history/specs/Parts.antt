-- What a part of a row is, and what looking at its middle gives.
use Rattle.std.specs.Prelude.{◌≡◌, ◌≤◌, ◌<◌, ◌+◌, ◌-◌, ◌*◌, ℕ, List, ◌++◌, map, length, Option, Some, None, IsTrue, ⊤}
use Rattle.std.specs.List.{flat_map, AllByRecursion}
use Rattle.keyed_tree.specs.Data.{PlainLabel}
use Rattle.keyed_tree.specs.Lists.{Ascends}
use Rattle.keyed_tree.specs.Order.{label_cmp}
use Rattle.archive_tree.specs.Data.{PlainNode, node_label}
use Rattle.archive_tree.specs.Seek.{node_with}
use Rattle.xa_outside.specs.Folder.{Files}
use Rattle.xa_outside.specs.Numbers.{Numbers}
use Rattle.record_parts.specs.Bounds.{deepest}
use Rattle.record_format.specs.Bounds.{IsRec, IsDir}
use Rattle.record_format.specs.Nested.{is_nested}
use Rattle.record_format.specs.Nodes.{Piece, piece_bytes, node_piece, dir_of}
use Rattle.record_format.specs.Probed.{opening, most_probes, greatest_sum}
use Rattle.record_format.specs.Spelling.{rec_bytes}
use Rattle.record_cursor.specs.Moves.{TellsFront}
use Rattle.file_rows.specs.StandsAt.{RowLaid}
use Rattle.file_rows.specs.View.{PlainRow, PlainChild}
use Rattle.file_history.specs.Halving.{probes}
use Rattle.file_history.specs.Opened.{IsFound}
use Rattle.file_history.specs.Pulled.{PullsBut}
use Rattle.file_history.specs.View.{PlainPart, part_view}
use Rattle.file_history.specs.declared.open.Found.{Found}
use Rattle.file_history.specs.declared.open.Opened.{Opened}
use Rattle.file_history.specs.declared.open.Opened.TheVariants as opened
use Rattle.file_history.specs.declared.search.Part.{Part}
use Rattle.file_history.specs.declared.search.Probed.{Probed}
use Rattle.file_history.specs.declared.search.Probed.TheVariants.{Here, Beside}

abbrev pub pieces_of : List (ℕ × ℕ) → List PlainNode → List Piece
pieces_of parent ns = map (node_piece parent) ns

-- how many bytes the nodes have
abbrev pub bytes_of : List (ℕ × ℕ) → List PlainNode → ℕ
bytes_of parent ns = length (flat_map piece_bytes (pieces_of parent ns))

abbrev pub opening_size : PlainNode → ℕ
opening_size k = length (rec_bytes (opening k))

-- an entry and an opening record for each node that is looked at
abbrev pub cost : List PlainNode → ℕ
cost ns = 24 * most_probes (length ns) + greatest_sum (most_probes (length ns)) (map opening_size ns)

-- The nodes `mid` of a row stand in the part, `front` before them and `back` behind them.
pub record PartIs (told : Option Files) (name bytes : List ℕ) (row : PlainRow) (parent : List (ℕ × ℕ)) (part : PlainPart) (front mid back : List PlainNode) : Type 0 where
  pub size : ℕ
  pub tells : TellsFront told name size bytes
  pub stands : RowLaid bytes row (pieces_of parent (front ++ (mid ++ back)))
  pub dir : IsDir (dir_of (pieces_of parent (front ++ (mid ++ back))))
  pub sorted : Ascends label_cmp (map node_label mid)
  pub opens : AllByRecursion (λ k. IsRec (opening k)) mid
  pub nested : AllByRecursion (λ k. IsTrue (is_nested (deepest - part.depth) k)) mid
  pub low : part.low ≡ length front
  pub high : part.high ≡ length front + length mid
  pub low_at : part.low_at ≡ row.first + bytes_of parent front
  pub high_at : part.high_at ≡ part.low_at + bytes_of parent mid

-- What is left to search has the node exactly where the whole has it, and takes one step less and fewer bytes.
pub record BesideIs (told : Option Files) (name bytes : List ℕ) (row : PlainRow) (parent : List (ℕ × ℕ)) (wanted : PlainLabel) (ns : List PlainNode) (old new : Numbers) (next : PlainPart) : Type 0 where
  pub front : List PlainNode
  pub mid : List PlainNode
  pub back : List PlainNode
  pub is : PartIs told name bytes row parent next front mid back
  pub same : node_with wanted ns ≡ node_with wanted mid
  pub steps : probes wanted ns ≡ 1 + probes wanted mid
  pub fewer : most_probes (length mid) + 1 ≤ most_probes (length ns)
  pub less : PullsBut (cost ns) (cost mid) old new

-- the node that is found, where one is
abbrev pub IsFoundIn : List ℕ → List (ℕ × ℕ) → Option PlainNode → Option Found → Type 0
IsFoundIn bytes parent None None = ⊤
IsFoundIn bytes parent None (Some f) = ⊥
IsFoundIn bytes parent (Some k) None = ⊥
IsFoundIn bytes parent (Some k) (Some f) = IsFound bytes parent k f

abbrev pub ProbedIs : Option Files → List ℕ → List ℕ → PlainRow → List (ℕ × ℕ) → PlainLabel → List PlainNode → Numbers → Numbers → Probed → Type 0
ProbedIs told name bytes row parent wanted ns old new (Here f) = IsFoundIn bytes parent (node_with wanted ns) (Some f) × (probes wanted ns ≡ 1)
ProbedIs told name bytes row parent wanted ns old new (Beside next) = BesideIs told name bytes row parent wanted ns old new (part_view next)

-- what is left to search is within the part, and smaller
abbrev pub IsSmaller : Part → Probed → Type 0
IsSmaller part (Here f) = ⊤
IsSmaller part (Beside next) = (next.high ≤ part.high) × (next.high - next.low < part.high - part.low)

-- the child in the middle, or what is left of the part beside it
abbrev pub IsTurned : PlainPart → ℕ → PlainChild → Opened → Probed → Type 0
IsTurned part middle child (opened.Here f) (Here g) = f ≡ g
IsTurned part middle child (opened.Here f) (Beside next) = ⊥
IsTurned part middle child opened.Before (Here g) = ⊥
IsTurned part middle child opened.Before (Beside next) = part_view next ≡ record { depth = part.depth; low = middle + 1; high = part.high; low_at = child.end; high_at = part.high_at }
IsTurned part middle child opened.Behind (Here g) = ⊥
IsTurned part middle child opened.Behind (Beside next) = part_view next ≡ record { depth = part.depth; low = part.low; high = middle; low_at = part.low_at; high_at = child.first }
