-- What is done with the nodes of an archive, under a parent that had a set.
use Rattle.std.specs.Prelude.{option_map, ◌≡◌, ◌<◌, ◌≤◌, ◌+◌, ℕ, List, [], ◌∷◌, ◌++◌, length, map, Bool, Option, Some, None, Result, IfOk, OnOk, IsTrue, IsFalse, ⊤, if◌then◌else◌}
use Rattle.timestamp_tree.specs.Bytes.{set_bytes}
use Rattle.version_set.specs.Members.{members}
use Rattle.archive_tree.specs.Data.{Stamp, PlainAlt, PlainNode, inner_node, leaf_node, PlainNodes, no_nodes, node, node_stamp}
use Rattle.archive_tree.specs.Stands.{AllDiffer, first_num}
use Rattle.record_format.specs.Nodes.{set_in}
use Rattle.record_cursor.specs.Items.{PlainItem, leaf_end_item, end_item}
use Rattle.record_cursor.specs.Moves.{Comes}
use Rattle.record_cursor.specs.declared.fault.CursorFault.{CursorFault}
use Rattle.record_writer.specs.Data.{PlainWriter, WriterCall, call_end_leaf, call_end_inner}
use Rattle.record_writer.specs.Walks.{alt_calls, node_calls, row_calls}
use Rattle.record_copy.specs.Faults.{Unless, fault_of, of_cursor}
use Rattle.record_copy.specs.Passes.{Rests, Closes, IsOpen}
use Rattle.record_copy.specs.Runs.{Run}
use Rattle.record_copy.specs.Short.{AreShort}
use Rattle.record_copy.specs.State.{State}
use Rattle.record_copy.specs.declared.kind.Kind.{Kind}
use Rattle.record_copy.specs.declared.kind.Kind.TheVariants.{Inner, Leaf}
use Rattle.record_copy.specs.declared.fault.CopyFault.{CopyFault}
use Rattle.record_cursor.specs.NodeItems.{alt_items, node_items, row_items}
use Rattle.archive_cut.specs.Runs.{Matches}
use Rattle.archive_cut.specs.Short.{IsLeftOf}
use Rattle.archive_cut.specs.Skipped.{BegunSkipped}
use Rattle.archive_cut.specs.Sliced.{cut_set, is_gone, left_alts, sliced_alts, sliced_node, sliced_row}

-- the first numbers of what is left of the alternatives of a leaf that had q differ
abbrev pub AreAltsApart : ℕ → ℕ → List (ℕ × ℕ) → List PlainAlt → Type 0
AreAltsApart i j q xs = AllDiffer (map (first_num (members (cut_set i j q))) (left_alts i j q xs))

-- they do in each leaf
abbrev mutual
  pub IsApart : ℕ → ℕ → List (ℕ × ℕ) → PlainNode → Type 0
  IsApart i j q (inner_node l s ks) = AreApart i j (set_in s q) ks
  IsApart i j q (leaf_node l s xs) = AreAltsApart i j (set_in s q) xs

  pub AreApart : ℕ → ℕ → List (ℕ × ℕ) → PlainNodes → Type 0
  AreApart i j q no_nodes = ⊤
  AreApart i j q (node k ks) = IsApart i j q k × AreApart i j q ks

-- the calls that write what is left of a node under a parent that had q
abbrev pub calls_left : ℕ → ℕ → List (ℕ × ℕ) → PlainNode → List WriterCall
calls_left i j q k = if is_gone i j (set_in (node_stamp k) q) then [] else node_calls (cut_set i j q) (sliced_node i j q k)

-- What is left of the nodes of a row is written, where they come and the END behind them.
pub record RowCut (i j : ℕ) (q : List (ℕ × ℕ)) (s t : State) (ended : Option CopyFault) : Type 0 where
  pub made : List WriterCall
  pub next : WriterCall
  pub run : Run made next s t ended
  pub rests : Unless ended (Rests s.writer t.writer)
  pub short : (b : ℕ) → s.cursor.length + 12 ≤ b → length (set_bytes q) ≤ b → AreShort (IsLeftOf b i j) b made next ended
  pub row : (ks : PlainNodes) (m : ℕ) (behind : List PlainItem) → Comes s.files s.cursor (row_items q ks ++ end_item m ∷ behind) → AreApart i j q ks
      → Matches (row_calls (cut_set i j q) (sliced_row i j q ks)) made next behind t ended

-- And the inner node that they are in is closed.
pub record InsideCut (i j : ℕ) (q : List (ℕ × ℕ)) (s t : State) (ended : Option CopyFault) : Type 0 where
  pub made : List WriterCall
  pub next : WriterCall
  pub run : Run made next s t ended
  pub closed : Unless ended (Closes s.writer t.writer)
  pub short : (b : ℕ) → s.cursor.length + 12 ≤ b → length (set_bytes q) ≤ b → AreShort (IsLeftOf b i j) b made next ended
  pub inside : (ks : PlainNodes) (m : ℕ) (behind : List PlainItem) → Comes s.files s.cursor (row_items q ks ++ end_item m ∷ behind) → AreApart i j q ks
      → Matches (row_calls (cut_set i j q) (sliced_row i j q ks) ++ call_end_inner ∷ []) made next behind t ended

-- What is left of the alternatives of a leaf is written, where they come and its end, and the leaf is closed.
pub record LeafCut (i j : ℕ) (q : List (ℕ × ℕ)) (s t : State) (ended : Option CopyFault) : Type 0 where
  pub made : List WriterCall
  pub next : WriterCall
  pub run : Run made next s t ended
  pub rests : Unless ended (Rests s.writer t.writer)
  pub short : (b : ℕ) → s.cursor.length + 12 ≤ b → length (set_bytes q) ≤ b → AreShort (IsLeftOf b i j) b made next ended
  pub alternatives : (xs : List PlainAlt) (behind : List PlainItem) → Comes s.files s.cursor (alt_items xs ++ leaf_end_item ∷ behind) → AreAltsApart i j q xs
      → Matches (alt_calls (sliced_alts i j q xs) ++ call_end_leaf ∷ []) made next behind t ended

-- The same of what is inside a node of this kind.
abbrev pub BegunCut : Kind → ℕ → ℕ → List (ℕ × ℕ) → State → State → Option CopyFault → Type 0
BegunCut Inner i j q s t ended = InsideCut i j q s t ended
BegunCut Leaf i j q s t ended = LeafCut i j q s t ended

-- what was inside a node of this kind was passed over
pub record Gone (kind : Kind) (s t : State) (ended : Option CopyFault) : Type 0 where
  pub fault : Option CursorFault
  pub is : ended ≡ option_map of_cursor fault
  pub skipped : BegunSkipped kind s t fault
  pub same_writer : t.writer ≡ s.writer

-- What is inside a node that was read is cut, or passed over where no stamp is left.
abbrev pub OpenedCut : Kind → ℕ → ℕ → List (ℕ × ℕ) → Stamp → Option Stamp → State → State → Option CopyFault → Type 0
OpenedCut kind i j q st (Some s') s t ended = BegunCut kind i j (set_in st q) s t ended
OpenedCut kind i j q st None s t ended = Gone kind s t ended

-- a node of this kind stands begun, if a stamp is left
abbrev pub IsOpenIf : Kind → Option Stamp → PlainWriter → Type 0
IsOpenIf kind (Some s) w = IsOpen kind w
IsOpenIf kind None w = ⊤

-- its set is what is left of the node's own, under a parent that had q and has now
abbrev pub IsOwnLeft : ℕ → ℕ → List (ℕ × ℕ) → List (ℕ × ℕ) → Stamp → Option Stamp → Type 0
IsOwnLeft i j q now st (Some s) = set_in s now ≡ cut_set i j (set_in st q)
IsOwnLeft i j q now st None = ⊤

-- What is left of the next node of a row is written, or the END behind the row taken: whether there was a node.
pub record ChildCut (i j : ℕ) (q : List (ℕ × ℕ)) (s t : State) (more : Result Bool CopyFault) : Type 0 where
  pub made : List WriterCall
  pub next : WriterCall
  pub run : Run made next s t (fault_of more)
  pub rests : OnOk more (Rests s.writer t.writer)
  pub onward : OnOk more (s.cursor.at < t.cursor.at)
  pub short : (b : ℕ) → s.cursor.length + 12 ≤ b → length (set_bytes q) ≤ b → AreShort (IsLeftOf b i j) b made next (fault_of more)
  pub node_cut : (k : PlainNode) (behind : List PlainItem) → Comes s.files s.cursor (node_items q k ++ behind) → IsApart i j q k
      → IfOk more (λ m. IsTrue m) × Matches (calls_left i j q k) made next behind t (fault_of more)
  pub end_taken : (m : ℕ) (behind : List PlainItem) → Comes s.files s.cursor (end_item m ∷ behind) → IfOk more (λ m. IsFalse m) × Matches [] made next behind t (fault_of more)
