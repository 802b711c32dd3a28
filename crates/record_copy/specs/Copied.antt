-- What is done with the nodes that are copied, seen with n more in each number.
use Rattle.std.specs.Prelude.{◌≡◌, ◌<◌, ◌≤◌, ◌+◌, ℕ, List, [], ◌∷◌, ◌++◌, Bool, Option, Result, IfOk, OnOk, IsTrue, IsFalse}
use Rattle.archive_tree.specs.Data.{Stamp, PlainAlt, PlainNode, inner_node, leaf_node, PlainNodes}
use Rattle.record_cursor.specs.Items.{PlainItem, leaf_end_item, end_item}
use Rattle.record_writer.specs.Data.{WriterCall, call_end_leaf, call_end_inner}
use Rattle.record_writer.specs.Walks.{alt_calls, node_calls, row_calls}
use Rattle.record_copy.specs.Faults.{Unless, fault_of}
use Rattle.record_copy.specs.Parts.{PlainHead, head_of}
use Rattle.record_copy.specs.Passes.{Rests, Closes, call_of}
use Rattle.record_copy.specs.Runs.{Run, Matches}
use Rattle.record_copy.specs.Seen.{Coming, node_items, row_items, inside_items}
use Rattle.record_copy.specs.Short.{AreShort, IfStored, IsShortLabel, IsRaisedOf}
use Rattle.record_copy.specs.State.{State}
use Rattle.record_copy.specs.declared.kind.Kind.{Kind}
use Rattle.record_copy.specs.declared.kind.Kind.TheVariants.{Inner, Leaf}
use Rattle.record_copy.specs.declared.fault.CopyFault.{CopyFault}
use Rattle.record_cursor.specs.NodeItems.{alt_items}

-- the calls that write what is inside a node that has the set, and close it
abbrev pub inside_calls : List (ℕ × ℕ) → PlainNode → List WriterCall
inside_calls set (inner_node l s ks) = row_calls set ks ++ call_end_inner ∷ []
inside_calls set (leaf_node l s xs) = alt_calls xs ++ call_end_leaf ∷ []

-- The calls are short, of archives of which each record has few bytes, where the set passes.
abbrev pub ShortWhere : ℕ → List (ℕ × ℕ) → List WriterCall → WriterCall → State → Option CopyFault → Type 0
ShortWhere n set made next s ended = (b : ℕ) → s.cursor.length + 12 ≤ b → IsRaisedOf b n set → AreShort (IsRaisedOf b n) b made next ended

-- The nodes of a row are copied, where they come and the END behind them.
pub record RowCopied (n : ℕ) (set : List (ℕ × ℕ)) (s t : State) (ended : Option CopyFault) : Type 0 where
  pub made : List WriterCall
  pub next : WriterCall
  pub run : Run made next s t ended
  pub rests : Unless ended (Rests s.writer t.writer)
  pub short : ShortWhere n set made next s ended
  pub row : (ks : PlainNodes) (behind : List PlainItem) → Coming n s.files s.cursor (row_items ks ++ end_item 0 ∷ behind) → Matches n (row_calls set ks) made next behind t ended

-- And the inner node that they are in is closed.
pub record InsideCopied (n : ℕ) (set : List (ℕ × ℕ)) (s t : State) (ended : Option CopyFault) : Type 0 where
  pub made : List WriterCall
  pub next : WriterCall
  pub run : Run made next s t ended
  pub closed : Unless ended (Closes s.writer t.writer)
  pub short : ShortWhere n set made next s ended
  pub inside : (ks : PlainNodes) (behind : List PlainItem) → Coming n s.files s.cursor (row_items ks ++ end_item 0 ∷ behind) → Matches n (row_calls set ks ++ call_end_inner ∷ []) made next behind t ended

-- The alternatives of a leaf are copied, where they come and its end, and the leaf is closed.
pub record AlternativesCopied (n : ℕ) (s t : State) (ended : Option CopyFault) : Type 0 where
  pub made : List WriterCall
  pub next : WriterCall
  pub run : Run made next s t ended
  pub rests : Unless ended (Rests s.writer t.writer)
  pub short : (b : ℕ) → s.cursor.length + 12 ≤ b → AreShort (IsRaisedOf b n) b made next ended
  pub alternatives : (xs : List PlainAlt) (behind : List PlainItem) → Coming n s.files s.cursor (alt_items xs ++ leaf_end_item ∷ behind) → Matches n (alt_calls xs ++ call_end_leaf ∷ []) made next behind t ended

-- The same of what is inside a node of this kind.
abbrev pub BegunCopied : Kind → ℕ → List (ℕ × ℕ) → State → State → Option CopyFault → Type 0
BegunCopied Inner n set s t ended = InsideCopied n set s t ended
BegunCopied Leaf n set s t ended = AlternativesCopied n s t ended

-- A node whose head was read is written with this timestamp and set, and what is inside it is copied, where it comes.
pub record NodeCopied (n : ℕ) (h : PlainHead) (stamp : Stamp) (set : List (ℕ × ℕ)) (s t : State) (ended : Option CopyFault) : Type 0 where
  pub made : List WriterCall
  pub next : WriterCall
  pub run : Run made next s t ended
  pub rests : Unless ended (Rests s.writer t.writer)
  pub short : (b : ℕ) → s.cursor.length + 12 ≤ b → IsShortLabel b h.label → IfStored (IsRaisedOf b n) stamp → IsRaisedOf b n set → AreShort (IsRaisedOf b n) b made next ended
  pub inside : (k : PlainNode) (behind : List PlainItem) → h ≡ head_of k → Coming n s.files s.cursor (inside_items k ++ behind) → Matches n (call_of h.kind h.label stamp set ∷ inside_calls set k) made next behind t ended

-- The next node of a row is copied, or the END behind the row taken: whether there was a node.
pub record ChildCopied (n : ℕ) (set : List (ℕ × ℕ)) (s t : State) (more : Result Bool CopyFault) : Type 0 where
  pub made : List WriterCall
  pub next : WriterCall
  pub run : Run made next s t (fault_of more)
  pub rests : OnOk more (Rests s.writer t.writer)
  pub onward : OnOk more (s.cursor.at < t.cursor.at)
  pub short : ShortWhere n set made next s (fault_of more)
  pub node : (k : PlainNode) (behind : List PlainItem) → Coming n s.files s.cursor (node_items k ++ behind) → IfOk more (λ m. IsTrue m) × Matches n (node_calls set k) made next behind t (fault_of more)
  pub end_taken : (behind : List PlainItem) → Coming n s.files s.cursor (end_item 0 ∷ behind) → IfOk more (λ m. IsFalse m) × Matches n [] made next behind t (fault_of more)
