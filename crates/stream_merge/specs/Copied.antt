-- What is done where only the archive has the nodes that come.
use Rattle.std.specs.Prelude.{◌<◌, ◌≤◌, ◌+◌, ℕ, List, [], ◌∷◌, ◌++◌, Bool, Option, Result, IfOk, OnOk, IsTrue, IsFalse}
use Rattle.std.specs.List.{AllByRecursion}
use Rattle.archive_tree.specs.Data.{PlainAlt, PlainNode, PlainNodes}
use Rattle.record_cursor.specs.Items.{PlainItem, leaf_end_item, end_item}
use Rattle.record_cursor.specs.Moves.{Comes}
use Rattle.record_writer.specs.Data.{call_end_leaf, call_end_inner}
use Rattle.record_writer.specs.Walks.{alt_calls, node_calls, row_calls}
use Rattle.stream_merge.specs.Does.{Does}
use Rattle.stream_merge.specs.Items.{IsWithin}
use Rattle.stream_merge.specs.Passes.{Passes, Rests, Closes, Unless, fault_of, unpaid, unpaid_at}
use Rattle.stream_merge.specs.Room.{WentIf}
use Rattle.stream_merge.specs.Short.{IsShortSet}
use Rattle.record_copy.specs.State.{State}
use Rattle.stream_merge.specs.declared.begin.Kind.{Kind}
use Rattle.stream_merge.specs.declared.begin.Kind.TheVariants.{Inner, Leaf}
use Rattle.stream_merge.specs.declared.fault.MergeFault.{MergeFault}
use Rattle.record_cursor.specs.NodeItems.{alt_items, node_items, row_items}

-- The nodes of a row under a node that has this set are written, where they come and the END behind them.
pub record RowCopied (q : List (ℕ × ℕ)) (s t : State) (ended : Option MergeFault) : Type 0 where
  pub appended : List ℕ
  pub passes : Passes appended unpaid s t ended
  pub rests : Unless ended (Rests s.writer t.writer)
  pub went : (b n : ℕ) → s.cursor.length + 12 ≤ b → IsShortSet b n q → WentIf b n appended s.writer t.writer ended
  pub row : (w : ℕ) (ks : PlainNodes) (n : ℕ) (next : List PlainItem) → AllByRecursion (IsWithin w) (row_items q ks ++ end_item n ∷ []) → Comes s.files s.cursor (row_items q ks ++ end_item n ∷ next)
      → Does appended w (row_calls q ks) next s t ended

-- And the inner node that they are in is closed.
pub record InsideCopied (q : List (ℕ × ℕ)) (s t : State) (ended : Option MergeFault) : Type 0 where
  pub appended : List ℕ
  pub passes : Passes appended 0 s t ended
  pub closed : Unless ended (Closes s.writer t.writer)
  pub went : (b n : ℕ) → s.cursor.length + 12 ≤ b → IsShortSet b n q → WentIf b n appended s.writer t.writer ended
  pub inside : (w : ℕ) (ks : PlainNodes) (n : ℕ) (next : List PlainItem) → AllByRecursion (IsWithin w) (row_items q ks ++ end_item n ∷ []) → Comes s.files s.cursor (row_items q ks ++ end_item n ∷ next)
      → Does appended w (row_calls q ks ++ call_end_inner ∷ []) next s t ended

-- The next node of a row is written, or the END behind the row taken: whether there was a node.
pub record ChildCopied (q : List (ℕ × ℕ)) (s t : State) (more : Result Bool MergeFault) : Type 0 where
  pub appended : List ℕ
  pub passes : Passes appended (unpaid_at more) s t (fault_of more)
  pub rests : OnOk more (Rests s.writer t.writer)
  pub onward : OnOk more (s.cursor.at < t.cursor.at)
  pub went : (b n : ℕ) → s.cursor.length + 12 ≤ b → IsShortSet b n q → WentIf b n appended s.writer t.writer (fault_of more)
  pub node_copied : (w : ℕ) (k : PlainNode) (next : List PlainItem) → AllByRecursion (IsWithin w) (node_items q k) → Comes s.files s.cursor (node_items q k ++ next)
      → IfOk more (λ m. IsTrue m) × Does appended w (node_calls q k) next s t (fault_of more)
  pub end_taken : (w : ℕ) (n : ℕ) (next : List PlainItem) → IsWithin w (end_item n) → Comes s.files s.cursor (end_item n ∷ next)
      → IfOk more (λ m. IsFalse m) × Does appended w [] next s t (fault_of more)

-- The alternatives of a leaf are written, where they come and its end, and the leaf is closed.
pub record AltsCopied (s t : State) (ended : Option MergeFault) : Type 0 where
  pub appended : List ℕ
  pub passes : Passes appended 0 s t ended
  pub rests : Unless ended (Rests s.writer t.writer)
  pub went : (b n : ℕ) → s.cursor.length + 12 ≤ b → WentIf b n appended s.writer t.writer ended
  pub alternatives : (w : ℕ) (xs : List PlainAlt) (next : List PlainItem) → AllByRecursion (IsWithin w) (alt_items xs ++ leaf_end_item ∷ []) → Comes s.files s.cursor (alt_items xs ++ leaf_end_item ∷ next)
      → Does appended w (alt_calls xs ++ call_end_leaf ∷ []) next s t ended

-- What is inside a node of this kind is written, and the node is closed.
abbrev pub BegunCopied : Kind → List (ℕ × ℕ) → State → State → Option MergeFault → Type 0
BegunCopied Inner q s t ended = InsideCopied q s t ended
BegunCopied Leaf q s t ended = AltsCopied s t ended
