-- What is done where no number of a node is left.
use Rattle.std.specs.Prelude.{ℕ, List, [], ◌∷◌, ◌++◌, Bool, ◌<◌, Option, Some, None, option_map, Result, Ok, Err, IfOk, OnOk, IsTrue, IsFalse, ⊤}
use Rattle.archive_tree.specs.Data.{PlainAlt, PlainNode, PlainNodes}
use Rattle.record_cursor.specs.Items.{PlainItem, leaf_end_item, end_item}
use Rattle.record_cursor.specs.Moves.{Comes}
use Rattle.record_cursor.specs.declared.fault.CursorFault.{CursorFault}
use Rattle.record_cursor.specs.declared.fault.CursorFault.TheVariants.{Damage}
use Rattle.record_copy.specs.Faults.{of_cursor}
use Rattle.record_copy.specs.Passes.{Passes}
use Rattle.record_copy.specs.State.{State}
use Rattle.record_copy.specs.declared.kind.Kind.{Kind}
use Rattle.record_copy.specs.declared.kind.Kind.TheVariants.{Inner, Leaf}
use Rattle.record_cursor.specs.NodeItems.{alt_items, node_items, row_items}

abbrev pub ended_by : {T : Type 0} → Result T CursorFault → Option CursorFault
ended_by (Ok x) = None
ended_by (Err e) = Some e

-- these items come next, or it failed, but for no damage
abbrev pub Follows : List PlainItem → State → Option CursorFault → Type 0
Follows next t None = Comes t.files t.cursor next
Follows next t (Some Damage) = ⊥
Follows next t (Some other) = ⊤

-- The nodes of a row are passed over, where they come and the END behind them.
pub record RowSkipped (s t : State) (ended : Option CursorFault) : Type 0 where
  pub passes : Passes [] s t (option_map of_cursor ended)
  pub row : (q : List (ℕ × ℕ)) (ks : PlainNodes) (n : ℕ) (next : List PlainItem) → Comes s.files s.cursor (row_items q ks ++ end_item n ∷ next) → Follows next t ended

-- The alternatives of a leaf are, and its end.
pub record AltsSkipped (s t : State) (ended : Option CursorFault) : Type 0 where
  pub passes : Passes [] s t (option_map of_cursor ended)
  pub alternatives : (xs : List PlainAlt) (next : List PlainItem) → Comes s.files s.cursor (alt_items xs ++ leaf_end_item ∷ next) → Follows next t ended

-- The next node of a row is, or the END behind the row: whether there was a node.
pub record ChildSkipped (s t : State) (more : Result Bool CursorFault) : Type 0 where
  pub passes : Passes [] s t (option_map of_cursor (ended_by more))
  pub onward : OnOk more (s.cursor.at < t.cursor.at)
  pub node_skipped : (q : List (ℕ × ℕ)) (k : PlainNode) (next : List PlainItem) → Comes s.files s.cursor (node_items q k ++ next) → IfOk more (λ m. IsTrue m) × Follows next t (ended_by more)
  pub end_taken : (n : ℕ) (next : List PlainItem) → Comes s.files s.cursor (end_item n ∷ next) → IfOk more (λ m. IsFalse m) × Follows next t (ended_by more)

-- What is inside a node of this kind is.
abbrev pub BegunSkipped : Kind → State → State → Option CursorFault → Type 0
BegunSkipped Inner s t ended = RowSkipped s t ended
BegunSkipped Leaf s t ended = AltsSkipped s t ended
