-- What is done where the archive has the nodes that come, beside a row of the version.
use Rattle.std.specs.Prelude.{◌≡◌, ◌<◌, ◌≤◌, ◌+◌, ℕ, List, [], ◌∷◌, ◌++◌, Option, Some, None, Result, IfOk, OnOk, IfSome, IsTrue}
use Rattle.std.specs.Option.{option_map}
use Rattle.std.specs.List.{AllByRecursion}
use Rattle.keyed_tree.specs.Data.{PlainLabel, PlainKeyed}
use Rattle.keyed_tree.specs.Kids.{kid_at}
use Rattle.keyed_parts.specs.View.{kids_view}
use Rattle.keyed_parts.specs.declared.kids.Kids.{Kids}
use Rattle.archive_tree.specs.Data.{Stamp, inner_node, PlainNode, PlainNodes, node_label}
use Rattle.nested_merge.specs.Below.{is_node_below, are_nodes_below}
use Rattle.nested_merge.specs.Fits.{if_there, fits, all_fit}
use Rattle.nested_merge.specs.Merged.{above, merged_row}
use Rattle.record_cursor.specs.Items.{PlainItem, end_item}
use Rattle.record_cursor.specs.Moves.{Comes}
use Rattle.record_writer.specs.Data.{call_end_inner}
use Rattle.record_writer.specs.Walks.{row_calls}
use Rattle.stream_merge.specs.Does.{Does}
use Rattle.stream_merge.specs.Items.{IsWithin}
use Rattle.stream_merge.specs.LeafMerged.{LeafMerged}
use Rattle.stream_merge.specs.Meets.{kids_with, met, rest_of}
use Rattle.stream_merge.specs.Passes.{Passes, Rests, Closes, Unless, fault_of, unpaid, unpaid_with}
use Rattle.stream_merge.specs.Room.{WentIf}
use Rattle.stream_merge.specs.Short.{AreShortSets, IsShortTree}
use Rattle.record_copy.specs.State.{State}
use Rattle.stream_merge.specs.View.{PlainInherited}
use Rattle.stream_merge.specs.declared.begin.Kind.{Kind}
use Rattle.stream_merge.specs.declared.begin.Kind.TheVariants.{Inner, Leaf}
use Rattle.stream_merge.specs.declared.fault.MergeFault.{MergeFault}
use Rattle.record_cursor.specs.NodeItems.{node_items, row_items}

-- The row is merged with these kids, where it comes and the END behind it.
pub record RowMerged (h : PlainInherited) (cs : List PlainKeyed) (s t : State) (ended : Option MergeFault) : Type 0 where
  pub appended : List ℕ
  pub passes : Passes appended unpaid s t ended
  pub rests : Unless ended (Rests s.writer t.writer)
  pub went : (b : ℕ) → s.cursor.length + 12 ≤ b → AreShortSets b h → AllByRecursion (IsShortTree b) cs → WentIf b h.number appended s.writer t.writer ended
  pub row : (w : ℕ) (ks : PlainNodes) (m : ℕ) (next : List PlainItem) → AllByRecursion (IsWithin w) (row_items h.before ks ++ end_item m ∷ []) → Comes s.files s.cursor (row_items h.before ks ++ end_item m ∷ next)
      → IsTrue (are_nodes_below h.number ks) → IsTrue (all_fit ks cs) → Does appended w (row_calls h.now (merged_row h.number h.before ks cs)) next s t ended

-- some kids that are left are those above a label
pub record IsAbove (cs left : List PlainKeyed) : Type 0 where
  pub label : PlainLabel
  pub are : left ≡ above label cs

-- The next node of the row is merged with the kids that are left, or the END behind the row taken: the kids that are left behind this node, or
-- None where the row has ended, and so all were written.
pub record ChildMerged (h : PlainInherited) (cs : List PlainKeyed) (s t : State) (left : Result (Option Kids) MergeFault) : Type 0 where
  pub appended : List ℕ
  pub passes : Passes appended (unpaid_with left) s t (fault_of left)
  pub rests : OnOk left (Rests s.writer t.writer)
  pub onward : OnOk left (s.cursor.at < t.cursor.at)
  pub went : (b : ℕ) → s.cursor.length + 12 ≤ b → AreShortSets b h → AllByRecursion (IsShortTree b) cs → WentIf b h.number appended s.writer t.writer (fault_of left)
  pub behind : IfOk left (λ r. IfSome r (λ ks. IsAbove cs (kids_view ks)))
  pub node_merged : (w : ℕ) (k : PlainNode) (next : List PlainItem) → AllByRecursion (IsWithin w) (node_items h.before k) → Comes s.files s.cursor (node_items h.before k ++ next)
      → IsTrue (is_node_below h.number k) → IsTrue (if_there (kid_at (node_label k) cs) (λ c. fits k c))
      → IfOk left (λ r. option_map kids_view r ≡ Some (above (node_label k) cs)) × Does appended w (row_calls h.now (met h.number h.before k cs)) next s t (fault_of left)
  pub end_taken : (w : ℕ) (m : ℕ) (next : List PlainItem) → IsWithin w (end_item m) → Comes s.files s.cursor (end_item m ∷ next)
      → IfOk left (λ r. r ≡ None) × Does appended w (row_calls h.now (rest_of h.number h.before cs)) next s t (fault_of left)

-- The inside of an inner node is merged with what the version has of it, or with nothing, and the node is closed.
pub record InsideMerged (own : PlainInherited) (kid : Option PlainKeyed) (s t : State) (ended : Option MergeFault) : Type 0 where
  pub appended : List ℕ
  pub passes : Passes appended 0 s t ended
  pub closed : Unless ended (Closes s.writer t.writer)
  pub went : (b : ℕ) → s.cursor.length + 12 ≤ b → AreShortSets b own → IfSome kid (λ k. IsShortTree b k) → WentIf b own.number appended s.writer t.writer ended
  pub inside : (w : ℕ) (l : PlainLabel) (st : Stamp) (ks : PlainNodes) (m : ℕ) (next : List PlainItem) → AllByRecursion (IsWithin w) (row_items own.before ks ++ end_item m ∷ [])
      → Comes s.files s.cursor (row_items own.before ks ++ end_item m ∷ next) → IsTrue (are_nodes_below own.number ks) → IsTrue (if_there kid (λ c. fits (inner_node l st ks) c))
      → Does appended w (row_calls own.now (kids_with own.number own.before ks kid) ++ call_end_inner ∷ []) next s t ended

-- What is inside a node of this kind is merged, and it is closed.
abbrev pub BegunMerged : Kind → PlainInherited → Option PlainKeyed → State → State → Option MergeFault → Type 0
BegunMerged Inner own kid s t ended = InsideMerged own kid s t ended
BegunMerged Leaf own kid s t ended = LeafMerged own kid s t ended
