-- What is done where the archive has a leaf that comes, and the version may have it too.
use Rattle.std.specs.Prelude.{◌≡◌, ◌<◌, ◌≤◌, ◌+◌, ℕ, List, [], ◌∷◌, ◌++◌, Bool, Option, Some, None, Result, IfOk, OnOk, IfSome, IsTrue}
use Rattle.std.specs.List.{AllByRecursion}
use Rattle.std.specs.Ordering.{is_eq}
use Rattle.keyed_tree.specs.Data.{PlainKey, PlainLabel, PlainKeyed}
use Rattle.keyed_tree.specs.Order.{key_cmp}
use Rattle.archive_tree.specs.Data.{Stamp, leaf_node, PlainAlt}
use Rattle.nested_merge.specs.Below.{is_stamp_below, are_alts_below}
use Rattle.nested_merge.specs.Fits.{if_there, fits}
use Rattle.nested_merge.specs.Merged.{merged_alt, merged_alts}
use Rattle.record_cursor.specs.Items.{PlainItem, alt_item, leaf_end_item}
use Rattle.record_cursor.specs.Moves.{Comes}
use Rattle.record_writer.specs.Data.{call_end_leaf}
use Rattle.record_writer.specs.Walks.{alt_calls}
use Rattle.stream_merge.specs.Does.{Does}
use Rattle.stream_merge.specs.Items.{IsWithin}
use Rattle.stream_merge.specs.Meets.{alts_with, HasLeaf}
use Rattle.stream_merge.specs.Passes.{Passes, Rests, Unless, fault_of, unpaid_with}
use Rattle.stream_merge.specs.Room.{WentIf}
use Rattle.stream_merge.specs.Short.{AreShortSets, IsShortBody, IsShortTree}
use Rattle.record_copy.specs.State.{State}
use Rattle.stream_merge.specs.View.{PlainInherited}
use Rattle.stream_merge.specs.declared.fault.MergeFault.{MergeFault}
use Rattle.record_cursor.specs.NodeItems.{alt_items}

-- The alternatives of a leaf are merged with what the version has of it, or with nothing, and the leaf is closed.
pub record LeafMerged (own : PlainInherited) (kid : Option PlainKeyed) (s t : State) (ended : Option MergeFault) : Type 0 where
  pub appended : List ℕ
  pub passes : Passes appended 0 s t ended
  pub rests : Unless ended (Rests s.writer t.writer)
  pub went : (b : ℕ) → s.cursor.length + 12 ≤ b → AreShortSets b own → IfSome kid (λ k. IsShortTree b k) → WentIf b own.number appended s.writer t.writer ended
  pub inside : (w : ℕ) (l : PlainLabel) (st : Stamp) (xs : List PlainAlt) (next : List PlainItem) → AllByRecursion (IsWithin w) (alt_items xs ++ leaf_end_item ∷ [])
      → Comes s.files s.cursor (alt_items xs ++ leaf_end_item ∷ next) → IsTrue (are_alts_below own.number xs) → IsTrue (if_there kid (λ c. fits (leaf_node l st xs) c))
      → Does appended w (alt_calls (alts_with own.number own.before xs kid) ++ call_end_leaf ∷ []) next s t ended

-- They are merged with this body.
pub record AltsMerged (own : PlainInherited) (body : PlainKey) (s t : State) (ended : Option MergeFault) : Type 0 where
  pub appended : List ℕ
  pub passes : Passes appended 0 s t ended
  pub rests : Unless ended (Rests s.writer t.writer)
  pub went : (b : ℕ) → s.cursor.length + 12 ≤ b → AreShortSets b own → IsShortBody b body → WentIf b own.number appended s.writer t.writer ended
  pub alternatives : (w : ℕ) (xs : List PlainAlt) (next : List PlainItem) → AllByRecursion (IsWithin w) (alt_items xs ++ leaf_end_item ∷ []) → Comes s.files s.cursor (alt_items xs ++ leaf_end_item ∷ next)
      → IsTrue (are_alts_below own.number xs) → Does appended w (alt_calls (merged_alts own.number own.before body xs) ++ call_end_leaf ∷ []) next s t ended

-- The next alternative is merged with the body, or the end of the leaf taken: whether it is the same, or None where the leaf ends.
pub record AltMerged (own : PlainInherited) (body : PlainKey) (s t : State) (same : Result (Option Bool) MergeFault) : Type 0 where
  pub appended : List ℕ
  pub passes : Passes appended (unpaid_with same) s t (fault_of same)
  pub begun : OnOk same (HasLeaf s.writer t.writer)
  pub onward : OnOk same (s.cursor.at < t.cursor.at)
  pub went : (b : ℕ) → s.cursor.length + 12 ≤ b → AreShortSets b own → WentIf b own.number appended s.writer t.writer (fault_of same)
  pub alternative : (w : ℕ) (x : PlainAlt) (next : List PlainItem) → IsWithin w (alt_item x.stamp x.body) → Comes s.files s.cursor (alt_item x.stamp x.body ∷ next) → IsTrue (is_stamp_below own.number x.stamp)
      → IfOk same (λ r. r ≡ Some (is_eq (key_cmp x.body body))) × Does appended w (alt_calls (merged_alt own.number own.before body x ∷ [])) next s t (fault_of same)
  pub end_taken : (w : ℕ) (next : List PlainItem) → IsWithin w leaf_end_item → Comes s.files s.cursor (leaf_end_item ∷ next) → IfOk same (λ r. r ≡ None) × Does appended w [] next s t (fault_of same)
