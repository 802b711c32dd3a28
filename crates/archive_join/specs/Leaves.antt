-- The alternatives of a leaf that both archives have.
use Rattle.std.specs.Prelude.{◌≡◌, ◌≢◌, ◌≤◌, ◌+◌, ℕ, List, [], ◌∷◌, ◌++◌, map, Option, Some, None, Result, IfOk, ⊤}
use Rattle.std.specs.List.{AllByRecursion}
use Rattle.keyed_tree.specs.Data.{PlainKey}
use Rattle.archive_tree.specs.Data.{PlainAlt}
use Rattle.archive_tree.specs.Stands.{AllDiffer, bodies}
use Rattle.record_copy.specs.Faults.{fault_of, IfLong, Unless}
use Rattle.record_copy.specs.Parts.{alternative_view}
use Rattle.record_copy.specs.Passes.{Passes, Rests}
use Rattle.record_copy.specs.Reads.{IsShortAlternative, Shows}
use Rattle.record_copy.specs.Runs as runs
use Rattle.record_copy.specs.Seen.{Coming}
use Rattle.record_copy.specs.Short.{AreShort, IsRaisedOf}
use Rattle.record_copy.specs.State as copy
use Rattle.record_copy.specs.declared.fault.CopyFault.{CopyFault}
use Rattle.record_copy.specs.declared.fault.CopyFault.TheVariants.{Damage}
use Rattle.record_copy.specs.declared.parts.Alternative.{Alternative}
use Rattle.record_cursor.specs.Items.{PlainItem, leaf_end_item}
use Rattle.record_writer.specs.Data.{PlainWriter, WriterCall, call_end_leaf}
use Rattle.record_writer.specs.Walks.{alt_calls}
use Rattle.archive_join.specs.Faults.{plain}
use Rattle.archive_join.specs.Joined.{alone_alt, joined_alt, joined_alts}
use Rattle.archive_join.specs.Held.{Holds, HoldsShort, left_over}
use Rattle.archive_join.specs.Runs.{Run, AreCalls, KeepsFirst, KeepsSecond}
use Rattle.archive_join.specs.Short.{IsMadeOf}
use Rattle.archive_join.specs.State.{State}
use Rattle.archive_join.specs.declared.fault.JoinFault.{JoinFault}
use Rattle.archive_join.specs.declared.held.Held.{Held}
use Rattle.record_cursor.specs.NodeItems.{alt_items}

abbrev pub alternatives_view : List Alternative → List PlainAlt
alternatives_view xs = map alternative_view xs

-- All alternatives of a leaf were read, and its end.
pub record AlternativesRead (n : ℕ) (s t : copy.State) (alternatives : Result (List Alternative) CopyFault) : Type 0 where
  pub passes : Passes [] s t (fault_of alternatives)
  pub not_long : IfLong (fault_of alternatives) ⊥
  pub short : (b : ℕ) → s.cursor.length + 12 ≤ b → IfOk alternatives (λ xs. AllByRecursion (IsShortAlternative (IsRaisedOf b n) b) (alternatives_view xs))
  pub all : (ys : List PlainAlt) (behind : List PlainItem) → Coming n s.files s.cursor (alt_items ys ++ leaf_end_item ∷ behind) → Shows n alternatives_view ys behind t alternatives

-- The alternatives of both are written, where they come and their ends, in a leaf that has p in the first archive and q in the second, and the leaf is closed.
pub record LeafJoined (n : ℕ) (p q : List (ℕ × ℕ)) (s t : State) (ended : Option JoinFault) : Type 0 where
  pub made : List WriterCall
  pub next : WriterCall
  pub run : Run made next s t (plain ended)
  pub rests : Unless (plain ended) (Rests s.writer t.writer)
  pub short : (b : ℕ) → s.first.length + 12 ≤ b → s.second.length + 12 ≤ b → IsRaisedOf b 0 p → IsRaisedOf b n q → AreShort (IsMadeOf b n) b made next (plain ended)
  pub first : (xs : List PlainAlt) (behind : List PlainItem) → Coming 0 s.files s.first (alt_items xs ++ leaf_end_item ∷ behind) → KeepsFirst behind t ended
  pub second : (ys : List PlainAlt) (behind : List PlainItem) → Coming n s.files s.second (alt_items ys ++ leaf_end_item ∷ behind) → KeepsSecond n behind t ended
  pub both : (xs ys : List PlainAlt) (others more : List PlainItem) → Coming 0 s.files s.first (alt_items xs ++ leaf_end_item ∷ others) → Coming n s.files s.second (alt_items ys ++ leaf_end_item ∷ more) → AllDiffer (bodies ys)
      → AreCalls (alt_calls (joined_alts p q xs ys) ++ call_end_leaf ∷ []) made next (plain ended)

-- ---- those of the first, and those of the second that are left

-- the leaf stands begun still
pub record StaysOpen (v w : PlainWriter) : Type 0 where
  pub leaf : w.leaf ≢ None
  pub inners : w.inners ≡ v.inners

-- without a fault these come next; the archive is undamaged
abbrev pub Follows : List PlainItem → copy.State → Option CopyFault → Type 0
Follows behind t None = Coming 0 t.files t.cursor behind
Follows behind t (Some Damage) = ⊥
Follows behind t (Some other) = ⊤

-- The alternatives of the first are written, as far as the end of its leaf, where it comes, each with the versions of that of the second that has its body.
pub record FirstPut (p q : List (ℕ × ℕ)) (old new : Held) (s t : copy.State) (ended : Option CopyFault) : Type 0 where
  pub made : List WriterCall
  pub next : WriterCall
  pub run : runs.Run made next s t ended
  pub stays : Unless ended (StaysOpen s.writer t.writer)
  pub short : (b n : ℕ) → s.cursor.length + 12 ≤ b → IsRaisedOf b 0 p → IsRaisedOf b n q → HoldsShort b n old → AreShort (IsMadeOf b n) b made next ended × Unless ended (HoldsShort b n new)
  pub first : (xs : List PlainAlt) (behind : List PlainItem) → Coming 0 s.files s.cursor (alt_items xs ++ leaf_end_item ∷ behind) → Follows behind t ended
  pub both : (xs ys : List PlainAlt) (behind : List PlainItem) → Coming 0 s.files s.cursor (alt_items xs ++ leaf_end_item ∷ behind) → AllDiffer (bodies ys) → Holds ys [] old
      → AreCalls (alt_calls (map (joined_alt p q ys) xs)) made next ended × Unless ended (Holds ys (bodies xs) new)

-- Those of the second whose bodies were not taken are written, and the leaf is closed. Nothing is read.
pub record OthersPut (p q : List (ℕ × ℕ)) (held : Held) (s t : copy.State) (ended : Option CopyFault) : Type 0 where
  pub made : List WriterCall
  pub next : WriterCall
  pub run : runs.Run made next s t ended
  pub same_cursor : t.cursor ≡ s.cursor
  pub undamaged : ended ≢ Some Damage
  pub rests : Unless ended (Rests s.writer t.writer)
  pub short : (b n : ℕ) → IsRaisedOf b n q → HoldsShort b n held → AreShort (IsMadeOf b n) b made next ended
  pub others : (ys : List PlainAlt) (taken : List PlainKey) → AllDiffer (bodies ys) → Holds ys taken held → AreCalls (alt_calls (map (alone_alt q p) (left_over taken ys)) ++ call_end_leaf ∷ []) made next ended
