-- What is done where a node that the archive has is begun beside a row of the version.
use Rattle.std.specs.Prelude.{◌≡◌, ◌-◌, ◌≤◌, ℕ, Bool, List, length, Option, Result, OnOk, IsTrue}
use Rattle.std.specs.List.{AllByRecursion}
use Rattle.std.specs.Option.{unwrap_or}
use Rattle.keyed_tree.specs.Data.{PlainLabel, PlainKeyed}
use Rattle.keyed_tree.specs.Kids.{kid_at}
use Rattle.archive_tree.specs.Data.{Stamp}
use Rattle.nested_merge.specs.Below.{is_stamp_below}
use Rattle.nested_merge.specs.Merged.{below, above}
use Rattle.record_format.specs.Nodes.{set_in}
use Rattle.record_format.specs.Spelling.{rec_bytes}
use Rattle.record_writer.specs.Walks.{row_calls}
use Rattle.stream_merge.specs.Does.{Sends}
use Rattle.stream_merge.specs.Meets.{opening_of, Begins, calls_beside, inherited_beside, rest_of, turned}
use Rattle.stream_merge.specs.Passes.{Passes, fault_of}
use Rattle.stream_merge.specs.Room.{WentIf}
use Rattle.stream_merge.specs.Short.{AreShortSets, IsShortTree}
use Rattle.record_copy.specs.State.{State}
use Rattle.stream_merge.specs.View.{PlainInherited}
use Rattle.stream_merge.specs.declared.begin.Kind.{Kind}
use Rattle.stream_merge.specs.declared.fault.MergeFault.{MergeFault}
use Rattle.xa_outside.specs.Numbers.{lead}

-- what the kids inherit of a node with this stamp that the version has, or has not
abbrev pub inherited_with : PlainInherited → Bool → Stamp → PlainInherited
inherited_with h has s = record { number = h.number; before = unwrap_or s h.before; now = set_in (turned h.number h.before has s) h.now }

-- Nothing is read, and the kids that come before the label are written.
pub record BelowPut (h : PlainInherited) (l : PlainLabel) (cs : List PlainKeyed) (s t : State) (ended : Option MergeFault) : Type 0 where
  pub appended : List ℕ
  pub passes : Passes appended 0 s t ended
  pub same_gap : t.numbers.gap ≡ s.numbers.gap
  pub went : (b : ℕ) → 12 ≤ b → AreShortSets b h → AllByRecursion (IsShortTree b) cs → WentIf b h.number appended s.writer t.writer ended
  pub sends : Sends appended (row_calls h.now (rest_of h.number h.before (below l cs))) s t ended

-- Wherever the cursor stands, nothing is read, and no less written than the node's record has in the archive. Where its stamp is below the
-- version, the kids that come before it are written, and it is begun.
pub record BeganBeside {T : Type 0} (kind : Kind) (h : PlainInherited) (l : PlainLabel) (st : Stamp) (cs : List PlainKeyed) (s t : State) (begun : Result T MergeFault) : Type 0 where
  pub appended : List ℕ
  pub passes : Passes appended 0 s t (fault_of begun)
  pub same_gap : t.numbers.gap ≡ s.numbers.gap
  pub paid : OnOk begun (lead t.numbers ≤ lead s.numbers - length (rec_bytes (opening_of kind l st)))
  pub begins : OnOk begun (Begins kind s.writer t.writer)
  pub went : (b : ℕ) → 12 ≤ b → AreShortSets b h → AllByRecursion (IsShortTree b) cs → length (rec_bytes (opening_of kind l st)) ≤ b → WentIf b h.number appended s.writer t.writer (fault_of begun)
  pub sends : IsTrue (is_stamp_below h.number st) → Sends appended (calls_beside kind h l st cs) s t (fault_of begun)

-- What is known of the node that was begun: the kid with its label, the kids behind it, and what its own kids inherit.
pub record IsBegun (h : PlainInherited) (l : PlainLabel) (st : Stamp) (cs : List PlainKeyed) (kid : Option PlainKeyed) (rest : List PlainKeyed) (own : PlainInherited) : Type 0 where
  pub same_kid : kid ≡ kid_at l cs
  pub left : rest ≡ above l cs
  pub inherits : own ≡ inherited_beside h l st cs
