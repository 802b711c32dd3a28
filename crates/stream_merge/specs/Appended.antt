-- What is done up to the commit.
use Rattle.std.specs.Prelude.{◌≡◌, ℕ, ◌+◌, ◌-◌, ◌≤◌, max, List, [], ◌∷◌, ◌++◌, length, Option, Some, None, option_map, IsTrue, ⊤}
use Rattle.std.specs.List.{AllByRecursion}
use Rattle.key_spec.specs.Data.{PlainRule}
use Rattle.keyed_tree.specs.Data.{PlainKeyed}
use Rattle.xa_outside.specs.Causes.{Rose}
use Rattle.xa_outside.specs.Folder.{Files}
use Rattle.xa_outside.specs.Numbers.{Numbers, PullsAndDrafts, lead}
use Rattle.archive_tree.specs.Data.{PlainArchive, PlainNodes}
use Rattle.archive_tree.specs.Stands.{ArchiveOf}
use Rattle.archive_file.specs.Sound.{SoundAs}
use Rattle.nested_merge.specs.Below.{are_nodes_below}
use Rattle.nested_merge.specs.Fits.{all_fit}
use Rattle.nested_merge.specs.Merged.{merged_row}
use Rattle.record_cursor.specs.Items.{end_item, finish}
use Rattle.record_cursor.specs.Moves.{Comes, TellsFront, IsHeaderOf}
use Rattle.record_cursor.specs.View.{PlainCursor, PlainHeader}
use Rattle.record_format.specs.Files.{FileOf, header_bytes, largest}
use Rattle.record_writer.specs.Data.{PlainWriter, WriterCall, call_finish}
use Rattle.record_writer.specs.Calls.{after_all, started}
use Rattle.record_writer.specs.View.{writer_view}
use Rattle.record_writer.specs.Walks.{row_calls}
use Rattle.record_writer.specs.declared.writer.Writer.{Writer}
use Rattle.stream_merge.specs.Does.{Made}
use Rattle.stream_merge.specs.Items.{IsWithin}
use Rattle.stream_merge.specs.Passes.{Unless, IfFolder}
use Rattle.stream_merge.specs.Room.{NoRoom, NoRoomIf}
use Rattle.stream_merge.specs.Short.{AreShortSets, IsShortTree}
use Rattle.record_copy.specs.State.{State, state}
use Rattle.stream_merge.specs.View.{PlainInherited}
use Rattle.stream_merge.specs.declared.fault.MergeFault.{MergeFault}
use Rattle.stream_merge.specs.declared.fault.MergeFault.TheVariants.{Damage, TooLong}
use Rattle.record_cursor.specs.NodeItems.{row_items}

-- Whatever the file is: the files stay, the draft only grows, by these bytes, the folder fails only where its count rose, and at most so many bytes are read. What
-- was read is then ahead of what was written by so many bytes less than before.
pub record Reads {S : Type 0} (files : S → Option Files) (draft : S → Option (List ℕ)) (numbers : S → Numbers) (faults : S → ℕ) (x : List ℕ) (old new : S) (most paid : ℕ) (ended : Option MergeFault) : Type 0 where
  pub same_files : files new ≡ files old
  pub lengthens : draft new ≡ option_map (λ d. d ++ x) (draft old)
  pub later : faults old ≤ faults new
  pub cause : IfFolder ended (Rose (faults old) (faults new))
  pub pulls : PullsAndDrafts most (numbers old) (numbers new)
  pub ahead : Unless ended (lead (numbers new) ≤ lead (numbers old) - paid)

-- ---- where the file is told

-- the state, where the writer holds this
abbrev pub with_writer : State → PlainWriter → State
with_writer s w = record { files = s.files; draft = s.draft; numbers = s.numbers; faults = s.faults; cursor = s.cursor; writer = w }

-- The writer was called so to its end, or the calls do not all fit, or the folder or memory failed. Between any two calls what was
-- read is ahead of what was written by at most so many bytes more than before.
pub record Ends (x : List ℕ) (w : ℕ) (cs : List WriterCall) (s t : State) (ended : Option MergeFault) : Type 0 where
  pub made : Made x cs s (with_writer t (after_all s.writer cs)) ended
  pub gap : t.numbers.gap ≤ max s.numbers.gap (lead s.numbers + w)

-- Where the nodes of an archive come, its END and the end of its file, the nodes with the new version are written.
abbrev pub WritesNodes : List ℕ → PlainInherited → PlainKeyed → State → State → Option MergeFault → Type 0
WritesNodes x h new s t ended = (w : ℕ) (ks : PlainNodes) (m : ℕ)
    → AllByRecursion (IsWithin w) (row_items h.before ks ++ end_item m ∷ []) → IsWithin w finish → Comes s.files s.cursor (row_items h.before ks ++ end_item m ∷ finish ∷ [])
    → IsTrue (are_nodes_below h.number ks) → IsTrue (all_fit ks (new ∷ []))
    → Ends x w (row_calls h.now (merged_row h.number h.before ks (new ∷ [])) ++ call_finish ∷ []) s t ended

-- The bytes are the sound archive of these versions, and of the new one behind them; or there is none, or the folder or memory failed.
abbrev pub Grows : List ℕ → List PlainRule → List PlainKeyed → PlainKeyed → Option MergeFault → Type 0
Grows x rules vs new None = SoundAs rules (vs ++ new ∷ []) x
Grows x rules vs new (Some TooLong) = (file : List ℕ) → ¬ FileOf rules (vs ++ new ∷ []) file
Grows x rules vs new (Some Damage) = ⊥
Grows x rules vs new (Some other) = ⊤

-- ---- whatever the archive is

-- Where the file would be too long: behind the header some calls that are given short parts were made, and the next does not fit.
abbrev pub NoRoomBehind : ℕ → PlainHeader → List ℕ → Option MergeFault → Type 0
NoRoomBehind b h x (Some TooLong) = (z : List ℕ) × (x ≡ header_bytes h.rules (h.versions + 1) ++ z) × NoRoom b (h.versions + 1) z (started h.rules (h.versions + 1))
NoRoomBehind b h x other = ⊤

-- ---- parts of the call

module _ {S : Type 0} (files : S → Option Files) (draft : S → Option (List ℕ)) (numbers : S → Numbers) (faults : S → ℕ) where
  -- The nodes are appended, and what stands behind them, by a writer that has begun and a cursor before the first of them.
  pub record NodesAppended (h : PlainInherited) (new : PlainKeyed) (old now : S) (c : PlainCursor) (w : Writer) (ended : Option MergeFault) : Type 0 where
    pub appended : List ℕ
    pub reads : Reads files draft numbers faults appended old now (c.length - c.at) 0 ended
    pub no_room : (b : ℕ) → c.length + 12 ≤ b → AreShortSets b h → IsShortTree b new → NoRoomIf b h.number appended (writer_view w) ended
    pub nodes : WritesNodes appended h new (state files draft numbers faults old c w) (state files draft numbers faults now c w) ended

  -- The archive with one more version is appended, over a cursor before its first node.
  pub record VersionAppended (h : PlainHeader) (new : PlainKeyed) (old now : S) (c : PlainCursor) (ended : Option MergeFault) : Type 0 where
    pub appended : List ℕ
    pub reads : Reads files draft numbers faults appended old now (h.length - h.first) (length (header_bytes h.rules (h.versions + 1))) ended
    pub no_room : (b : ℕ) → h.length + 12 ≤ b → IsShortTree b new → NoRoomBehind b h appended ended
    pub grows : (bytes : List ℕ) (rules : List PlainRule) (vs : List PlainKeyed) → TellsFront (files old) c.name c.length bytes → IsHeaderOf h bytes → SoundAs rules vs bytes → Grows appended rules vs new ended
    pub gap : (bytes : List ℕ) (rules : List PlainRule) (vs : List PlainKeyed) (a : PlainArchive) → TellsFront (files old) c.name c.length bytes → IsHeaderOf h bytes → SoundAs rules vs bytes → ArchiveOf vs a
        → (numbers now).gap ≤ max (numbers old).gap (lead (numbers old) - length (header_bytes rules a.n) + largest rules a)
