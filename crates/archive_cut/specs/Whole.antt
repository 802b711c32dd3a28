-- What is done with a whole archive.
use Rattle.std.specs.Prelude.{◌≡◌, ℕ, ◌+◌, ◌-◌, ◌≤◌, List, [], ◌∷◌, ◌++◌, length, Option, Some, None, option_map, ⊤}
use Rattle.key_spec.specs.Data.{PlainRule}
use Rattle.keyed_tree.specs.Data.{PlainKeyed}
use Rattle.timestamp_tree.specs.Bytes.{set_bytes}
use Rattle.xa_outside.specs.Causes.{Rose}
use Rattle.xa_outside.specs.Folder.{Files}
use Rattle.xa_outside.specs.Numbers.{Numbers, PullsAndDrafts}
use Rattle.archive_tree.specs.Data.{PlainNodes}
use Rattle.archive_file.specs.Sound.{SoundAs}
use Rattle.record_cursor.specs.Items.{end_item, finish}
use Rattle.record_cursor.specs.Moves.{Comes, TellsFront, IsHeaderOf}
use Rattle.record_cursor.specs.View.{PlainCursor, PlainHeader}
use Rattle.record_format.specs.Files.{FileOf, header_bytes}
use Rattle.record_writer.specs.Data.{WriterCall, call_finish}
use Rattle.record_writer.specs.Calls.{all_appended, after_all, started, Fits, AllFit}
use Rattle.record_writer.specs.View.{writer_view}
use Rattle.record_writer.specs.Walks.{row_calls}
use Rattle.record_writer.specs.declared.writer.Writer.{Writer}
use Rattle.record_copy.specs.Faults.{IfFolder, IfLong, IfWhole}
use Rattle.record_copy.specs.Short.{AreShort}
use Rattle.record_copy.specs.declared.fault.CopyFault.{CopyFault}
use Rattle.record_copy.specs.declared.fault.CopyFault.TheVariants.{Damage, TooLong}
use Rattle.record_cursor.specs.NodeItems.{row_items}
use Rattle.archive_cut.specs.Short.{IsLeftOf}
use Rattle.archive_cut.specs.Sliced.{cut_set, sliced_row, items}
use Rattle.archive_cut.specs.Walked.{AreApart}

-- Whatever the file is: the files stay, the draft only grows, by these bytes, the folder fails only where its count rose, and at most so many bytes are read.
pub record Reads {S : Type 0} (files : S → Option Files) (draft : S → Option (List ℕ)) (numbers : S → Numbers) (faults : S → ℕ) (x : List ℕ) (old new : S) (most : ℕ) (ended : Option CopyFault) : Type 0 where
  pub same_files : files new ≡ files old
  pub lengthens : draft new ≡ option_map (λ d. d ++ x) (draft old)
  pub later : faults old ≤ faults new
  pub cause : IfFolder ended (Rose (faults old) (faults new))
  pub pulls : PullsAndDrafts most (numbers old) (numbers new)

-- These calls were made; or so far they were, and the next of them did not fit. There is no damage.
abbrev pub Called : List WriterCall → List WriterCall → WriterCall → Option CopyFault → Type 0
Called cs made next None = made ≡ cs
Called cs made next (Some TooLong) = (others : List WriterCall) × (cs ≡ made ++ next ∷ others)
Called cs made next (Some Damage) = ⊥
Called cs made next (Some other) = ⊤

-- The bytes are the sound archive of the versions from i to j; or there is none, or the folder or memory failed.
abbrev pub Slices : List ℕ → List PlainRule → ℕ → ℕ → List PlainKeyed → Option CopyFault → Type 0
Slices x rules i j vs None = SoundAs rules (items i j vs) x
Slices x rules i j vs (Some TooLong) = (file : List ℕ) → ¬ FileOf rules (items i j vs) file
Slices x rules i j vs (Some Damage) = ⊥
Slices x rules i j vs (Some other) = ⊤

module _ {S : Type 0} (files : S → Option Files) (draft : S → Option (List ℕ)) (numbers : S → Numbers) (faults : S → ℕ) where
  -- What is left of the nodes is appended, and what stands behind them, by a writer that has begun and a cursor before the first of them.
  pub record NodesCut (i j : ℕ) (q : List (ℕ × ℕ)) (old now : S) (c : PlainCursor) (w : Writer) (ended : Option CopyFault) : Type 0 where
    pub made : List WriterCall
    pub next : WriterCall
    pub bytes : List ℕ
    pub reads : Reads files draft numbers faults bytes old now (c.length - c.at) ended
    pub same : IfWhole ended (bytes ≡ all_appended (writer_view w) made)
    pub fit : AllFit (writer_view w) made
    pub over : IfLong ended (¬ Fits (after_all (writer_view w) made) next)
    pub short : (b : ℕ) → c.length + 12 ≤ b → length (set_bytes q) ≤ b → AreShort (IsLeftOf b i j) b made next ended
    pub nodes : (ks : PlainNodes) (m : ℕ) → Comes (files old) c (row_items q ks ++ end_item m ∷ finish ∷ []) → AreApart i j q ks
        → Called (row_calls (cut_set i j q) (sliced_row i j q ks) ++ call_finish ∷ []) made next ended

  -- The archive of the versions is appended, over a cursor before its first node.
  pub record VersionsCut (h : PlainHeader) (i j : ℕ) (old now : S) (c : PlainCursor) (ended : Option CopyFault) : Type 0 where
    pub appended : List ℕ
    pub reads : Reads files draft numbers faults appended old now (h.length - h.first) ended
    pub made : List WriterCall
    pub next : WriterCall
    pub spelled : IfLong ended (appended ≡ header_bytes h.rules (j + 1 - i) ++ all_appended (started h.rules (j + 1 - i)) made)
    pub fit : AllFit (started h.rules (j + 1 - i)) made
    pub over : IfLong ended (¬ Fits (after_all (started h.rules (j + 1 - i)) made) next)
    pub short : (b : ℕ) → h.length + 12 ≤ b → AreShort (IsLeftOf b i j) b made next ended
    pub slices : (bytes : List ℕ) (rules : List PlainRule) (vs : List PlainKeyed) → TellsFront (files old) c.name c.length bytes → IsHeaderOf h bytes → SoundAs rules vs bytes → Slices appended rules i j vs ended
