-- What is done with whole archives.
use Rattle.std.specs.Prelude.{◌≡◌, ◌≢◌, ℕ, ◌+◌, ◌-◌, ◌≤◌, List, [], ◌∷◌, ◌++◌, Option, option_map, Result, IfOk, IfErr}
use Rattle.xa_outside.specs.Causes.{Rose}
use Rattle.xa_outside.specs.Folder.{Files}
use Rattle.xa_outside.specs.Numbers.{Numbers, PullsAndDrafts}
use Rattle.archive_tree.specs.Data.{PlainNodes, nodes_list}
use Rattle.version_set.specs.Members.{upto_pairs}
use Rattle.record_copy.specs.Faults.{IfFolder, IfLong, IfWhole}
use Rattle.record_copy.specs.Faults as copy
use Rattle.record_copy.specs.Raised.{raised}
use Rattle.record_copy.specs.Seen.{Coming, row_items}
use Rattle.record_copy.specs.Short.{AreShort, IsRaisedOf}
use Rattle.record_copy.specs.declared.fault.CopyFault.{CopyFault}
use Rattle.record_copy.specs.declared.fault.CopyFault.TheVariants.{Damage, TooLong}
use Rattle.record_cursor.specs.Items.{end_item, finish}
use Rattle.record_cursor.specs.View.{PlainCursor, PlainHeader}
use Rattle.record_format.specs.Files.{header_bytes}
use Rattle.record_writer.specs.Calls.{started, all_appended, after_all, Fits, AllFit}
use Rattle.record_writer.specs.Data.{WriterCall, call_finish}
use Rattle.record_writer.specs.View.{writer_view}
use Rattle.record_writer.specs.Walks.{row_calls}
use Rattle.record_writer.specs.declared.writer.Writer.{Writer}
use Rattle.archive_join.specs.Faults.{plain, SparesFirst, SparesSecond}
use Rattle.archive_join.specs.Joined.{joined_row}
use Rattle.archive_join.specs.Runs.{AreCalls}
use Rattle.archive_join.specs.Short.{IsMadeOf}
use Rattle.archive_join.specs.Walked.{RowsFit}
use Rattle.archive_join.specs.declared.fault.JoinFault.{JoinFault}

-- Whatever the files are: they stay, the draft only grows, by these bytes, the folder fails only where its count rose, and at most so many bytes are read.
pub record Reads {S : Type 0} (files : S → Option Files) (draft : S → Option (List ℕ)) (numbers : S → Numbers) (faults : S → ℕ) (x : List ℕ) (old new : S) (most : ℕ) (ended : Option CopyFault) : Type 0 where
  pub same_files : files new ≡ files old
  pub lengthens : draft new ≡ option_map (λ d. d ++ x) (draft old)
  pub later : faults old ≤ faults new
  pub cause : IfFolder ended (Rose (faults old) (faults new))
  pub pulls : PullsAndDrafts most (numbers old) (numbers new)

module _ {S : Type 0} (files : S → Option Files) (draft : S → Option (List ℕ)) (numbers : S → Numbers) (faults : S → ℕ) where
  -- A writer began, and the header of an archive of so many versions was appended; or the folder or memory failed.
  pub record Begun (h : PlainHeader) (n : ℕ) (old now : S) (begun : Result Writer CopyFault) : Type 0 where
    pub bytes : List ℕ
    pub reads : Reads files draft numbers faults bytes old now 0 (copy.fault_of begun)
    pub only : IfErr begun (λ e. (e ≢ Damage) × (e ≢ TooLong))
    pub begins : IfOk begun (λ w. (bytes ≡ header_bytes h.rules n) × (writer_view w ≡ started h.rules n))

  -- The nodes of both are appended, and what stands behind them, by a writer that has begun and cursors before the first of them.
  pub record NodesJoined (n : ℕ) (p q both : List (ℕ × ℕ)) (old now : S) (c d : PlainCursor) (w : Writer) (ended : Option JoinFault) : Type 0 where
    pub made : List WriterCall
    pub next : WriterCall
    pub bytes : List ℕ
    pub reads : Reads files draft numbers faults bytes old now ((c.length - c.at) + (d.length - d.at)) (plain ended)
    pub same : IfWhole (plain ended) (bytes ≡ all_appended (writer_view w) made)
    pub fit : AllFit (writer_view w) made
    pub over : IfLong (plain ended) (¬ Fits (after_all (writer_view w) made) next)
    pub short : (b : ℕ) → c.length + 12 ≤ b → d.length + 12 ≤ b → IsRaisedOf b 0 p → IsRaisedOf b n q → AreShort (IsMadeOf b n) b made next (plain ended)
    pub first : (ks : PlainNodes) → Coming 0 (files old) c (row_items ks ++ end_item 0 ∷ finish ∷ []) → SparesFirst ended
    pub second : (js : PlainNodes) → Coming n (files old) d (row_items js ++ end_item 0 ∷ finish ∷ []) → SparesSecond ended
    pub nodes : (ks js : PlainNodes) → Coming 0 (files old) c (row_items ks ++ end_item 0 ∷ finish ∷ []) → Coming n (files old) d (row_items js ++ end_item 0 ∷ finish ∷ []) → RowsFit ks js
        → AreCalls (row_calls both (joined_row p q ks (nodes_list js)) ++ call_finish ∷ []) made next (plain ended)

  -- The header of an archive of so many versions more is appended, and the nodes of both, over cursors before the first of them.
  pub record ArchivesJoined (h : PlainHeader) (m : ℕ) (old now : S) (c d : PlainCursor) (ended : Option JoinFault) : Type 0 where
    pub made : List WriterCall
    pub next : WriterCall
    pub bytes : List ℕ
    pub reads : Reads files draft numbers faults bytes old now ((c.length - c.at) + (d.length - d.at)) (plain ended)
    pub same : IfWhole (plain ended) (bytes ≡ header_bytes h.rules (h.versions + m) ++ all_appended (started h.rules (h.versions + m)) made)
    pub fit : AllFit (started h.rules (h.versions + m)) made
    pub over : IfLong (plain ended) (¬ Fits (after_all (started h.rules (h.versions + m)) made) next)
    pub short : (b : ℕ) → c.length + 12 ≤ b → d.length + 12 ≤ b → AreShort (IsMadeOf b h.versions) b made next (plain ended)
    pub first : (ks : PlainNodes) → Coming 0 (files old) c (row_items ks ++ end_item 0 ∷ finish ∷ []) → SparesFirst ended
    pub second : (js : PlainNodes) → Coming h.versions (files old) d (row_items js ++ end_item 0 ∷ finish ∷ []) → SparesSecond ended
    pub nodes : (ks js : PlainNodes) → Coming 0 (files old) c (row_items ks ++ end_item 0 ∷ finish ∷ []) → Coming h.versions (files old) d (row_items js ++ end_item 0 ∷ finish ∷ []) → RowsFit ks js
        → AreCalls (row_calls (upto_pairs (h.versions + m)) (joined_row (upto_pairs h.versions) (raised h.versions (upto_pairs m)) ks (nodes_list js)) ++ call_finish ∷ []) made next (plain ended)
