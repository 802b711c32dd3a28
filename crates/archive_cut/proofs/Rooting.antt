-- Cutting the nodes of a whole archive.
use Rattle.std.proofs.Common.{◌≡◌, ◌≢◌, ℕ, ◌+◌, ◌-◌, ◌≤◌, List, [], ◌∷◌, ◌++◌, length, Option, Some, None, Result, Ok, Err, refl, ◌∙◌, arith}
use Rattle.std.specs.Result.{OnOk}
use Rattle.std.proofs.lemmas.List.{append-nil}
use Rattle.timestamp_tree.specs.Bytes.{set_bytes}
use Rattle.archive_tree.specs.Data.{PlainNodes}
use Rattle.xa_outside.specs.Folder.{Files}
use Rattle.xa_outside.specs.Numbers.{Numbers, PullsAndDrafts}
use Rattle.xa_outside.specs.NumberLaws.{PullsAndDrafts-more}
use Rattle.record_cursor.specs.Faults as cursor
use Rattle.record_cursor.specs.Items.{PlainItem, end_item, finish}
use Rattle.record_cursor.specs.Moves.{Comes}
use Rattle.record_cursor.specs.View.{PlainCursor, shown_item}
use Rattle.record_cursor.specs.declared.fault.CursorFault.{CursorFault}
use Rattle.record_cursor.specs.declared.fault.CursorFault.TheVariants as read
use Rattle.record_cursor.specs.declared.item.Item.{Item}
use Rattle.record_cursor.specs.declared.item.Item.TheVariants.{Inner, Leaf, Alt, LeafEnd, End, Finish}
use Rattle.record_writer.specs.Data.{PlainWriter, WriterCall, call_finish}
use Rattle.record_writer.specs.Walks.{row_calls}
use Rattle.record_writer.specs.declared.writer.Writer.{Writer}
use Rattle.record_copy.specs.Faults.{of_cursor}
use Rattle.record_copy.specs.Passes.{Passes, may_pull}
use Rattle.record_copy.specs.Runs.{Run, Sent}
use Rattle.record_copy.specs.Short.{AreShort}
use Rattle.record_copy.specs.State.{State, state, beside}
use Rattle.record_copy.specs.declared.fault.CopyFault.{CopyFault}
use Rattle.record_copy.specs.declared.fault.CopyFault.TheVariants.{Damage, TooLong, Folder, Memory}
use Rattle.record_copy.proofs.Passing.{Nexts, Stays, gave, gave-stop, failed, given}
use Rattle.record_copy.proofs.Running.{run-then, run-none, short-none, short-part, short-then}
use Rattle.record_cursor.specs.NodeItems.{row_items}
use Rattle.archive_cut.specs.Runs.{Matches}
use Rattle.archive_cut.specs.Short.{IsLeftOf}
use Rattle.archive_cut.specs.Sliced.{cut_set, sliced_row}
use Rattle.archive_cut.specs.Walked.{AreApart, RowCut}
use Rattle.archive_cut.specs.Whole.{Reads, Called, NodesCut}
use Rattle.archive_cut.proofs.Matching.{matches-then, matches-fault, matches-part}

pub on-ok : {T E : Type 0} (r : Result T E) (P : Type 0) → P → OnOk r P
on-ok (Ok x) P p = p
on-ok (Err e) P p = tt

calls-made : (cs made : List WriterCall) (next : WriterCall) (behind : List PlainItem) (t : State) (e : Option CopyFault) → Matches cs made next behind t e → Called cs made next e
calls-made cs made next behind t None h = h.0
calls-made cs made next behind t (Some TooLong) h = h
calls-made cs made next behind t (Some Damage) h = h
calls-made cs made next behind t (Some Folder) h = tt
calls-made cs made next behind t (Some Memory) h = tt

module _ {S : Type 0} (files : S → Option Files) (draft : S → Option (List ℕ)) (numbers : S → Numbers) (faults : S → ℕ) (i j : ℕ) (q : List (ℕ × ℕ)) (old new : S) (c d : PlainCursor) (w : Writer) (v : PlainWriter) where
  abbrev s : State
  s = state files draft numbers faults old c w

  abbrev p : State
  p = beside files draft numbers faults new d v

  pulled : (e : Option CopyFault) → d.length ≡ c.length → d.at ≤ d.length → PullsAndDrafts (may_pull s p e) (numbers old) (numbers new) → PullsAndDrafts (c.length - c.at) (numbers old) (numbers new)
  pulled None long within h = PullsAndDrafts-more (d.at - c.at) (c.length - c.at) (numbers old) (numbers new) (omega (arith, long, within)) h
  pulled (Some f) long within h = h

  reads : (x : List ℕ) (e : Option CopyFault) → Passes x s p e → Reads files draft numbers faults x old new (c.length - c.at) e
  reads x e h = record { same_files = h.same_files; lengthens = h.lengthens; later = h.later; cause = h.cause; pulls = pulled e h.same_length h.within h.pulls }

  abbrev calls : PlainNodes → List WriterCall
  calls ks = row_calls (cut_set i j q) (sliced_row i j q ks)

  nodes-by : (made : List WriterCall) (next : WriterCall) (e : Option CopyFault) → Run made next s p e → ((b : ℕ) → c.length + 12 ≤ b → length (set_bytes q) ≤ b → AreShort (IsLeftOf b i j) b made next e)
      → ((ks : PlainNodes) (m : ℕ) → Comes (files old) c (row_items q ks ++ end_item m ∷ finish ∷ []) → AreApart i j q ks → Called (calls ks ++ call_finish ∷ []) made next e) → NodesCut files draft numbers faults i j q old new c w e
  nodes-by made next e run short nodes = record { made = made; next = next; bytes = run.bytes; reads = reads run.bytes e run.passes; same = run.same; fit = run.fit; over = run.over; short = short; nodes = nodes }

  -- the nodes could not be cut
  pub nodes-uncut : (f : CopyFault) → RowCut i j q s p (Some f) → NodesCut files draft numbers faults i j q old new c w (Some f)
  nodes-uncut f row = nodes-by row.made row.next (Some f) row.run row.short
      (λ ks m comes apart. calls-made (calls ks ++ call_finish ∷ []) row.made row.next (finish ∷ []) p (Some f) (matches-fault (calls ks) (call_finish ∷ []) row.made row.next (finish ∷ []) (finish ∷ []) p f (row.row ks m (finish ∷ []) comes apart)))

  module _ (t : State) (row : RowCut i j q s t None) where
    both : (u : State) (e : Option CopyFault) (sent : Sent (call_finish ∷ []) t u e) (ks : PlainNodes) (m : ℕ) → Comes (files old) c (row_items q ks ++ end_item m ∷ finish ∷ []) → AreApart i j q ks → Matches (calls ks ++ call_finish ∷ []) (row.made ++ sent.made) sent.next (finish ∷ []) u e
    both u e sent ks m comes apart =
        let rows = row.row ks m (finish ∷ []) comes apart in
        let did = sent.run in
        let passes = did.passes in
        matches-then (calls ks) (call_finish ∷ []) row.made sent.made sent.next (finish ∷ []) u e rows.0 (matches-part (call_finish ∷ []) sent.made sent.next (finish ∷ []) t u e sent.part passes.same_files sent.same_cursor rows.1)

    shorts : (u : State) (e : Option CopyFault) (sent : Sent (call_finish ∷ []) t u e) (b : ℕ) → c.length + 12 ≤ b → length (set_bytes q) ≤ b → AreShort (IsLeftOf b i j) b (row.made ++ sent.made) sent.next e
    shorts u e sent b file few = short-then (IsLeftOf b i j) b row.made sent.made row.next sent.next e (row.short b file few) (short-part (IsLeftOf b i j) b (call_finish ∷ []) sent.made sent.next e (tt, tt) sent.part)

    -- the last call failed
    pub nodes-unfinished : (f : CopyFault) → Sent (call_finish ∷ []) t p (Some f) → NodesCut files draft numbers faults i j q old new c w (Some f)
    nodes-unfinished f sent = nodes-by (row.made ++ sent.made) sent.next (Some f) (run-then row.made sent.made row.next sent.next s t p (Some f) row.run sent.run) (shorts p (Some f) sent)
        (λ ks m comes apart. calls-made (calls ks ++ call_finish ∷ []) (row.made ++ sent.made) sent.next (finish ∷ []) p (Some f) (both p (Some f) sent ks m comes apart))

    module _ (u : State) (sent : Sent (call_finish ∷ []) t u None) where
      abbrev made : List WriterCall
      made = (row.made ++ sent.made) ++ []

      run-on : (e : Option CopyFault) → e ≢ Some TooLong → p.writer ≡ u.writer → Passes [] u p e → Run made call_finish s p e
      run-on e not same h = run-then (row.made ++ sent.made) [] sent.next call_finish s u p e (run-then row.made sent.made row.next sent.next s t u None row.run sent.run) (run-none call_finish u p e not same h)

      short-on : (e : Option CopyFault) → e ≢ Some TooLong → (b : ℕ) → c.length + 12 ≤ b → length (set_bytes q) ≤ b → AreShort (IsLeftOf b i j) b made call_finish e
      short-on e not b file few = short-then (IsLeftOf b i j) b (row.made ++ sent.made) [] sent.next call_finish e (shorts u None sent b file few) (short-none (IsLeftOf b i j) b call_finish e not)

      -- the file was not read to its end
      pub nodes-unread : (e : CursorFault) → p.writer ≡ u.writer → Stays u p e → NodesCut files draft numbers faults i j q old new c w (Some (of_cursor e))
      nodes-unread e same stays =
          let did = sent.run in
          let passes = did.passes in
          nodes-by made call_finish (Some (of_cursor e)) (run-on (Some (of_cursor e)) (never e) same (failed u p e passes.within stays)) (short-on (Some (of_cursor e)) (never e))
          (λ ks m comes apart. stops e (calls ks ++ call_finish ∷ []) (stays.undamaged finish [] (both u None sent ks m comes apart).1))
        where
          never : (e : CursorFault) → Some (of_cursor e) ≢ Some TooLong
          never read.Damage = λ d. absurd cc
          never read.Folder = λ d. absurd cc
          never read.Memory = λ d. absurd cc

          stops : (e : CursorFault) (cs : List WriterCall) → cursor.IfDamage e ⊥ → Called cs made call_finish (Some (of_cursor e))
          stops read.Damage cs h = h
          stops read.Folder cs h = tt
          stops read.Memory cs h = tt

      -- another item comes
      pub nodes-other : (item : Item) → item ≢ Finish → p.writer ≡ u.writer → Nexts u p item → NodesCut files draft numbers faults i j q old new c w (Some Damage)
      nodes-other item other same read = nodes-by made call_finish (Some Damage) (run-on (Some Damage) (λ e. absurd cc) same (gave-stop u p item Damage (λ e. absurd cc) read)) (short-on (Some Damage) (λ e. absurd cc))
          (λ ks m comes apart. not-finish item other (given finish [] u p item read (both u None sent ks m comes apart).1).0)
        where
          not-finish : (item : Item) → item ≢ Finish → shown_item item ≢ finish
          not-finish (Alt s b) h = λ e. absurd cc
          not-finish (Inner l s) h = λ e. absurd cc
          not-finish (Leaf l s) h = λ e. absurd cc
          not-finish LeafEnd h = λ e. absurd cc
          not-finish (End n) h = λ e. absurd cc
          not-finish Finish h = absurd (h refl)

      -- the file ends as it should
      pub nodes-cut : (item : Item) → p.writer ≡ u.writer → Nexts u p item → NodesCut files draft numbers faults i j q old new c w None
      nodes-cut item same read = nodes-by made call_finish None (run-on None (λ e. absurd cc) same (gave u p item read)) (short-on None (λ e. absurd cc))
          (λ ks m comes apart. append-nil (row.made ++ sent.made) ∙ (both u None sent ks m comes apart).0)
