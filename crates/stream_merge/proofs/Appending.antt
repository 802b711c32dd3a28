-- What is done up to the commit.
use Rattle.std.proofs.Common.{◌≡◌, ◌≢◌, ℕ, ◌+◌, ◌-◌, ◌≤◌, List, [], ◌∷◌, ◌++◌, length, take, Option, Some, None, Result, Err, IsTrue, refl, sym, ap, subst, arith}
use Rattle.std.specs.Prelude.{max}
use Rattle.std.specs.List.{AllByRecursion}
use Rattle.std.specs.Option.{option_map}
use Rattle.std.proofs.lemmas.List.{length-append, append-nil}
use Rattle.key_spec.specs.Data.{PlainRule}
use Rattle.keyed_tree.specs.Data.{PlainKeyed}
use Rattle.xa_outside.specs.Causes.{Rose}
use Rattle.xa_outside.specs.Folder.{Files}
use Rattle.xa_outside.specs.Numbers.{Numbers, IsMeter, PullsAtMost, PullsAndDrafts, after_draft, after_pull, lead}
use Rattle.xa_outside.specs.NumberLaws.{PullsAndDrafts-none, PullsAndDrafts-more}
use Rattle.xa_fields.specs.Spelling.{u64_bytes}
use Rattle.archive_tree.specs.Data.{PlainNodes}
use Rattle.nested_merge.specs.Below.{are_nodes_below}
use Rattle.nested_merge.specs.Fits.{all_fit}
use Rattle.nested_merge.specs.Merged.{merged_row}
use Rattle.record_format.specs.Data.{end_rec}
use Rattle.record_format.specs.Spelling.{dir_bytes, rec_bytes}
use Rattle.record_format.proofs.Pieces.{rec-length}
use Rattle.record_cursor.specs.Items.{PlainItem, end_item, finish}
use Rattle.record_cursor.specs.Next.{read_for}
use Rattle.record_cursor.specs.Moves.{Comes}
use Rattle.record_cursor.specs.View.{PlainCursor, PlainHeader, shown_item}
use Rattle.record_cursor.specs.Faults as cursor
use Rattle.record_cursor.specs.declared.fault.CursorFault.{CursorFault}
use Rattle.record_cursor.specs.declared.fault.CursorFault.TheVariants as read
use Rattle.record_cursor.specs.declared.item.Item.{Item}
use Rattle.record_cursor.specs.declared.item.Item.TheVariants.{Inner, Leaf, Alt, LeafEnd, End, Finish}
use Rattle.record_writer.specs.Data.{PlainWriter, WriterCall, call_finish}
use Rattle.record_writer.specs.Calls.{appended, all_appended, after_all}
use Rattle.record_writer.specs.Faults as faults
use Rattle.record_writer.specs.Faults.{Appends, Gains}
use Rattle.record_writer.specs.Walks.{row_calls}
use Rattle.record_writer.specs.declared.fault.WriteFault.{WriteFault}
use Rattle.record_writer.specs.declared.fault.WriteFault.TheVariants as writer
use Rattle.record_writer.specs.declared.writer.Writer.{Writer}
use Rattle.stream_merge.specs.Appended.{Reads, with_writer, Grows, NoRoomBehind, NodesAppended, VersionAppended}
use Rattle.stream_merge.specs.Does.{Made, Walks, Sends, Sent, Does}
use Rattle.stream_merge.specs.Items.{IsWithin}
use Rattle.stream_merge.specs.Passes.{IfFolder, Passes, of_cursor, of_writer, unpaid}
use Rattle.stream_merge.specs.RowMerged.{RowMerged}
use Rattle.stream_merge.specs.Short.{IsShortTree}
use Rattle.record_copy.specs.State.{State, state, beside}
use Rattle.stream_merge.specs.View.{PlainInherited}
use Rattle.stream_merge.specs.declared.fault.MergeFault.{MergeFault}
use Rattle.stream_merge.specs.declared.fault.MergeFault.TheVariants.{Damage, Folder, TooLong, Memory}
use Rattle.stream_merge.proofs.States.{Nexts, Stays, wrote-all, passes-then, passes-as, made-fault, does-sends, gap-read, gave, gave-stop, gave-takes, failed, passes-paid}
use Rattle.stream_merge.proofs.Items.{finish-reads}
use Rattle.stream_merge.proofs.Rooms.{went-read, went-then, went-sent, room-of}
use Rattle.record_cursor.specs.NodeItems.{row_items}
use Rattle.record_copy.proofs.Passing.{lengthens-none}

-- ---- a writer could not begin

-- what it has written
record Begun (before now : Option (List ℕ)) (x y : Numbers) : Type 0 where
  bytes : List ℕ
  lengthens : now ≡ option_map (λ d. d ++ bytes) before
  counts : PullsAndDrafts 0 x y
  same_gap : y.gap ≡ x.gap

begun-none : (before now : Option (List ℕ)) (x y : Numbers) → IsMeter x → now ≡ before → y ≡ x → Begun before now x y
begun-none before now x y meter same is = record { bytes = []; lengthens = lengthens-none before now same; counts = subst (λ (m : Numbers). PullsAndDrafts 0 x m) (sym is) (PullsAndDrafts-none 0 x meter); same_gap = ap (λ (m : Numbers). m.gap) is }

begun-in : (T : Type 0) (before now : Option (List ℕ)) (x y : Numbers) (bytes : List ℕ) (e : WriteFault) → IsMeter x → Gains {T = T} before now x y bytes (Err e) → Begun before now x y
begun-in T before now x y bytes writer.TooLong meter h = begun-none before now x y meter h.0 h.1
begun-in T before now x y bytes writer.Memory meter h = begun-none before now x y meter h.0 h.1
begun-in T before now x y bytes writer.Folder meter h =
    let d = h.drafts in
    let wrote = wrote-all (length (take h.count bytes)) x y meter d.numbers in
    record { bytes = take h.count bytes; lengthens = d.draft; counts = wrote.counts; same_gap = wrote.same_gap }

cause-writer : (T : Type 0) (e : WriteFault) (P : Type 0) → faults.IfFolder {T = T} (Err e) P → IfFolder (Some (of_writer e)) P
cause-writer T writer.TooLong P h = tt
cause-writer T writer.Folder P h = h
cause-writer T writer.Memory P h = tt

begins-grows : {T : Type 0} (x : List ℕ) (rules : List PlainRule) (vs : List PlainKeyed) (k : PlainKeyed) (e : WriteFault) → ◌≢◌ {A = Result T WriteFault} (Err e) (Err writer.TooLong) → Grows x rules vs k (Some (of_writer e))
begins-grows x rules vs k writer.TooLong h = absurd (h refl)
begins-grows x rules vs k writer.Folder h = tt
begins-grows x rules vs k writer.Memory h = tt

begins-room : {T : Type 0} (b : ℕ) (h : PlainHeader) (x : List ℕ) (e : WriteFault) → ◌≢◌ {A = Result T WriteFault} (Err e) (Err writer.TooLong) → NoRoomBehind b h x (Some (of_writer e))
begins-room b h x writer.TooLong fits = absurd (fits refl)
begins-room b h x writer.Folder fits = tt
begins-room b h x writer.Memory fits = tt

pub version-unbegun : {S T : Type 0} (files : S → Option Files) (draft : S → Option (List ℕ)) (numbers : S → Numbers) (count : S → ℕ) (h : PlainHeader) (k : PlainKeyed) (old new : S) (c : PlainCursor) (bytes : List ℕ) (e : WriteFault)
    → IsMeter (numbers old) → Appends {T = T} files draft numbers count old new bytes (Err e) → ◌≢◌ {A = Result T WriteFault} (Err e) (Err writer.TooLong) → VersionAppended files draft numbers count h k old new c (Some (of_writer e))
version-unbegun {T = T} files draft numbers count h k old new c bytes e meter did fits =
    let begun = begun-in T (draft old) (draft new) (numbers old) (numbers new) bytes e meter did.gains in
    let gap = begun.same_gap in
    record {
      appended = begun.bytes;
      reads = record {
        same_files = did.same_files;
        lengthens = begun.lengthens;
        later = did.later;
        cause = cause-writer T e (Rose (count old) (count new)) did.cause;
        pulls = PullsAndDrafts-more 0 (h.length - h.first) (numbers old) (numbers new) (omega arith) begun.counts;
        ahead = tt;
      };
      no_room = λ b file tree. begins-room {T = T} b h begun.bytes e fits;
      grows = λ front rules vs tells is sound. begins-grows {T = T} begun.bytes rules vs k e fits;
      gap = λ front rules vs a tells is sound of. omega (arith, gap);
    }

-- ---- the last call

-- the END of the root and the tail are longer than what was read for the ENDs
finish-long : (w : PlainWriter) → 17 ≤ length (appended w call_finish)
finish-long w =
    let end = rec_bytes (end_rec w.row.dir) in
    omega (arith, length-append end (u64_bytes (length (dir_bytes w.row.dir))), rec-length (end_rec w.row.dir))

-- all that was read is written
last-ahead : (x y z u : Numbers) (n r : ℕ) → IsMeter y → lead y ≤ lead x + unpaid → 17 ≤ n → r ≤ 8 → z ≡ after_draft y n → u ≡ after_pull z r → lead u ≤ lead x
last-ahead x y z u n r is ahead long few e f =
    let small = is.since_small in
    let drafted = ap (λ (m : Numbers). m.drafted) e in
    let since = ap (λ (m : Numbers). m.since) e in
    let same = ap (λ (m : Numbers). m.drafted) f in
    let more = ap (λ (m : Numbers). m.since) f in
    omega (arith, small, ahead, long, few, drafted, since, same, more)

-- After a fault it does not matter which bytes were appended, nor where it is said.
made-as : (x y : List ℕ) (s t u : State) (cs : List WriterCall) (e : MergeFault) → Made x cs s t (Some e) → Made y cs s u (Some e)
made-as x y s t u cs TooLong h = h
made-as x y s t u cs Damage h = h
made-as x y s t u cs Folder h = tt
made-as x y s t u cs Memory h = tt

-- All calls were made, and the end of the file comes.
record Called (x : List ℕ) (w : ℕ) (cs : List WriterCall) (s t : State) : Type 0 where
  walks : Walks x cs s t
  comes : Comes t.files t.cursor (finish ∷ [])
  gap : t.numbers.gap ≤ max s.numbers.gap (lead s.numbers + w)
  less : lead t.numbers ≤ lead s.numbers

all-called : (x y : List ℕ) (w : ℕ) (cs : List WriterCall) (s t u : State) → Passes x unpaid s t None → Does x w cs (finish ∷ []) s t None → Sends y (call_finish ∷ []) t u None → Called (x ++ y) w (cs ++ call_finish ∷ []) s u
all-called x y w cs s t u p h g =
    let both = does-sends x y s t u None w cs (call_finish ∷ []) (finish ∷ []) h g in
    let long : 9 ≤ length (all_appended t.writer (call_finish ∷ [])) = (let l = finish-long t.writer in let one = ap length (append-nil (appended t.writer call_finish)) in omega (arith, l, one)) in
    let paid = passes-paid x y unpaid s t u (call_finish ∷ []) None long p g in
    record { walks = both.made; comes = both.follows; gap = both.gap; less = (let l = paid.ahead in omega (arith, l)) }

gap-behind : (x : List ℕ) (w : ℕ) (cs : List WriterCall) (s t u : State) → IsWithin w finish → Called x w cs s t → PullsAtMost (read_for t.cursor.standing finish) t.numbers u.numbers → u.numbers.gap ≤ max s.numbers.gap (lead s.numbers + w)
gap-behind x w cs s t u small called pulls =
    let more = gap-read w finish t.cursor.standing t.numbers u.numbers small pulls in
    let gap = called.gap in
    let less = called.less in
    omega (arith, more, gap, less)

-- ---- the nodes and what stands behind them

module _ {S : Type 0} (files : S → Option Files) (draft : S → Option (List ℕ)) (numbers : S → Numbers) (count : S → ℕ) (h : PlainInherited) (k : PlainKeyed) (old new : S) (c : PlainCursor) (writer_then : Writer) (d : PlainCursor) (v : PlainWriter) where
  -- where it begins, where it ends, and the end as it is said
  abbrev s : State
  s = state files draft numbers count old c writer_then

  abbrev p : State
  p = beside files draft numbers count new d v

  abbrev u : State
  u = state files draft numbers count new c writer_then

  reads-fault : (x : List ℕ) (n : ℕ) (e : MergeFault) → Passes x n s p (Some e) → Reads files draft numbers count x old new (c.length - c.at) 0 (Some e)
  reads-fault x n e h = record { same_files = h.same_files; lengthens = h.lengthens; later = h.later; cause = h.cause; pulls = h.pulls; ahead = tt }

  reads-all : (x : List ℕ) (n : ℕ) → lead (numbers new) ≤ lead (numbers old) → Passes x n s p None → Reads files draft numbers count x old new (c.length - c.at) 0 None
  reads-all x n less h =
      let within = h.within in
      let long = h.same_length in
      record {
        same_files = h.same_files;
        lengthens = h.lengthens;
        later = h.later;
        cause = tt;
        pulls = PullsAndDrafts-more (d.at - c.at) (c.length - c.at) (numbers old) (numbers new) (omega (arith, within, long)) h.pulls;
        ahead = omega (arith, less);
      }

  -- the calls for the nodes
  abbrev calls : PlainNodes → List WriterCall
  calls ks = row_calls h.now (merged_row h.number h.before ks (k ∷ []))

  -- the version is the one kid of the root
  module _ (kids : List PlainKeyed) (one : kids ≡ k ∷ []) where
    row-does : (t : State) (e : Option MergeFault) (row : RowMerged h kids s t e) (w : ℕ) (ks : PlainNodes) (m : ℕ) → AllByRecursion (IsWithin w) (row_items h.before ks ++ end_item m ∷ []) → Comes s.files s.cursor (row_items h.before ks ++ end_item m ∷ finish ∷ [])
        → IsTrue (are_nodes_below h.number ks) → IsTrue (all_fit ks (k ∷ [])) → Does row.appended w (calls ks) (finish ∷ []) s t e
    row-does t e row w ks m small comes below fit =
        subst (λ (cs : List PlainKeyed). Does row.appended w (row_calls h.now (merged_row h.number h.before ks cs)) (finish ∷ []) s t e) one
        (row.row w ks m (finish ∷ []) small comes below (subst (λ (cs : List PlainKeyed). IsTrue (all_fit ks cs)) (sym one) fit))

    its-kids : (b : ℕ) → IsShortTree b k → AllByRecursion (IsShortTree b) kids
    its-kids b tree = subst (λ (z : List PlainKeyed). AllByRecursion (IsShortTree b) z) (sym one) (tree, tt)

    -- the nodes could not be merged
    pub nodes-unmerged : (e : MergeFault) → RowMerged h kids s p (Some e) → NodesAppended files draft numbers count h k old new c writer_then (Some e)
    nodes-unmerged e row = record {
      appended = row.appended;
      reads = reads-fault row.appended unpaid e row.passes;
      no_room = λ b file sets tree. room-of b h.number row.appended s.writer p.writer (Some e) (row.went b file sets (its-kids b tree));
      nodes = λ w ks m small last comes below fit. (
          let does = row-does p (Some e) row w ks m small comes below fit in
          let cs = calls ks ++ call_finish ∷ [] in
          record { made = made-as row.appended row.appended s p (with_writer u (after_all s.writer cs)) cs e (made-fault row.appended row.appended s p e (calls ks) (call_finish ∷ []) does.made); gap = does.gap });
    }

    module _ (t : State) (row : RowMerged h kids s t None) where
      -- the last call failed
      pub nodes-unfinished : (e : MergeFault) → Sent (call_finish ∷ []) t p (Some e) → NodesAppended files draft numbers count h k old new c writer_then (Some e)
      nodes-unfinished e sent =
          let x = row.appended ++ sent.appended in
          let sends = sent.sends in
          record {
            appended = x;
            no_room = λ b file sets tree. room-of b h.number x s.writer p.writer (Some e)
                (went-then b h.number row.appended sent.appended s.writer t.writer p.writer (Some e) (row.went b file sets (its-kids b tree)) (went-sent b h.number (call_finish ∷ []) t p (Some e) (tt, tt) sent));
            reads = reads-fault x unpaid e (passes-then row.appended sent.appended s t p (Some e) unpaid 0 unpaid (omega arith) row.passes sends.passes);
            nodes = λ w ks m small last comes below fit. (
                let both = does-sends row.appended sent.appended s t p (Some e) w (calls ks) (call_finish ∷ []) (finish ∷ []) (row-does t None row w ks m small comes below fit) sends in
                let cs = calls ks ++ call_finish ∷ [] in
                record { made = made-as x x s p (with_writer u (after_all s.writer cs)) cs e both.made; gap = both.gap });
          }

      module _ (q : State) (sent : Sent (call_finish ∷ []) t q None) where
        abbrev bytes : List ℕ
        bytes = row.appended ++ sent.appended

        called : (w : ℕ) (ks : PlainNodes) (m : ℕ) → AllByRecursion (IsWithin w) (row_items h.before ks ++ end_item m ∷ []) → Comes s.files s.cursor (row_items h.before ks ++ end_item m ∷ finish ∷ [])
            → IsTrue (are_nodes_below h.number ks) → IsTrue (all_fit ks (k ∷ [])) → Called bytes w (calls ks ++ call_finish ∷ []) s q
        called w ks m small comes below fit = all-called row.appended sent.appended w (calls ks) s t q row.passes (row-does t None row w ks m small comes below fit) sent.sends

        finished-passes : Passes bytes unpaid s q None
        finished-passes = (let sends = sent.sends in passes-then row.appended sent.appended s t q None unpaid 0 unpaid (omega arith) row.passes sends.passes)

        -- the file was not read to its end
        pub nodes-unread : (e : CursorFault) → Stays q p e → NodesAppended files draft numbers count h k old new c writer_then (Some (of_cursor e))
        nodes-unread e stays =
            let passes = finished-passes in
            record {
              appended = bytes ++ [];
              no_room = λ b file sets tree. room-of b h.number (bytes ++ []) s.writer s.writer (Some (of_cursor e)) (went-read b h.number (bytes ++ []) s.writer s.writer e);
              reads = reads-fault (bytes ++ []) unpaid (of_cursor e) (passes-then bytes [] s q p (Some (of_cursor e)) unpaid 0 unpaid (omega arith) passes (failed 0 q p e passes.within stays));
              nodes = λ w ks m small last comes below fit. (
                  let all = called w ks m small comes below fit in
                  record {
                    made = none-made e (calls ks ++ call_finish ∷ []) (stays.undamaged finish [] all.comes);
                    gap = gap-behind bytes w (calls ks ++ call_finish ∷ []) s q p last all (stays.reads finish [] all.comes);
                  });
            }
          where
            none-made : (e : CursorFault) (cs : List WriterCall) → cursor.IfDamage e ⊥ → Made (bytes ++ []) cs s (with_writer u (after_all s.writer cs)) (Some (of_cursor e))
            none-made read.Damage cs f = f
            none-made read.Folder cs f = tt
            none-made read.Memory cs f = tt

        -- another item comes
        pub nodes-other : (item : Item) → item ≢ Finish → Nexts q p item → NodesAppended files draft numbers count h k old new c writer_then (Some Damage)
        nodes-other item other nexts = record {
          appended = bytes ++ [];
          no_room = λ b file sets tree. tt;
          reads = reads-fault (bytes ++ []) unpaid Damage (passes-then bytes [] s q p (Some Damage) unpaid 0 unpaid (omega arith) finished-passes (gave-stop 0 q p item Damage (λ e. absurd cc) nexts));
          nodes = λ w ks m small last comes below fit. (
              let all = called w ks m small comes below fit in
              let taken = gave-takes w finish [] q p item nexts last all.comes in
              absurd (not-finish item other taken.given));
        }
          where
            not-finish : (item : Item) → item ≢ Finish → shown_item item ≢ finish
            not-finish (Alt s b) h = λ e. absurd cc
            not-finish (Inner l s) h = λ e. absurd cc
            not-finish (Leaf l s) h = λ e. absurd cc
            not-finish LeafEnd h = λ e. absurd cc
            not-finish (End n) h = λ e. absurd cc
            not-finish Finish h = absurd (h refl)

        -- the file ends as it should
        pub nodes-appended : (item : Item) → item ≡ Finish → IsMeter t.numbers → q.numbers ≡ after_draft t.numbers (length (appended t.writer call_finish)) → Nexts q p item → NodesAppended files draft numbers count h k old new c writer_then None
        nodes-appended item is meter drafted nexts =
            let size = read_for q.cursor.standing (shown_item item) in
            let few : size ≤ 8 = subst (λ (n : PlainItem). read_for q.cursor.standing n ≤ 8) (sym (ap shown_item is)) (finish-reads q.cursor.standing) in
            let before = row.passes in
            let less = last-ahead (numbers old) t.numbers q.numbers (numbers new) (length (appended t.writer call_finish)) size meter before.ahead (finish-long t.writer) few drafted nexts.numbers in
            record {
              appended = bytes;
              no_room = λ b file sets tree. tt;
              reads = reads-all bytes (unpaid + size) less (passes-as (bytes ++ []) bytes (unpaid + size) s p None (append-nil bytes) (passes-then bytes [] s q p None unpaid size (unpaid + size) (omega arith) finished-passes (gave q p item nexts)));
              nodes = λ w ks m small last comes below fit. (
                  let all = called w ks m small comes below fit in
                  let walks = all.walks in
                  record {
                    made = record { same = walks.same; writer = refl; fit = walks.fit };
                    gap = gap-behind bytes w (calls ks ++ call_finish ∷ []) s q p last all (nexts.reads finish [] all.comes);
                  });
            }
