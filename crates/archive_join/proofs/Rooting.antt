-- Joining the nodes of whole archives.
use Rattle.std.proofs.Common.{◌≡◌, ◌≢◌, ℕ, ◌+◌, ◌-◌, ◌≤◌, Bool, true, false, List, [], ◌∷◌, ◌++◌, Option, Some, None, Result, Ok, Err, refl, sym, ap, subst, ◌∙◌, arith}
use Rattle.std.specs.Option.{option_map}
use Rattle.std.specs.Result.{OnOk, result_map_both}
use Rattle.std.proofs.lemmas.List.{append-nil}
use Rattle.archive_tree.specs.Data.{PlainNodes, nodes_list}
use Rattle.xa_outside.specs.Folder.{Files}
use Rattle.xa_outside.specs.Numbers.{Numbers, IsMeter, PullsAndDrafts}
use Rattle.xa_outside.specs.NumberLaws.{PullsAndDrafts-more}
use Rattle.record_copy.specs.Faults.{IfLong, of_writer}
use Rattle.record_copy.specs.Faults as copy
use Rattle.record_copy.specs.Reads.{FinishRead, Shows}
use Rattle.record_copy.specs.Passes as passing
use Rattle.record_copy.specs.Runs.{IsPart, Sent}
use Rattle.record_copy.specs.Seen.{Coming, row_items}
use Rattle.record_copy.specs.Short.{AreShort, IsRaisedOf}
use Rattle.record_copy.specs.State as at_one
use Rattle.record_copy.specs.declared.fault.CopyFault.{CopyFault}
use Rattle.record_copy.specs.declared.fault.CopyFault.TheVariants.{Damage, Folder, TooLong, Memory}
use Rattle.record_copy.proofs.Running.{short-part, called, plain-sends, short-then, short-none}
use Rattle.record_cursor.specs.Items.{PlainItem, end_item, finish}
use Rattle.record_cursor.specs.View.{PlainCursor}
use Rattle.record_writer.specs.Calls.{appended, after, Fits}
use Rattle.record_writer.specs.Data.{PlainWriter, WriterCall, call_finish}
use Rattle.record_writer.specs.Faults.{TooLongUnless, Appends}
use Rattle.record_writer.specs.Walks.{row_calls}
use Rattle.record_writer.specs.declared.fault.WriteFault.{WriteFault}
use Rattle.record_writer.specs.declared.writer.Writer.{Writer}
use Rattle.archive_join.specs.Faults.{of_side, of_any, plain, SparesFirst, SparesSecond}
use Rattle.archive_join.specs.Joined.{joined_row}
use Rattle.archive_join.specs.Passes.{Passes, may_pull}
use Rattle.archive_join.specs.Runs.{Run, AreCalls}
use Rattle.archive_join.specs.Short.{IsMadeOf}
use Rattle.archive_join.specs.State.{State, state, beside, with_first, with_second}
use Rattle.archive_join.specs.Walked.{RowJoined, RowsFit}
use Rattle.archive_join.specs.Whole.{Reads, NodesJoined}
use Rattle.archive_join.specs.declared.fault.JoinFault.{JoinFault}
use Rattle.archive_join.proofs.Passing.{passes-then, first-passes, second-passes}
use Rattle.archive_join.proofs.Running.{run-then, run-none, first-run, calls-then, calls-fault, calls-part, plain-side, spares-first, spares-second, spares-own-first, spares-own-second, comes-still}

-- ---- faults

-- an archive that a call reads on its own side is undamaged where the call was not damaged
own-first : (e : Option CopyFault) → e ≢ Some Damage → SparesFirst (option_map (of_side false) e)
own-first None n = tt
own-first (Some f) n = spares-own-first f (λ is. n (ap Some is))

own-second : (e : Option CopyFault) → e ≢ Some Damage → SparesSecond (option_map (of_side true) e)
own-second None n = tt
own-second (Some f) n = spares-own-second f (λ is. n (ap Some is))

-- calls of the writer do no damage
part-spares : (cs made : List WriterCall) (next : WriterCall) (e : Option CopyFault) → IsPart cs made next e → e ≢ Some Damage
part-spares cs made next None h = λ is. absurd cc
part-spares cs made next (Some Damage) h = absurd h
part-spares cs made next (Some TooLong) h = λ is. absurd cc
part-spares cs made next (Some Folder) h = λ is. absurd cc
part-spares cs made next (Some Memory) h = λ is. absurd cc

-- nor does a call that read what comes
shows-spares : {T U : Type 0} (n : ℕ) (view : T → U) (u : U) (next : List PlainItem) (t : at_one.State) (r : Result T CopyFault) → Shows n view u next t r → copy.fault_of r ≢ Some Damage
shows-spares n view u next t (Ok x) h = λ is. absurd cc
shows-spares n view u next t (Err Damage) h = absurd h
shows-spares n view u next t (Err TooLong) h = λ is. absurd cc
shows-spares n view u next t (Err Folder) h = λ is. absurd cc
shows-spares n view u next t (Err Memory) h = λ is. absurd cc

-- a call that only reads does not fail for want of room
never-long : (e : Option CopyFault) → IfLong e ⊥ → e ≢ Some TooLong
never-long None h = λ is. absurd cc
never-long (Some TooLong) h = absurd h
never-long (Some Damage) h = λ is. absurd cc
never-long (Some Folder) h = λ is. absurd cc
never-long (Some Memory) h = λ is. absurd cc

-- all calls were made, and it ends otherwise than for want of room
calls-all : (cs made : List WriterCall) (next : WriterCall) (e : Option CopyFault) → e ≢ Some TooLong → made ≡ cs → AreCalls cs made next e
calls-all cs made next None n is = is
calls-all cs made next (Some TooLong) n is = absurd (n refl)
calls-all cs made next (Some Damage) n is = tt
calls-all cs made next (Some Folder) n is = tt
calls-all cs made next (Some Memory) n is = tt

-- ---- what the code hands on

on-ok : {T E : Type 0} (r : Result T E) (P : Type 0) → P → OnOk r P
on-ok (Ok x) P p = p
on-ok (Err e) P p = tt

never-ok : (f : JoinFault) (x : Unit {0}) → ¬ (◌≡◌ {A = Result (Unit {0}) JoinFault} (Err f) (Ok x))
never-ok f x is = absurd cc

-- a call did not fail
pub no-fault : (second : Bool) (r : Result (Unit {0}) CopyFault) (z : Result (Unit {0}) JoinFault) (x : Unit {0}) → z ≡ result_map_both (λ (y : Unit {0}). y) (of_side second) r → z ≡ Ok x → copy.fault_of r ≡ None
no-fault second (Ok y) z x is at = refl
no-fault second (Err e) z x is at = absurd (never-ok (of_side second e) x (sym is ∙ at))

-- the last call of the writer
pub finishes : {S : Type 0} (files : S → Option Files) (draft : S → Option (List ℕ)) (numbers : S → Numbers) (faults : S → ℕ) (old new : S) (c : PlainCursor) (v : PlainWriter) (r : Result (Unit {0}) WriteFault) (z : Result (Unit {0}) CopyFault)
    → IsMeter (numbers old) → c.at ≤ c.length → Appends files draft numbers faults old new (appended v call_finish) r → TooLongUnless (Fits v call_finish) r → z ≡ result_map_both (λ (y : Unit {0}). y) of_writer r
    → Sent (call_finish ∷ []) (at_one.beside files draft numbers faults old c v) (at_one.beside files draft numbers faults new c (after v call_finish)) (copy.fault_of z)
finishes files draft numbers faults old new c v r z meter within did fits is =
    subst (λ (e : Option CopyFault). Sent (call_finish ∷ []) (at_one.beside files draft numbers faults old c v) (at_one.beside files draft numbers faults new c (after v call_finish)) e) (called r z is)
    (plain-sends files draft numbers faults old new c v (after v call_finish) call_finish r meter within did (on-ok r (after v call_finish ≡ after v call_finish) refl) fits)

module _ {S : Type 0} (files : S → Option Files) (draft : S → Option (List ℕ)) (numbers : S → Numbers) (faults : S → ℕ) (n : ℕ) (p q both : List (ℕ × ℕ)) (old new : S) (c d x y : PlainCursor) (w : Writer) (v : PlainWriter) where
  abbrev s : State
  s = state files draft numbers faults old c d w

  -- the state at the end
  abbrev z : State
  z = beside files draft numbers faults new x y v

  abbrev Ours : PlainNodes → Type 0
  Ours ks = Coming 0 (files old) c (row_items ks ++ end_item 0 ∷ finish ∷ [])

  abbrev Theirs : PlainNodes → Type 0
  Theirs js = Coming n (files old) d (row_items js ++ end_item 0 ∷ finish ∷ [])

  abbrev calls : PlainNodes → PlainNodes → List WriterCall
  calls ks js = row_calls both (joined_row p q ks (nodes_list js))

  abbrev Short : List WriterCall → WriterCall → Option CopyFault → Type 0
  Short made next e = (b : ℕ) → c.length + 12 ≤ b → d.length + 12 ≤ b → IsRaisedOf b 0 p → IsRaisedOf b n q → AreShort (IsMadeOf b n) b made next e

  abbrev Called : List WriterCall → WriterCall → Option CopyFault → Type 0
  Called made next e = (ks js : PlainNodes) → Ours ks → Theirs js → RowsFit ks js → AreCalls (calls ks js ++ call_finish ∷ []) made next e

  pulled : (bytes : List ℕ) (e : Option CopyFault) → Passes bytes s z e → PullsAndDrafts ((c.length - c.at) + (d.length - d.at)) (numbers old) (numbers new)
  pulled bytes None h =
      let a = h.first in
      let b = h.second in
      let i = a.within in let j = b.within in let k = a.same_length in let l = b.same_length in
      PullsAndDrafts-more (may_pull s z None) ((c.length - c.at) + (d.length - d.at)) (numbers old) (numbers new) (omega (arith, i, j, k, l)) h.pulls
  pulled bytes (Some f) h = h.pulls

  reads : (bytes : List ℕ) (e : Option CopyFault) → Passes bytes s z e → Reads files draft numbers faults bytes old new ((c.length - c.at) + (d.length - d.at)) e
  reads bytes e h = record { same_files = h.same_files; lengthens = h.lengthens; later = h.later; cause = h.cause; pulls = pulled bytes e h }

  nodes-by : (made : List WriterCall) (next : WriterCall) (ended : Option JoinFault) → Run made next s z (plain ended) → Short made next (plain ended) → ((ks : PlainNodes) → Ours ks → SparesFirst ended) → ((js : PlainNodes) → Theirs js → SparesSecond ended)
      → Called made next (plain ended) → NodesJoined files draft numbers faults n p q both old new c d w ended
  nodes-by made next ended run short first second nodes = record {
    made = made;
    next = next;
    bytes = run.bytes;
    reads = reads run.bytes (plain ended) run.passes;
    same = run.same;
    fit = run.fit;
    over = run.over;
    short = short;
    first = first;
    second = second;
    nodes = nodes;
  }

  -- of a fault that is written in another way
  nodes-as : (made : List WriterCall) (next : WriterCall) (e : Option CopyFault) (ended : Option JoinFault) → plain ended ≡ e → Run made next s z e → Short made next e → ((ks : PlainNodes) → Ours ks → SparesFirst ended) → ((js : PlainNodes) → Theirs js → SparesSecond ended)
      → Called made next e → NodesJoined files draft numbers faults n p q both old new c d w ended
  nodes-as made next e ended is run short first second nodes =
      nodes-by made next ended (subst (λ (o : Option CopyFault). Run made next s z o) (sym is) run) (subst (λ (o : Option CopyFault). Short made next o) (sym is) short) first second
      (subst (λ (o : Option CopyFault). Called made next o) (sym is) nodes)

  -- the rows could not be joined
  pub nodes-unjoined : (f : JoinFault) → RowJoined n p q both s z (Some f) → NodesJoined files draft numbers faults n p q both old new c d w (Some f)
  nodes-unjoined f row = nodes-by row.made row.next (Some f) row.run row.short (λ ks come. (row.first ks (finish ∷ []) come).undamaged) (λ js come. (row.second js (finish ∷ []) come).undamaged)
      (λ ks js ours theirs fit. calls-fault (calls ks js) (call_finish ∷ []) row.made row.next (of_any f) (row.rows ks js (finish ∷ []) (finish ∷ []) ours theirs fit))

  module _ (t : State) (row : RowJoined n p q both s t None) where
    sent-run : (u : State) (e : Option CopyFault) (sent : Sent (call_finish ∷ []) (with_first t) (with_first u) e) → u.second ≡ t.second → Run (row.made ++ sent.made) sent.next s u e
    sent-run u e sent same = (let run = row.run in run-then row.made sent.made row.next sent.next s t u e run (first-run sent.made sent.next t u e run.passes.second.within same sent.run))

    sent-short : (u : State) (e : Option CopyFault) (sent : Sent (call_finish ∷ []) (with_first t) (with_first u) e) → Short (row.made ++ sent.made) sent.next e
    sent-short u e sent b file other i j =
        short-then (IsMadeOf b n) b row.made sent.made row.next sent.next e (row.short b file other i j) (short-part (IsMadeOf b n) b (call_finish ∷ []) sent.made sent.next e (tt, tt) sent.part)

    sent-calls : (u : State) (e : Option CopyFault) (sent : Sent (call_finish ∷ []) (with_first t) (with_first u) e) → Called (row.made ++ sent.made) sent.next e
    sent-calls u e sent ks js ours theirs fit =
        calls-then (calls ks js) (call_finish ∷ []) row.made sent.made sent.next e (row.rows ks js (finish ∷ []) (finish ∷ []) ours theirs fit) (calls-part (call_finish ∷ []) sent.made sent.next e sent.part)

    -- the last call failed
    pub nodes-unfinished : (e : Option CopyFault) → Sent (call_finish ∷ []) (with_first t) (with_first z) e → y ≡ t.second → NodesJoined files draft numbers faults n p q both old new c d w (option_map (of_side false) e)
    nodes-unfinished e sent same = nodes-as (row.made ++ sent.made) sent.next e (option_map (of_side false) e) (plain-side false e) (sent-run z e sent same) (sent-short z e sent)
        (λ ks come. own-first e (part-spares (call_finish ∷ []) sent.made sent.next e sent.part)) (λ js come. spares-second e) (sent-calls z e sent)

    module _ (u : State) (sent : Sent (call_finish ∷ []) (with_first t) (with_first u) None) (still : u.second ≡ t.second) where
      abbrev made : List WriterCall
      made = (row.made ++ sent.made) ++ []

      read-run : (a : State) (e : Option CopyFault) → e ≢ Some TooLong → a.writer ≡ u.writer → Passes [] u a e → Run made call_finish s a e
      read-run a e not same h = run-then (row.made ++ sent.made) [] sent.next call_finish s u a e (sent-run u None sent still) (run-none call_finish u a e not same h)

      read-short : (e : Option CopyFault) → e ≢ Some TooLong → Short made call_finish e
      read-short e not b file other i j = short-then (IsMadeOf b n) b (row.made ++ sent.made) [] sent.next call_finish e (sent-short u None sent b file other i j) (short-none (IsMadeOf b n) b call_finish e not)

      read-calls : (e : Option CopyFault) → e ≢ Some TooLong → Called made call_finish e
      read-calls e not ks js ours theirs fit = calls-all (calls ks js ++ call_finish ∷ []) made call_finish e not (append-nil (row.made ++ sent.made) ∙ sent-calls u None sent ks js ours theirs fit)

      -- the end of the first was read, or it failed
      pub nodes-unread : (r : Result (Unit {0}) CopyFault) → FinishRead 0 (with_first u) (with_first z) r → y ≡ u.second → v ≡ u.writer → NodesJoined files draft numbers faults n p q both old new c d w (option_map (of_side false) (copy.fault_of r))
      nodes-unread r read same writer =
          let e = copy.fault_of r in
          let not = never-long e read.not_long in
          let run = sent-run u None sent still in
          let did = sent.run in
          nodes-as made call_finish e (option_map (of_side false) e) (plain-side false e) (read-run z e not writer (first-passes [] u z e run.passes.second.within same read.passes)) (read-short e not)
          (λ ks come. own-first e (shows-spares 0 (λ (x : Unit {0}). x) tt [] (with_first z) r (read.ended [] (comes-still 0 t.files u.files t.first u.first (finish ∷ []) did.passes.same_files sent.same_cursor (row.first ks (finish ∷ []) come).comes))))
          (λ js come. spares-second e) (read-calls e not)

      -- the end of the second was read behind that of the first, or it failed
      pub nodes-joined : (a : State) → passing.Passes [] (with_first u) (with_first a) None → a.second ≡ u.second → a.writer ≡ u.writer → (r : Result (Unit {0}) CopyFault) → FinishRead n (with_second a) (with_second z) r → x ≡ a.first → v ≡ a.writer
          → NodesJoined files draft numbers faults n p q both old new c d w (option_map (of_side true) (copy.fault_of r))
      nodes-joined a left same writer r read unmoved writers =
          let e = copy.fault_of r in
          let not = never-long e read.not_long in
          let run = sent-run u None sent still in
          let did = sent.run in
          let passes = first-passes [] u a None run.passes.second.within same left in
          nodes-as made call_finish e (option_map (of_side true) e) (plain-side true e)
          (read-run z e not (writers ∙ writer) (passes-then [] [] u a z e passes (second-passes [] a z e passes.first.within unmoved read.passes))) (read-short e not)
          (λ ks come. spares-first e)
          (λ js come. own-second e (shows-spares n (λ (x : Unit {0}). x) tt [] (with_second z) r (read.ended [] (comes-still n t.files a.files t.second a.second (finish ∷ []) (left.same_files ∙ did.passes.same_files) (same ∙ still) (row.second js (finish ∷ []) come).comes))))
          (read-calls e not)
