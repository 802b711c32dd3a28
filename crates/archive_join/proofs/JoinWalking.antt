-- What joining the nodes of two rows goes along.
use Rattle.std.proofs.Common.{◌≡◌, ◌≢◌, ℕ, ◌+◌, ◌≤◌, ◌<◌, List, [], ◌++◌, Option, Some, None, Result, Ok, Err, Bool, true, false, true≢false, refl, sym, ap, subst, ◌∙◌, arith}
use Rattle.std.specs.Option.{option_map}
use Rattle.std.specs.declared.cmp.Ordering.TheVariants.{Less, Equal, Greater}
use Rattle.xa_outside.specs.Folder.{Files}
use Rattle.xa_outside.specs.Numbers.{IsMeter}
use Rattle.archive_tree.specs.Data.{PlainNode, PlainNodes, no_nodes, node, nodes_list}
use Rattle.record_cursor.specs.Items.{PlainItem}
use Rattle.record_cursor.specs.View.{PlainCursor}
use Rattle.record_writer.specs.Data.{PlainWriter, WriterCall, call_finish}
use Rattle.record_writer.specs.Walks.{node_calls, row_calls}
use Rattle.record_copy.specs.Faults.{Unless, IfLong}
use Rattle.record_copy.specs.Parts.{PlainHead, head_of}
use Rattle.record_copy.specs.Passes.{Rests}
use Rattle.record_copy.specs.Seen.{Coming}
use Rattle.record_copy.specs.Short.{AreShort, IsRaisedOf}
use Rattle.record_copy.specs.State as at_one
use Rattle.record_copy.specs.declared.fault.CopyFault.{CopyFault}
use Rattle.record_copy.specs.declared.fault.CopyFault.TheVariants.{Damage, Folder, TooLong, Memory}
use Rattle.record_copy.proofs.Alternating.{not-long, rests-behind}
use Rattle.archive_join.specs.Faults.{of_any, of_side, plain, SparesFirst, SparesSecond}
use Rattle.archive_join.specs.Heads.{AreShortHeads, HeadsRead, Left, LeavesOne, PassedAlone, one_of, turn, two_of}
use Rattle.archive_join.specs.Joined.{alone_node, joined_node, joined_row}
use Rattle.archive_join.specs.Meets.{Meet}
use Rattle.archive_join.specs.Passes.{GoesOn}
use Rattle.archive_join.specs.Runs.{Run, AreCalls, KeepsFirst, KeepsSecond}
use Rattle.archive_join.specs.Short.{IsMadeOf}
use Rattle.archive_join.specs.State.{State, with_first, with_second}
use Rattle.archive_join.specs.Walked.{RowsFit, RowJoined, TurnLeaves, SomeLeftFirst, SomeLeftSecond, TurnJoined, PairJoined}
use Rattle.archive_join.specs.declared.fault.JoinFault.{JoinFault}
use Rattle.archive_join.specs.declared.fault.JoinFault.TheVariants as fault
use Rattle.archive_join.specs.declared.heads.Heads.{Heads}
use Rattle.archive_join.proofs.Passing.{goes-then, passes-none}
use Rattle.record_copy.proofs.Running.{short-then, short-none}
use Rattle.archive_join.proofs.Running.{run-then, run-none, first-run, second-run, run-as, calls-then, calls-fault, calls-none, calls-as, any-side, spares-first, spares-second, spares-own-first, spares-own-second, short-made-first, short-made-second}
use Rattle.archive_join.proofs.Turning.{first_head, first_turned, second_turned, both_turned, less_some, greater_some, equal_first, equal_second, none_first, none_second, turned_as, calls_turned}

-- ---- faults

pub never-long : (f : CopyFault) → IfLong (Some f) ⊥ → f ≢ TooLong
never-long TooLong h d = h
never-long Damage h d = absurd cc
never-long Folder h d = absurd cc
never-long Memory h d = absurd cc

-- a fault that is no want of room says nothing of the calls
pub calls-stopped : (cs made : List WriterCall) (next : WriterCall) (f : CopyFault) → f ≢ TooLong → AreCalls cs made next (Some f)
calls-stopped cs made next TooLong n = absurd (n refl)
calls-stopped cs made next Damage n = tt
calls-stopped cs made next Folder n = tt
calls-stopped cs made next Memory n = tt

-- a fault of one of the archives, which it is as well without the archive
pub same-side : (second : Bool) (f : CopyFault) → ◌≡◌ {A = Option CopyFault} (Some f) (plain (Some (of_side second f)))
same-side second f = ap Some (sym (any-side second f))

-- there was no fault
pub side-none : (second : Bool) (e : Option CopyFault) → ◌≡◌ {A = Option JoinFault} None (option_map (of_side second) e) → e ≡ None
side-none second None is = refl
side-none second (Some f) is = absurd cc

-- ---- what is left of a row

headed : (n : ℕ) (told : Option Files) (c : PlainCursor) (h : Option PlainHead) (ks : PlainNodes) (behind : List PlainItem) → Left n told c h ks behind → h ≡ first_head ks
headed n told c h no_nodes behind l = l.0
headed n told c h (node k ks) behind l = l.0

left-still : (n : ℕ) (told now : Option Files) (c d : PlainCursor) (h : Option PlainHead) (ks : PlainNodes) (behind : List PlainItem) → now ≡ told → d ≡ c → Left n told c h ks behind → Left n now d h ks behind
left-still n told now c d h ks behind files same l = subst (λ (f : Option Files). Left n f d h ks behind) (sym files) (subst (λ (x : PlainCursor). Left n told x h ks behind) (sym same) l)

undamaged : (n : ℕ) (ks : PlainNodes) (behind : List PlainItem) (t : at_one.State) (h : Option PlainHead) (f : CopyFault) → LeavesOne n ks behind t h (Some f) → f ≢ Damage
undamaged n ks behind t h Damage l d = absurd l
undamaged n ks behind t h TooLong l d = absurd cc
undamaged n ks behind t h Folder l d = absurd cc
undamaged n ks behind t h Memory l d = absurd cc

-- ---- a turn at which one archive has a node alone

abbrev pub moreover : Option JoinFault → Result Bool JoinFault
moreover None = Ok true
moreover (Some f) = Err f

-- there is no node
pub turn-none : (n : ℕ) (p q both : List (ℕ × ℕ)) (one two : Option PlainHead) (s : State) → IsMeter s.numbers → s.first.at ≤ s.first.length → s.second.at ≤ s.second.length → s.writer.leaf ≡ None → turn one two ≡ None → TurnJoined n p q both one two one two s s (Ok false)
turn-none n p q both one two s meter left right leaf none = record {
  made = [];
  next = call_finish;
  run = run-none call_finish s s None (λ d. absurd cc) refl (passes-none s None meter left right (λ d. absurd cc));
  rests = record { no_leaf = leaf; inners = refl };
  onward = λ e. absurd (true≢false (sym e));
  short = λ b x y few some heads. (short-none (IsMadeOf b n) b call_finish None (λ d. absurd cc), heads);
  first = first-ended;
  second = second-ended;
  rows = ended;
}
  where
    no-head : (h : Option PlainHead) (k : PlainNode) → h ≡ None → ¬ (h ≡ Some (head_of k))
    no-head h k e d = (let x : ◌≡◌ {A = Option PlainHead} None (Some (head_of k)) = sym e ∙ d in absurd cc)

    first-ended : (ks : PlainNodes) (behind : List PlainItem) → Left 0 s.files s.first one ks behind → Coming 0 s.files s.first behind
    first-ended no_nodes behind l = l.1
    first-ended (node k ks) behind l = absurd (no-head one k (none_first one two none) l.0)

    second-ended : (js : PlainNodes) (behind : List PlainItem) → Left n s.files s.second two js behind → Coming n s.files s.second behind
    second-ended no_nodes behind l = l.1
    second-ended (node j js) behind l = absurd (no-head two j (none_second one two none) l.0)

    ended : (ks js : PlainNodes) (others more : List PlainItem) → Left 0 s.files s.first one ks others → Left n s.files s.second two js more → RowsFit ks js → [] ≡ row_calls both (joined_row p q ks (nodes_list js))
    ended no_nodes no_nodes others more l r fits = refl
    ended no_nodes (node j js) others more l r fits = absurd (no-head two j (none_second one two none) r.0)
    ended (node k ks) js others more l r fits = absurd (no-head one k (none_first one two none) l.0)

-- the first has it
module _ (n : ℕ) (p q both : List (ℕ × ℕ)) (one two now : Option PlainHead) (s t : State) (within : s.second.at ≤ s.second.length) (same : t.second ≡ s.second) (alone : q ≡ [] → both ≡ p) (less : turn one two ≡ Some Less) where
  abbrev FirstPassed : Option CopyFault → Type 0
  FirstPassed e = PassedAlone 0 p q one now (with_first s) (with_first t) e

  first-on : (h : FirstPassed None) (ks : PlainNodes) (behind : List PlainItem) → Left 0 s.files s.first one ks behind → SomeLeftFirst 0 behind t now
  first-on h no_nodes behind l = absurd (less_some one two less l.0)
  first-on h (node k ks) behind l = record { ks = ks; first = (h.node p k ks behind (λ e. refl) l).1 }

  first-stops : (f : CopyFault) (h : FirstPassed (Some f)) (ks : PlainNodes) (behind : List PlainItem) → Left 0 s.files s.first one ks behind → SparesFirst (Some (of_side false f))
  first-stops f h no_nodes behind l = absurd (less_some one two less l.0)
  first-stops f h (node k ks) behind l = spares-own-first f (undamaged 0 ks behind (with_first t) now f (h.node p k ks behind (λ e. refl) l).1)

  first-row : (k : PlainNode) (ks js : PlainNodes) (others more : List PlainItem) → Left 0 s.files s.first one (node k ks) others → Left n s.files s.second two js more → RowsFit (node k ks) js
      → RowsFit ks js × (row_calls both (joined_row p q (node k ks) (nodes_list js)) ≡ node_calls both (alone_node p q k) ++ row_calls both (joined_row p q ks (nodes_list js)))
  first-row k ks js others more l r fits =
      let turned = first_turned p q k ks js fits (turned_as one two (node k ks) js (Some Less) (headed 0 s.files s.first one (node k ks) others l) (headed n s.files s.second two js more r) less) in
      (turned.fits, calls_turned p q both (alone_node p q k) (node k ks) js ks js turned)

  first-leaves : (h : FirstPassed None) (ks js : PlainNodes) (others more : List PlainItem) → Left 0 s.files s.first one ks others → Left n s.files s.second two js more → RowsFit ks js → TurnLeaves n p q both h.made ks js others more t now two
  first-leaves h no_nodes js others more l r fits = absurd (less_some one two less l.0)
  first-leaves h (node k ks) js others more l r fits =
      let passed = h.node both k ks others alone l in
      let row = first-row k ks js others more l r fits in
      let run = h.run in
      let passes = run.passes in
      record {
        ks_left = ks;
        js_left = js;
        first = passed.1;
        second = left-still n s.files t.files s.second t.second two js more passes.same_files same r;
        fits = row.0;
        calls = row.1 ∙ ap (λ z. z ++ row_calls both (joined_row p q ks (nodes_list js))) (sym passed.0);
      }

  first-calls : (f : CopyFault) (h : FirstPassed (Some f)) (ks js : PlainNodes) (others more : List PlainItem) → Left 0 s.files s.first one ks others → Left n s.files s.second two js more → RowsFit ks js
      → AreCalls (row_calls both (joined_row p q ks (nodes_list js))) h.made h.next (plain (Some (of_side false f)))
  first-calls f h no_nodes js others more l r fits = absurd (less_some one two less l.0)
  first-calls f h (node k ks) js others more l r fits =
      let passed = h.node both k ks others alone l in
      let row = first-row k ks js others more l r fits in
      let rest = row_calls both (joined_row p q ks (nodes_list js)) in
      subst (λ (e : Option CopyFault). AreCalls (row_calls both (joined_row p q (node k ks) (nodes_list js))) h.made h.next e) (same-side false f)
      (calls-as (node_calls both (alone_node p q k) ++ rest) _ h.made h.next (Some f) (sym row.1) (calls-fault (node_calls both (alone_node p q k)) rest h.made h.next f passed.0))

  pub turn-first : (e : Option CopyFault) → FirstPassed e → TurnJoined n p q both one two now two s t (moreover (option_map (of_side false) e))
  turn-first None h = record {
    made = h.made;
    next = h.next;
    run = first-run h.made h.next s t None within same h.run;
    rests = h.rests;
    onward = (let moved : s.first.at < t.first.at = h.onward in let still = ap (λ (c : PlainCursor). c.at) same in λ e. omega (arith, moved, still));
    short = λ b left right few some heads. (let short = h.short b left few heads.0 in (short-made-first b n h.made h.next None short.0, (short.1, heads.1)));
    first = first-on h;
    second = λ js behind l. (let run = h.run in let passes = run.passes in record { js = js; second = left-still n s.files t.files s.second t.second two js behind passes.same_files same l });
    rows = first-leaves h;
  }
  turn-first (Some f) h = record {
    made = h.made;
    next = h.next;
    run = run-as h.made h.next s t (Some f) _ (same-side false f) (first-run h.made h.next s t (Some f) within same h.run);
    rests = tt;
    onward = tt;
    short = λ b left right few some heads. (let short = h.short b left few heads.0 in (subst (λ (e : Option CopyFault). AreShort (IsMadeOf b n) b h.made h.next e) (same-side false f) (short-made-first b n h.made h.next (Some f) short.0), tt));
    first = first-stops f h;
    second = λ js behind l. spares-second (Some f);
    rows = first-calls f h;
  }

-- the second has it
module _ (n : ℕ) (p q both : List (ℕ × ℕ)) (one two now : Option PlainHead) (s t : State) (within : s.first.at ≤ s.first.length) (same : t.first ≡ s.first) (alone : p ≡ [] → both ≡ q) (greater : turn one two ≡ Some Greater) where
  abbrev SecondPassed : Option CopyFault → Type 0
  SecondPassed e = PassedAlone n q p two now (with_second s) (with_second t) e

  second-on : (h : SecondPassed None) (js : PlainNodes) (behind : List PlainItem) → Left n s.files s.second two js behind → SomeLeftSecond n behind t now
  second-on h no_nodes behind l = absurd (greater_some one two greater l.0)
  second-on h (node j js) behind l = record { js = js; second = (h.node q j js behind (λ e. refl) l).1 }

  second-stops : (f : CopyFault) (h : SecondPassed (Some f)) (js : PlainNodes) (behind : List PlainItem) → Left n s.files s.second two js behind → SparesSecond (Some (of_side true f))
  second-stops f h no_nodes behind l = absurd (greater_some one two greater l.0)
  second-stops f h (node j js) behind l = spares-own-second f (undamaged n js behind (with_second t) now f (h.node q j js behind (λ e. refl) l).1)

  second-row : (ks : PlainNodes) (j : PlainNode) (js : PlainNodes) (others more : List PlainItem) → Left 0 s.files s.first one ks others → Left n s.files s.second two (node j js) more → RowsFit ks (node j js)
      → RowsFit ks js × (row_calls both (joined_row p q ks (nodes_list (node j js))) ≡ node_calls both (alone_node q p j) ++ row_calls both (joined_row p q ks (nodes_list js)))
  second-row ks j js others more l r fits =
      let turned = second_turned p q ks j js fits (turned_as one two ks (node j js) (Some Greater) (headed 0 s.files s.first one ks others l) (headed n s.files s.second two (node j js) more r) greater) in
      (turned.fits, calls_turned p q both (alone_node q p j) ks (node j js) ks js turned)

  second-leaves : (h : SecondPassed None) (ks js : PlainNodes) (others more : List PlainItem) → Left 0 s.files s.first one ks others → Left n s.files s.second two js more → RowsFit ks js → TurnLeaves n p q both h.made ks js others more t one now
  second-leaves h ks no_nodes others more l r fits = absurd (greater_some one two greater r.0)
  second-leaves h ks (node j js) others more l r fits =
      let passed = h.node both j js more alone r in
      let row = second-row ks j js others more l r fits in
      let run = h.run in
      let passes = run.passes in
      record {
        ks_left = ks;
        js_left = js;
        first = left-still 0 s.files t.files s.first t.first one ks others passes.same_files same l;
        second = passed.1;
        fits = row.0;
        calls = row.1 ∙ ap (λ z. z ++ row_calls both (joined_row p q ks (nodes_list js))) (sym passed.0);
      }

  second-calls : (f : CopyFault) (h : SecondPassed (Some f)) (ks js : PlainNodes) (others more : List PlainItem) → Left 0 s.files s.first one ks others → Left n s.files s.second two js more → RowsFit ks js
      → AreCalls (row_calls both (joined_row p q ks (nodes_list js))) h.made h.next (plain (Some (of_side true f)))
  second-calls f h ks no_nodes others more l r fits = absurd (greater_some one two greater r.0)
  second-calls f h ks (node j js) others more l r fits =
      let passed = h.node both j js more alone r in
      let row = second-row ks j js others more l r fits in
      let rest = row_calls both (joined_row p q ks (nodes_list js)) in
      subst (λ (e : Option CopyFault). AreCalls (row_calls both (joined_row p q ks (nodes_list (node j js)))) h.made h.next e) (same-side true f)
      (calls-as (node_calls both (alone_node q p j) ++ rest) _ h.made h.next (Some f) (sym row.1) (calls-fault (node_calls both (alone_node q p j)) rest h.made h.next f passed.0))

  pub turn-second : (e : Option CopyFault) → SecondPassed e → TurnJoined n p q both one two one now s t (moreover (option_map (of_side true) e))
  turn-second None h = record {
    made = h.made;
    next = h.next;
    run = second-run h.made h.next s t None within same h.run;
    rests = h.rests;
    onward = (let moved : s.second.at < t.second.at = h.onward in let still = ap (λ (c : PlainCursor). c.at) same in λ e. omega (arith, moved, still));
    short = λ b left right few some heads. (let short = h.short b right some heads.1 in (short-made-second b n h.made h.next None short.0, (heads.0, short.1)));
    first = λ ks behind l. (let run = h.run in let passes = run.passes in record { ks = ks; first = left-still 0 s.files t.files s.first t.first one ks behind passes.same_files same l });
    second = second-on h;
    rows = second-leaves h;
  }
  turn-second (Some f) h = record {
    made = h.made;
    next = h.next;
    run = run-as h.made h.next s t (Some f) _ (same-side true f) (second-run h.made h.next s t (Some f) within same h.run);
    rests = tt;
    onward = tt;
    short = λ b left right few some heads. (let short = h.short b right some heads.1 in (subst (λ (e : Option CopyFault). AreShort (IsMadeOf b n) b h.made h.next e) (same-side true f) (short-made-second b n h.made h.next (Some f) short.0), tt));
    first = λ ks behind l. spares-first (Some f);
    second = second-stops f h;
    rows = second-calls f h;
  }

-- ---- a turn at which both have a node

module _ (n : ℕ) (p q both : List (ℕ × ℕ)) (one two one' two' : Option PlainHead) (s t : State) (equal : turn one two ≡ Some Equal) where
  pair-row : (k : PlainNode) (ks : PlainNodes) (j : PlainNode) (js : PlainNodes) (others more : List PlainItem) → Left 0 s.files s.first one (node k ks) others → Left n s.files s.second two (node j js) more → RowsFit (node k ks) (node j js)
      → Meet k j × (RowsFit ks js × (row_calls both (joined_row p q (node k ks) (nodes_list (node j js))) ≡ node_calls both (joined_node p q k j) ++ row_calls both (joined_row p q ks (nodes_list js))))
  pair-row k ks j js others more l r fits =
      let turned = both_turned p q k ks j js fits (turned_as one two (node k ks) (node j js) (Some Equal) (headed 0 s.files s.first one (node k ks) others l) (headed n s.files s.second two (node j js) more r) equal) in
      let left = turned.1 in
      (turned.0, (left.fits, calls_turned p q both (joined_node p q k j) (node k ks) (node j js) ks js left))

  pair-on : (h : PairJoined n p q both one two one' two' s t None) (ks : PlainNodes) (behind : List PlainItem) → Left 0 s.files s.first one ks behind → SomeLeftFirst 0 behind t one'
  pair-on h no_nodes behind l = absurd (equal_first one two equal l.0)
  pair-on h (node k ks) behind l = record { ks = ks; first = h.first k ks behind l }

  pair-on_second : (h : PairJoined n p q both one two one' two' s t None) (js : PlainNodes) (behind : List PlainItem) → Left n s.files s.second two js behind → SomeLeftSecond n behind t two'
  pair-on_second h no_nodes behind l = absurd (equal_second one two equal l.0)
  pair-on_second h (node j js) behind l = record { js = js; second = h.second j js behind l }

  pair-stops : (f : JoinFault) (h : PairJoined n p q both one two one' two' s t (Some f)) (ks : PlainNodes) (behind : List PlainItem) → Left 0 s.files s.first one ks behind → SparesFirst (Some f)
  pair-stops f h no_nodes behind l = absurd (equal_first one two equal l.0)
  pair-stops f h (node k ks) behind l = h.first k ks behind l

  pair-stops_second : (f : JoinFault) (h : PairJoined n p q both one two one' two' s t (Some f)) (js : PlainNodes) (behind : List PlainItem) → Left n s.files s.second two js behind → SparesSecond (Some f)
  pair-stops_second f h no_nodes behind l = absurd (equal_second one two equal l.0)
  pair-stops_second f h (node j js) behind l = h.second j js behind l

  pair-leaves : (h : PairJoined n p q both one two one' two' s t None) (ks js : PlainNodes) (others more : List PlainItem) → Left 0 s.files s.first one ks others → Left n s.files s.second two js more → RowsFit ks js → TurnLeaves n p q both h.made ks js others more t one' two'
  pair-leaves h no_nodes js others more l r fits = absurd (equal_first one two equal l.0)
  pair-leaves h (node k ks) no_nodes others more l r fits = absurd (equal_second one two equal r.0)
  pair-leaves h (node k ks) (node j js) others more l r fits =
      let row = pair-row k ks j js others more l r fits in
      record {
        ks_left = ks;
        js_left = js;
        first = h.first k ks others l;
        second = h.second j js more r;
        fits = row.1.0;
        calls = row.1.1 ∙ ap (λ z. z ++ row_calls both (joined_row p q ks (nodes_list js))) (sym (h.nodes k j ks js others more l r row.0));
      }

  pair-calls : (f : JoinFault) (h : PairJoined n p q both one two one' two' s t (Some f)) (ks js : PlainNodes) (others more : List PlainItem) → Left 0 s.files s.first one ks others → Left n s.files s.second two js more → RowsFit ks js
      → AreCalls (row_calls both (joined_row p q ks (nodes_list js))) h.made h.next (plain (Some f))
  pair-calls f h no_nodes js others more l r fits = absurd (equal_first one two equal l.0)
  pair-calls f h (node k ks) no_nodes others more l r fits = absurd (equal_second one two equal r.0)
  pair-calls f h (node k ks) (node j js) others more l r fits =
      let row = pair-row k ks j js others more l r fits in
      let rest = row_calls both (joined_row p q ks (nodes_list js)) in
      calls-as (node_calls both (joined_node p q k j) ++ rest) _ h.made h.next (plain (Some f)) (sym row.1.1)
      (calls-fault (node_calls both (joined_node p q k j)) rest h.made h.next (of_any f) (h.nodes k j ks js others more l r row.0))

  pub turn-both : (e : Option JoinFault) → PairJoined n p q both one two one' two' s t e → TurnJoined n p q both one two one' two' s t (moreover e)
  turn-both None h = record {
    made = h.made;
    next = h.next;
    run = h.run;
    rests = h.rests;
    onward = λ e. h.onward;
    short = h.short;
    first = pair-on h;
    second = pair-on_second h;
    rows = pair-leaves h;
  }
  turn-both (Some f) h = record {
    made = h.made;
    next = h.next;
    run = h.run;
    rests = tt;
    onward = tt;
    short = h.short;
    first = pair-stops f h;
    second = pair-stops_second f h;
    rows = pair-calls f h;
  }

-- ---- a row

-- What is left of the rows behind these heads is written, and the ENDs behind them are taken.
pub record RestJoined (n : ℕ) (p q both : List (ℕ × ℕ)) (one two : Option PlainHead) (s t : State) (ended : Option JoinFault) : Type 0 where
  pub made : List WriterCall
  pub next : WriterCall
  pub run : Run made next s t (plain ended)
  pub rests : Unless (plain ended) (Rests s.writer t.writer)
  pub short : (b : ℕ) → s.first.length + 12 ≤ b → s.second.length + 12 ≤ b → IsRaisedOf b 0 p → IsRaisedOf b n q → AreShortHeads b n one two → AreShort (IsMadeOf b n) b made next (plain ended)
  pub first : (ks : PlainNodes) (behind : List PlainItem) → Left 0 s.files s.first one ks behind → KeepsFirst behind t ended
  pub second : (js : PlainNodes) (behind : List PlainItem) → Left n s.files s.second two js behind → KeepsSecond n behind t ended
  pub rows : (ks js : PlainNodes) (others more : List PlainItem) → Left 0 s.files s.first one ks others → Left n s.files s.second two js more → RowsFit ks js → AreCalls (row_calls both (joined_row p q ks (nodes_list js))) made next (plain ended)

module _ (n : ℕ) (p q both : List (ℕ × ℕ)) (one two one' two' : Option PlainHead) (s t : State) where
  pub rest-then : (u : State) (e : Option JoinFault) → TurnJoined n p q both one two one' two' s t (Ok true) → RestJoined n p q both one' two' t u e → RestJoined n p q both one two s u e
  rest-then u e h g =
      let did = h.run in
      let passes = did.passes in
      let left = passes.first in
      let right = passes.second in
      record {
        made = h.made ++ g.made;
        next = g.next;
        run = run-then h.made g.made h.next g.next s t u (plain e) h.run g.run;
        rests = (let r = h.rests in rests-behind s.writer t.writer u.writer (plain e) r.inners g.rests);
        short = λ b x y few some heads. (
            let before = h.short b x y few some heads in
            let long = left.same_length in
            let wide = right.same_length in
            short-then (IsMadeOf b n) b h.made g.made h.next g.next (plain e) before.0 (g.short b (omega (arith, long, x)) (omega (arith, wide, y)) few some before.1));
        first = λ ks behind l. (let on = h.first ks behind l in g.first on.ks behind on.first);
        second = λ js behind l. (let on = h.second js behind l in g.second on.js behind on.second);
        rows = λ ks js others more l r fits. (
            let on = h.rows ks js others more l r fits in
            let rest = row_calls both (joined_row p q on.ks_left (nodes_list on.js_left)) in
            calls-as (h.made ++ rest) _ (h.made ++ g.made) g.next (plain e) (sym on.calls) (calls-then h.made rest h.made g.made g.next (plain e) refl (g.rows on.ks_left on.js_left others more on.first on.second on.fits)));
      }

  pub rest-done : TurnJoined n p q both one two one' two' s t (Ok false) → RestJoined n p q both one two s t None
  rest-done h = record {
    made = h.made;
    next = h.next;
    run = h.run;
    rests = h.rests;
    short = λ b x y few some heads. (h.short b x y few some heads).0;
    first = λ ks behind l. record { undamaged = tt; comes = h.first ks behind l };
    second = λ js behind l. record { undamaged = tt; comes = h.second js behind l };
    rows = h.rows;
  }

  pub rest-fault : (f : JoinFault) → TurnJoined n p q both one two one' two' s t (Err f) → RestJoined n p q both one two s t (Some f)
  rest-fault f h = record {
    made = h.made;
    next = h.next;
    run = h.run;
    rests = tt;
    short = λ b x y few some heads. (h.short b x y few some heads).0;
    first = λ ks behind l. record { undamaged = h.first ks behind l; comes = tt };
    second = λ js behind l. record { undamaged = h.second js behind l; comes = tt };
    rows = h.rows;
  }

module _ (n : ℕ) (p q both : List (ℕ × ℕ)) (s t : State) (same : t.writer ≡ s.writer) where
  -- the first heads were read, and then what they lead to was written
  pub row-heads : (u : State) (heads : Heads) (e : Option JoinFault) → HeadsRead n s t (Ok heads) → RestJoined n p q both (one_of heads) (two_of heads) t u e → RowJoined n p q both s u e
  row-heads u heads e h g =
      let passes = h.passes in
      let left = passes.first in
      let right = passes.second in
      record {
        made = g.made;
        next = g.next;
        run = run-then [] g.made call_finish g.next s t u (plain e) (run-none call_finish s t None (λ d. absurd cc) same passes) g.run;
        rests = rests-behind s.writer t.writer u.writer (plain e) (ap (λ (w : PlainWriter). w.inners) same) g.rests;
        short = λ b x y few some. (
            let long = left.same_length in
            let wide = right.same_length in
            g.short b (omega (arith, long, x)) (omega (arith, wide, y)) few some (h.short b x y));
        first = λ ks behind coming. g.first ks behind (h.first ks behind coming);
        second = λ js behind coming. g.second js behind (h.second js behind coming);
        rows = λ ks js others more l r fits. g.rows ks js others more (h.first ks others l) (h.second js more r) fits;
      }

  pub row-stopped : (f : JoinFault) → HeadsRead n s t (Err f) → RowJoined n p q both s t (Some f)
  row-stopped f h = record {
    made = [];
    next = call_finish;
    run = run-none call_finish s t (plain (Some f)) (not-long (plain (Some f)) h.not_long) same h.passes;
    rests = tt;
    short = λ b x y few some. short-none (IsMadeOf b n) b call_finish (plain (Some f)) (not-long (plain (Some f)) h.not_long);
    first = λ ks behind coming. record { undamaged = h.first ks behind coming; comes = tt };
    second = λ js behind coming. record { undamaged = h.second js behind coming; comes = tt };
    rows = λ ks js others more l r fits. calls-none (row_calls both (joined_row p q ks (nodes_list js))) call_finish (of_any f) (never-long (of_any f) h.not_long);
  }

-- what is joined from these heads on is joined from the first ones on
pub record RowsOn (n : ℕ) (p q both : List (ℕ × ℕ)) (s t : State) (one two : Option PlainHead) : Type 0 where
  pub first : GoesOn s.first t.first
  pub second : GoesOn s.second t.second
  pub onward : s.first.at + s.second.at < t.first.at + t.second.at
  pub no_leaf : t.writer.leaf ≡ None
  pub rest : (u : State) (e : Option JoinFault) → RestJoined n p q both one two t u e → RowJoined n p q both s u e

pub rows-start : (n : ℕ) (p q both : List (ℕ × ℕ)) (s t : State) (heads : Heads) → t.writer ≡ s.writer → s.writer.leaf ≡ None → HeadsRead n s t (Ok heads) → RowsOn n p q both s t (one_of heads) (two_of heads)
rows-start n p q both s t heads same leaf h =
    let passes = h.passes in
    record {
      first = passes.first;
      second = passes.second;
      onward = h.onward;
      no_leaf = ap (λ (w : PlainWriter). w.leaf) same ∙ leaf;
      rest = λ u e g. row-heads n p q both s t same u heads e h g;
    }

pub rows-on : (n : ℕ) (p q both : List (ℕ × ℕ)) (s t u : State) (one two one' two' : Option PlainHead) → RowsOn n p q both s t one two → TurnJoined n p q both one two one' two' t u (Ok true) → RowsOn n p q both s u one' two'
rows-on n p q both s t u one two one' two' on h =
    let did = h.run in
    let passes = did.passes in
    let rests = h.rests in
    record {
      first = goes-then s.first t.first u.first on.first passes.first;
      second = goes-then s.second t.second u.second on.second passes.second;
      onward = (let a = on.onward in let b : t.first.at + t.second.at < u.first.at + u.second.at = h.onward refl in omega (arith, a, b));
      no_leaf = rests.no_leaf;
      rest = λ v e g. on.rest v e (rest-then n p q both one two one' two' t u v e h g);
    }
