-- What writing the alternatives of the second that are left goes along, and a leaf that both archives have.
use Rattle.std.proofs.Common.{◌≡◌, ◌≢◌, ℕ, ◌+◌, ◌≤◌, ◌<◌, Bool, true, false, not, ◌||◌, cond, List, [], ◌∷◌, ◌++◌, map, filter, length, take, drop, get_or, Option, Some, None, Result, Ok, Err, refl, sym, ap, subst, ◌∙◌, append_assoc, arith}
use Rattle.std.specs.Option.{option_map}
use Rattle.std.specs.List.{AllByRecursion}
use Rattle.std.specs.Ordering.{is_eq}
use Rattle.std.specs.Result.{result_map_both}
use Rattle.std.proofs.lemmas.List.{map-append, take-append-drop, take_all, take_more}
use Rattle.xa_outside.specs.Numbers.{IsMeter}
use Rattle.keyed_tree.specs.Data.{PlainKey}
use Rattle.keyed_tree.specs.Order.{key_cmp}
use Rattle.archive_tree.specs.Data.{Stamp, PlainAlt}
use Rattle.archive_tree.specs.Stands.{AllDiffer, bodies}
use Rattle.record_copy.specs.Faults as copy
use Rattle.record_copy.specs.Parts.{alternative_view}
use Rattle.record_copy.specs.Passes.{Rests}
use Rattle.record_copy.specs.Reads.{IsShortAlternative, Shows}
use Rattle.record_copy.specs.Runs.{IsPart, Sent}
use Rattle.record_copy.specs.Seen.{Coming}
use Rattle.record_copy.specs.Short.{AreShort, IfStored, IsRaisedOf, IsShortCall}
use Rattle.record_copy.specs.State as at_one
use Rattle.record_copy.specs.declared.fault.CopyFault.{CopyFault}
use Rattle.record_copy.specs.declared.fault.CopyFault.TheVariants.{Damage, TooLong, Folder, Memory}
use Rattle.record_copy.specs.declared.parts.Alternative.{Alternative}
use Rattle.record_copy.proofs.Alternating.{not-long, read-run, rests-behind, whole-part}
use Rattle.record_copy.proofs.Passing.{passes-none}
use Rattle.record_copy.proofs.Running as runs
use Rattle.record_copy.proofs.Running.{sent-as, sent-fault, sent-none, sent-then, short-none, short-part, short-then}
use Rattle.record_cursor.specs.Items.{PlainItem, leaf_end_item}
use Rattle.record_cursor.specs.Places.{among_nodes}
use Rattle.record_cursor.specs.View.{PlainCursor}
use Rattle.record_writer.specs.Calls.{after, after_all}
use Rattle.record_writer.specs.Data.{PlainWriter, WriterCall, call_alt, call_end_leaf, call_finish}
use Rattle.record_writer.specs.Walks.{alt_calls}
use Rattle.record_writer.proofs.WalkLaws.{alts-keep}
use Rattle.archive_join.specs.Faults.{of_side, fault_of, plain, SparesFirst, SparesSecond}
use Rattle.archive_join.specs.Held.{Holds, HoldsShort, is_among, left_over}
use Rattle.archive_join.specs.Joined.{alone, alone_alt, joined_alt, joined_alts, others}
use Rattle.archive_join.specs.Leaves.{alternatives_view, AlternativesRead, FirstPut, Follows, LeafJoined, OthersPut}
use Rattle.archive_join.specs.Runs.{AreCalls, Run}
use Rattle.archive_join.specs.Short.{IsMadeOf}
use Rattle.archive_join.specs.State.{State, with_first, with_second}
use Rattle.archive_join.specs.declared.fault.JoinFault.{JoinFault}
use Rattle.archive_join.specs.declared.fault.JoinFault.TheVariants as fault
use Rattle.archive_join.specs.declared.held.Held.{Held}
use Rattle.archive_join.proofs.Alternating.{calls-map, calls-stopped}
use Rattle.archive_join.proofs.Passing.{passes-stop, second-passes}
use Rattle.archive_join.proofs.Running.{any-side, calls-as, calls-fault, calls-part, calls-then, comes-still, first-run, made-second, plain-side, run-none, run-then, second-run, side-fault, spares-first, spares-own-first, spares-second}
use Rattle.record_cursor.specs.NodeItems.{alt_items}
use Rattle.nested_merge.specs.Merged.{has_alt}
use Rattle.record_copy.proofs.Closing.{closes-leaf}

-- ---- those that are left

-- a body that an alternative has is among the bodies
among-has : (b : PlainKey) (xs : List PlainAlt) → has_alt b xs ≡ is_among b (bodies xs)
among-has b [] = refl
among-has b (x ∷ xs) = ap (λ (z : Bool). is_eq (key_cmp x.body b) || z) (among-has b xs)

filter-as : {X : Type 0} (f g : X → Bool) (xs : List X) → ((x : X) → f x ≡ g x) → filter f xs ≡ filter g xs
filter-as f g [] same = refl
filter-as f g (x ∷ xs) same = λ i. cond (same x i) (x ∷ filter-as f g xs same i) (filter-as f g xs same i)

pub others-left : (xs ys : List PlainAlt) → others xs ys ≡ left_over (bodies xs) ys
others-left xs ys = filter-as (λ y. not (has_alt y.body xs)) (λ y. not (is_among y.body (bodies xs))) ys (λ y. ap not (among-has y.body xs))

-- ---- writing them

-- a cursor of which nothing is asked
abbrev pub nowhere : PlainCursor
nowhere = record { name = []; length = 0; standing = among_nodes 0; at = 0 }

-- the calls that write these as ones that the second alone has
abbrev pub left_calls : List (ℕ × ℕ) → List (ℕ × ℕ) → List Alternative → List WriterCall
left_calls p q hs = alt_calls (map (alone_alt q p) (alternatives_view hs))

module _ (p q : List (ℕ × ℕ)) where
  left-append : (hs js : List Alternative) → left_calls p q (hs ++ js) ≡ left_calls p q hs ++ left_calls p q js
  left-append hs js = ap (λ (zs : List PlainAlt). alt_calls (map (alone_alt q p) zs)) (map-append alternative_view hs js) ∙ calls-map (alone_alt q p) (alternatives_view hs) (alternatives_view js)

  -- the calls as far as one of them, which is called with this timestamp
  one-more : (k : ℕ) (hs : List Alternative) (h : Alternative) (z : Stamp) → k < length hs → h ≡ get_or hs k h → z ≡ alone q p (alternative_view h).stamp
      → left_calls p q (take (k + 1) hs) ≡ left_calls p q (take k hs) ++ call_alt z (alternative_view h).body ∷ []
  one-more k hs h z low at is =
      ap (left_calls p q) (take_more hs k h low ∙ ap (λ (j : Alternative). take k hs ++ j ∷ []) (sym at))
      ∙ left-append (take k hs) (h ∷ [])
      ∙ ap (λ (d : Stamp). left_calls p q (take k hs) ++ call_alt d (alternative_view h).body ∷ []) (sym is)

  rest-behind : (k : ℕ) (hs : List Alternative) → left_calls p q hs ++ call_end_leaf ∷ [] ≡ left_calls p q (take k hs) ++ (left_calls p q (drop k hs) ++ call_end_leaf ∷ [])
  rest-behind k hs =
      ap (λ (js : List Alternative). left_calls p q js ++ call_end_leaf ∷ []) (sym (take-append-drop k hs))
      ∙ ap (λ (cs : List WriterCall). cs ++ call_end_leaf ∷ []) (left-append (take k hs) (drop k hs))
      ∙ append_assoc (left_calls p q (take k hs)) (left_calls p q (drop k hs)) (call_end_leaf ∷ [])

  -- one was written
  pub left-next : (k : ℕ) (hs : List Alternative) (h : Alternative) (z : Stamp) (s t u : at_one.State) → k < length hs → h ≡ get_or hs k h → z ≡ alone q p (alternative_view h).stamp
      → Sent (left_calls p q (take k hs)) s t None → Sent (call_alt z (alternative_view h).body ∷ []) t u None → Sent (left_calls p q (take (k + 1) hs)) s u None
  left-next k hs h z s t u low at is done sent =
      sent-as s u None _ _ (one-more k hs h z low at is) (sent-then s t u None (left_calls p q (take k hs)) (call_alt z (alternative_view h).body ∷ []) done sent)

  -- one was not
  pub left-fault : (k : ℕ) (hs : List Alternative) (h : Alternative) (z : Stamp) (s t u : at_one.State) (f : CopyFault) → k < length hs → h ≡ get_or hs k h → z ≡ alone q p (alternative_view h).stamp
      → Sent (left_calls p q (take k hs)) s t None → Sent (call_alt z (alternative_view h).body ∷ []) t u (Some f) → Sent (left_calls p q hs ++ call_end_leaf ∷ []) s u (Some f)
  left-fault k hs h z s t u f low at is done sent =
      let rest = left_calls p q (drop (k + 1) hs) ++ call_end_leaf ∷ [] in
      let front = left_calls p q (take k hs) ++ call_alt z (alternative_view h).body ∷ [] in
      sent-as s u (Some f) _ _ (rest-behind (k + 1) hs ∙ ap (λ (cs : List WriterCall). cs ++ rest) (one-more k hs h z low at is))
      (sent-fault s u f front rest (sent-then s t u (Some f) (left_calls p q (take k hs)) (call_alt z (alternative_view h).body ∷ []) done sent))

  -- there is no memory for the timestamp of the next
  pub left-memory : (k : ℕ) (hs : List Alternative) (s t : at_one.State) → IsMeter t.numbers → s.cursor.at ≤ s.cursor.length → Sent (left_calls p q (take k hs)) s t None → Sent (left_calls p q hs ++ call_end_leaf ∷ []) s t (Some Memory)
  left-memory k hs s t meter within done =
      let rest = left_calls p q (drop k hs) ++ call_end_leaf ∷ [] in
      sent-as s t (Some Memory) _ _ (rest-behind k hs)
      (sent-then s t t (Some Memory) (left_calls p q (take k hs)) rest done (sent-none t rest meter (subst (λ (c : PlainCursor). c.at ≤ c.length) (sym done.same_cursor) within)))

  -- all were, and then the end of the leaf
  pub left-end : (k : ℕ) (hs : List Alternative) (s t u : at_one.State) (e : Option CopyFault) → length hs ≤ k → Sent (left_calls p q (take k hs)) s t None → Sent (call_end_leaf ∷ []) t u e → Sent (left_calls p q hs ++ call_end_leaf ∷ []) s u e
  left-end k hs s t u e high done sent =
      sent-then s t u e (left_calls p q hs) (call_end_leaf ∷ []) (subst (λ (js : List Alternative). Sent (left_calls p q js) s t None) (take_all k hs high) done) sent

  -- the leaf stands begun as before
  pub leaf-stands : (hs : List Alternative) (s t : at_one.State) → Sent (left_calls p q hs) s t None → s.writer.leaf ≢ None → t.writer.leaf ≢ None
  leaf-stands hs s t sent leaf none =
      let run = sent.run in
      let is : t.writer ≡ after_all s.writer (left_calls p q hs) = run.writer ∙ ap (after_all s.writer) sent.part in
      leaf (sym (alts-keep s.writer (map (alone_alt q p) (alternatives_view hs))).0 ∙ ap (λ (w : PlainWriter). w.leaf) (sym is) ∙ none)

-- ---- few bytes

alone-stored : (S : List (ℕ × ℕ) → Type 0) (p q : List (ℕ × ℕ)) (s : Stamp) → S p → IfStored S s → IfStored S (alone p q s)
alone-stored S p [] s h g = g
alone-stored S p (r ∷ rs) None h g = h
alone-stored S p (r ∷ rs) (Some t) h g = g

stored-made : (b n : ℕ) (s : Stamp) → IfStored (IsRaisedOf b n) s → IfStored (IsMadeOf b n) s
stored-made b n None h = tt
stored-made b n (Some t) h = made-second b n t h

left-short : (b n : ℕ) (p q : List (ℕ × ℕ)) (ys : List PlainAlt) → IsRaisedOf b n q → AllByRecursion (IsShortAlternative (IsRaisedOf b n) b) ys → AllByRecursion (IsShortCall (IsMadeOf b n) b) (alt_calls (map (alone_alt q p) ys) ++ call_end_leaf ∷ [])
left-short b n p q [] two h = (tt, tt)
left-short b n p q (y ∷ ys) two h =
    let one = h.0 in
    ((stored-made b n (alone q p y.stamp) (alone-stored (IsRaisedOf b n) q p y.stamp two one.stamp), one.body), left-short b n p q ys two h.1)

-- ---- the end of the leaf

leaf-rests : (v w : PlainWriter) (xs : List PlainAlt) (made : List WriterCall) (e : Option CopyFault) → copy.Unless e (w ≡ after_all v made) → copy.Unless e (made ≡ alt_calls xs ++ call_end_leaf ∷ []) → copy.Unless e (Rests v w)
leaf-rests v w xs made None is same = closes-leaf v w xs (is ∙ ap (after_all v) same)
leaf-rests v w xs made (Some f) is same = tt

part-undamaged : (cs made : List WriterCall) (next : WriterCall) (e : Option CopyFault) → IsPart cs made next e → e ≢ Some Damage
part-undamaged cs made next None h = λ d. absurd cc
part-undamaged cs made next (Some Damage) h = absurd h
part-undamaged cs made next (Some TooLong) h = λ d. absurd cc
part-undamaged cs made next (Some Folder) h = λ d. absurd cc
part-undamaged cs made next (Some Memory) h = λ d. absurd cc

-- those that are left of the second's are these
pub record AreLeft (held : Held) (hs : List Alternative) : Type 0 where
  pub others : (ys : List PlainAlt) (taken : List PlainKey) → Holds ys taken held → AllDiffer (bodies ys) → alternatives_view hs ≡ left_over taken ys
  pub short : (b n : ℕ) → HoldsShort b n held → AllByRecursion (IsShortAlternative (IsRaisedOf b n) b) (alternatives_view hs)

pub others-put : (p q : List (ℕ × ℕ)) (held : Held) (hs : List Alternative) (s t : at_one.State) (e : Option CopyFault) → AreLeft held hs → Sent (left_calls p q hs ++ call_end_leaf ∷ []) s t e → OthersPut p q held s t e
others-put p q held hs s t e left sent =
    let cs = left_calls p q hs ++ call_end_leaf ∷ [] in
    let run = sent.run in
    record {
      made = sent.made;
      next = sent.next;
      run = run;
      same_cursor = sent.same_cursor;
      undamaged = part-undamaged cs sent.made sent.next e sent.part;
      rests = leaf-rests s.writer t.writer (map (alone_alt q p) (alternatives_view hs)) sent.made e run.writer (whole-part cs sent.made sent.next e sent.part);
      short = λ b n two few. short-part (IsMadeOf b n) b cs sent.made sent.next e (left-short b n p q (alternatives_view hs) two (left.short b n few)) sent.part;
      others = λ ys taken differ holds. calls-as cs (alt_calls (map (alone_alt q p) (left_over taken ys)) ++ call_end_leaf ∷ []) sent.made sent.next e
          (ap (λ (zs : List PlainAlt). alt_calls (map (alone_alt q p) zs) ++ call_end_leaf ∷ []) (left.others ys taken holds differ)) (calls-part cs sent.made sent.next e sent.part);
    }

-- there is no memory to look for them
pub others-memory : (p q : List (ℕ × ℕ)) (held : Held) (s : at_one.State) → IsMeter s.numbers → s.cursor.at ≤ s.cursor.length → OthersPut p q held s s (Some Memory)
others-memory p q held s meter within =
    record {
      made = [];
      next = call_finish;
      run = runs.run-none call_finish s s (Some Memory) (λ d. absurd cc) refl (passes-none s (Some Memory) meter within (λ d. absurd cc));
      same_cursor = refl;
      undamaged = λ d. absurd cc;
      rests = tt;
      short = λ b n two few. short-none (IsMadeOf b n) b call_finish (Some Memory) (λ d. absurd cc);
      others = λ ys taken differ holds. tt;
    }

-- ---- the leaf

-- as it is to be, with the fault as one of any of the archives
record Done (n : ℕ) (p q : List (ℕ × ℕ)) (s t : State) (e : Option CopyFault) (ended : Option JoinFault) : Type 0 where
  pub made : List WriterCall
  pub next : WriterCall
  pub run : Run made next s t e
  pub rests : copy.Unless e (Rests s.writer t.writer)
  pub short : (b : ℕ) → s.first.length + 12 ≤ b → s.second.length + 12 ≤ b → IsRaisedOf b 0 p → IsRaisedOf b n q → AreShort (IsMadeOf b n) b made next e
  pub first : (xs : List PlainAlt) (behind : List PlainItem) → Coming 0 s.files s.first (alt_items xs ++ leaf_end_item ∷ behind) → SparesFirst ended × copy.Unless e (Coming 0 t.files t.first behind)
  pub second : (ys : List PlainAlt) (behind : List PlainItem) → Coming n s.files s.second (alt_items ys ++ leaf_end_item ∷ behind) → SparesSecond ended × copy.Unless e (Coming n t.files t.second behind)
  pub both : (xs ys : List PlainAlt) (others more : List PlainItem) → Coming 0 s.files s.first (alt_items xs ++ leaf_end_item ∷ others) → Coming n s.files s.second (alt_items ys ++ leaf_end_item ∷ more) → AllDiffer (bodies ys)
      → AreCalls (alt_calls (joined_alts p q xs ys) ++ call_end_leaf ∷ []) made next e

done-leaf : (n : ℕ) (p q : List (ℕ × ℕ)) (s t : State) (ended : Option JoinFault) → Done n p q s t (plain ended) ended → LeafJoined n p q s t ended
done-leaf n p q s t ended h = record {
  made = h.made;
  next = h.next;
  run = h.run;
  rests = h.rests;
  short = h.short;
  first = λ xs behind coming. (let keeps = h.first xs behind coming in record { undamaged = keeps.0; comes = keeps.1 });
  second = λ ys behind coming. (let keeps = h.second ys behind coming in record { undamaged = keeps.0; comes = keeps.1 });
  both = h.both;
}

done-as : (n : ℕ) (p q : List (ℕ × ℕ)) (s t : State) (e : Option CopyFault) (ended : Option JoinFault) → plain ended ≡ e → Done n p q s t e ended → LeafJoined n p q s t ended
done-as n p q s t e ended is h = done-leaf n p q s t ended (subst (λ (z : Option CopyFault). Done n p q s t z ended) (sym is) h)

spares-written : (e : Option CopyFault) → e ≢ Some Damage → SparesFirst (option_map (of_side false) e)
spares-written None h = tt
spares-written (Some f) h = spares-own-first f (λ d. h (ap Some d))

follows-undamaged : (behind : List PlainItem) (t : at_one.State) (f : CopyFault) → Follows behind t (Some f) → f ≢ Damage
follows-undamaged behind t Damage h = λ d. h
follows-undamaged behind t TooLong h = λ d. absurd cc
follows-undamaged behind t Folder h = λ d. absurd cc
follows-undamaged behind t Memory h = λ d. absurd cc

-- the calls are those of the first, and then those of the second that are left
joined-calls : (p q : List (ℕ × ℕ)) (xs ys : List PlainAlt) → alt_calls (map (joined_alt p q ys) xs) ++ (alt_calls (map (alone_alt q p) (left_over (bodies xs) ys)) ++ call_end_leaf ∷ []) ≡ alt_calls (joined_alts p q xs ys) ++ call_end_leaf ∷ []
joined-calls p q xs ys =
    let front = map (joined_alt p q ys) xs in
    let left = left_over (bodies xs) ys in
    sym (append_assoc (alt_calls front) (alt_calls (map (alone_alt q p) left)) (call_end_leaf ∷ []))
    ∙ ap (λ (cs : List WriterCall). cs ++ call_end_leaf ∷ []) (sym (map-append _ front (map (alone_alt q p) left)))
    ∙ ap (λ (zs : List PlainAlt). alt_calls (front ++ map (alone_alt q p) zs) ++ call_end_leaf ∷ []) (sym (others-left xs ys))

-- what was read of the second is held
pub record AreHeld (hs : List Alternative) (held : Held) : Type 0 where
  pub holds : Holds (alternatives_view hs) [] held
  pub short : (b n : ℕ) → AllByRecursion (IsShortAlternative (IsRaisedOf b n) b) (alternatives_view hs) → HoldsShort b n held

spares-unread : (n : ℕ) (ys : List PlainAlt) (behind : List PlainItem) (t : at_one.State) (f : CopyFault) → Shows n alternatives_view ys behind t (Err f) → SparesSecond (Some (of_side true f))
spares-unread n ys behind t Damage h = h
spares-unread n ys behind t TooLong h = tt
spares-unread n ys behind t Folder h = tt
spares-unread n ys behind t Memory h = tt

err-side : {T : Type 0} (second : Bool) (f : CopyFault) (z : Result T JoinFault) (e : JoinFault) → z ≡ Err (of_side second f) → z ≡ Err e → of_side second f ≡ e
err-side {T = T} second f z e is err = faults (sym is ∙ err)
  where
    faults : ◌≡◌ {A = Result T JoinFault} (Err (of_side second f)) (Err e) → of_side second f ≡ e
    faults d = cc

not-both : {T : Type 0} (x : T) (z : Result T JoinFault) (e : JoinFault) → z ≡ Ok x → ¬ (z ≡ Err e)
not-both {T = T} x z e is err = differ (sym is ∙ err)
  where
    differ : ¬ (◌≡◌ {A = Result T JoinFault} (Ok x) (Err e))
    differ d = absurd cc

-- what a call gave that was handed on without a fault
pub side-gave : {T : Type 0} (second : Bool) (r : Result T CopyFault) (z : Result T JoinFault) (x : T) → z ≡ result_map_both (λ y. y) (of_side second) r → z ≡ Ok x → r ≡ Ok x
side-gave {T = T} second (Ok y) z x is ok = given (sym is ∙ ok)
  where
    given : ◌≡◌ {A = Result T JoinFault} (Ok y) (Ok x) → ◌≡◌ {A = Result T CopyFault} (Ok y) (Ok x)
    given d = (let same : y ≡ x = cc in ap Ok same)
side-gave {T = T} second (Err f) z x is ok = absurd (differ (sym ok ∙ is))
  where
    differ : ¬ (◌≡◌ {A = Result T JoinFault} (Ok x) (Err (of_side second f)))
    differ d = absurd cc

-- the second was read as far as t, and nothing else was done
module _ (n : ℕ) (p q : List (ℕ × ℕ)) (s t : State) (left : s.first.at ≤ s.first.length) (same : t.first ≡ s.first) (still : t.writer ≡ s.writer) where
  -- its alternatives were not read
  leaf-unread : (f : CopyFault) → AlternativesRead n (with_second s) (with_second t) (Err f) → LeafJoined n p q s t (Some (of_side true f))
  leaf-unread f h = done-as n p q s t (Some f) (Some (of_side true f)) (ap Some (any-side true f)) (record {
    made = [];
    next = call_finish;
    run = second-run [] call_finish s t (Some f) left same (read-run (with_second s) (with_second t) (Some f) h.not_long still h.passes);
    rests = tt;
    short = λ b file more one two. short-none (IsMadeOf b n) b call_finish (Some f) (not-long (Some f) h.not_long);
    first = λ xs behind coming. (spares-first (Some f), tt);
    second = λ ys behind coming. (spares-unread n ys behind (with_second t) f (h.all ys behind coming), tt);
    both = λ xs ys others more one two differ. calls-stopped (alt_calls (joined_alts p q xs ys) ++ call_end_leaf ∷ []) [] call_finish f h.not_long;
  })

  pub leaf-unread-by : {T : Type 0} (view : T → List Alternative) (r : Result T CopyFault) (z : Result T JoinFault) (e : JoinFault) → z ≡ result_map_both (λ x. x) (of_side true) r → z ≡ Err e
      → AlternativesRead n (with_second s) (with_second t) (result_map_both view (λ d. d) r) → LeafJoined n p q s t (Some e)
  leaf-unread-by view (Ok x) z e is err h = absurd (not-both x z e is err)
  leaf-unread-by view (Err f) z e is err h = subst (λ (d : JoinFault). LeafJoined n p q s t (Some d)) (err-side true f z e is err) (leaf-unread f h)

  module _ (hs : List Alternative) (read : AlternativesRead n (with_second s) (with_second t) (Ok hs)) where
    -- they were, but not held
    pub leaf-memory : IsMeter t.numbers → LeafJoined n p q s t (Some fault.Memory)
    leaf-memory meter = done-leaf n p q s t (Some fault.Memory) (record {
      made = [];
      next = call_finish;
      run = run-none call_finish s t (Some Memory) (λ e. absurd cc) still (passes-stop [] s t Memory meter (λ e. absurd cc) (second-passes [] s t None left same read.passes));
      rests = tt;
      short = λ b file more one two. short-none (IsMadeOf b n) b call_finish (Some Memory) (λ e. absurd cc);
      first = λ xs behind coming. (tt, tt);
      second = λ ys behind coming. (tt, tt);
      both = λ xs ys others more one two differ. tt;
    })

    read-part : Run [] call_finish s t None
    read-part = second-run [] call_finish s t None left same (read-run (with_second s) (with_second t) None tt still read.passes)

    module _ (old now : Held) (held : AreHeld hs old) (u : State) (e : Option CopyFault) (there : u.second ≡ t.second) (put : FirstPut p q old now (with_first t) (with_first u) e) where
      put-part : Run put.made put.next s u e
      put-part = (let passes = read.passes in run-then [] put.made call_finish put.next s t u e read-part (first-run put.made put.next t u e passes.within there put.run))

      put-short : (b : ℕ) → s.first.length + 12 ≤ b → s.second.length + 12 ≤ b → IsRaisedOf b 0 p → IsRaisedOf b n q → AreShort (IsMadeOf b n) b put.made put.next e × copy.Unless e (HoldsShort b n now)
      put-short b file more one two = put.short b n (let long = ap (λ (c : PlainCursor). c.length) same in omega (arith, long, file)) one two (held.short b n (read.short b more))

      -- those of the first come still
      first-comes : (xs : List PlainItem) → Coming 0 s.files s.first xs → Coming 0 t.files t.first xs
      first-comes xs coming = (let passes = read.passes in comes-still 0 s.files t.files s.first t.first xs passes.same_files same coming)

      put-both : (xs ys : List PlainAlt) (others more : List PlainItem) → Coming 0 s.files s.first (alt_items xs ++ leaf_end_item ∷ others) → Coming n s.files s.second (alt_items ys ++ leaf_end_item ∷ more) → AllDiffer (bodies ys)
          → AreCalls (alt_calls (map (joined_alt p q ys) xs)) put.made put.next e × copy.Unless e (Holds ys (bodies xs) now)
      put-both xs ys others more one two differ =
          put.both xs ys others (first-comes (alt_items xs ++ leaf_end_item ∷ others) one) differ (subst (λ (zs : List PlainAlt). Holds zs [] old) (read.all ys more two).0 held.holds)

    module _ (old now : Held) (held : AreHeld hs old) (u : State) (there : u.second ≡ t.second) where
      -- those of the first were not all written
      leaf-stopped : (f : CopyFault) → FirstPut p q old now (with_first t) (with_first u) (Some f) → LeafJoined n p q s u (Some (of_side false f))
      leaf-stopped f put = done-as n p q s u (Some f) (Some (of_side false f)) (ap Some (any-side false f)) (record {
        made = put.made;
        next = put.next;
        run = put-part old now held u (Some f) there put;
        rests = tt;
        short = λ b file more one two. (put-short old now held u (Some f) there put b file more one two).0;
        first = λ xs behind coming. (
            let items = alt_items xs ++ leaf_end_item ∷ behind in
            (spares-own-first f (follows-undamaged behind (with_first u) f (put.first xs behind (first-comes old now held u (Some f) there put items coming))), tt));
        second = λ ys behind coming. (spares-second (Some f), tt);
        both = λ xs ys others more one two differ. (
            let left = alt_calls (map (alone_alt q p) (left_over (bodies xs) ys)) ++ call_end_leaf ∷ [] in
            calls-as (alt_calls (map (joined_alt p q ys) xs) ++ left) (alt_calls (joined_alts p q xs ys) ++ call_end_leaf ∷ []) put.made put.next (Some f) (joined-calls p q xs ys)
            (calls-fault (alt_calls (map (joined_alt p q ys) xs)) left put.made put.next f (put-both old now held u (Some f) there put xs ys others more one two differ).0));
      })

      pub leaf-stopped-by : {T : Type 0} (r : Result T CopyFault) (z : Result T JoinFault) (e : JoinFault) → z ≡ result_map_both (λ x. x) (of_side false) r → z ≡ Err e
          → FirstPut p q old now (with_first t) (with_first u) (copy.fault_of r) → LeafJoined n p q s u (Some e)
      leaf-stopped-by (Ok x) z e is err put = absurd (not-both x z e is err)
      leaf-stopped-by (Err f) z e is err put = subst (λ (d : JoinFault). LeafJoined n p q s u (Some d)) (err-side false f z e is err) (leaf-stopped f put)

      module _ (put : FirstPut p q old now (with_first t) (with_first u) None) where
        -- and those of the second that are left
        leaf-put : (v : State) (e : Option CopyFault) → v.second ≡ u.second → OthersPut p q now (with_first u) (with_first v) e → LeafJoined n p q s v (option_map (of_side false) e)
        leaf-put v e still_there rest =
            let did = put.run in
            let put_passes = did.passes in
            let rest_run = rest.run in
            let rest_passes = rest_run.passes in
            let read_passes = read.passes in
            let stays = put.stays in
            done-as n p q s v e (option_map (of_side false) e) (plain-side false e) (record {
              made = put.made ++ rest.made;
              next = rest.next;
              run = run-then put.made rest.made put.next rest.next s u v e (put-part old now held u None there put)
                  (first-run rest.made rest.next u v e (subst (λ (c : PlainCursor). c.at ≤ c.length) (sym there) read_passes.within) still_there rest.run);
              rests = rests-behind s.writer u.writer v.writer e (stays.inners ∙ ap (λ (w : PlainWriter). w.inners) still) rest.rests;
              short = λ b file more one two. (
                  let before = put-short old now held u None there put b file more one two in
                  short-then (IsMadeOf b n) b put.made rest.made put.next rest.next e before.0 (rest.short b n two before.1));
              first = λ xs behind coming. (
                  let items = alt_items xs ++ leaf_end_item ∷ behind in
                  (spares-written e rest.undamaged, unless e (comes-still 0 u.files v.files u.first v.first behind rest_passes.same_files rest.same_cursor (put.first xs behind (first-comes old now held u None there put items coming)))));
              second = λ ys behind coming. (spares-second e, unless e (comes-still n t.files v.files t.second v.second behind (rest_passes.same_files ∙ put_passes.same_files) (still_there ∙ there) (read.all ys behind coming).1));
              both = λ xs ys others more one two differ. (
                  let before = put-both old now held u None there put xs ys others more one two differ in
                  let left = alt_calls (map (alone_alt q p) (left_over (bodies xs) ys)) ++ call_end_leaf ∷ [] in
                  calls-as (alt_calls (map (joined_alt p q ys) xs) ++ left) (alt_calls (joined_alts p q xs ys) ++ call_end_leaf ∷ []) (put.made ++ rest.made) rest.next e (joined-calls p q xs ys)
                  (calls-then (alt_calls (map (joined_alt p q ys) xs)) left put.made rest.made rest.next e before.0 (rest.others ys (bodies xs) differ before.1)));
            })
          where
            unless : {P : Type 0} (e : Option CopyFault) → P → copy.Unless e P
            unless None h = h
            unless (Some f) h = tt

        pub leaf-put-by : {T : Type 0} (r : Result T CopyFault) (z : Result T JoinFault) (v : State) → z ≡ result_map_both (λ x. x) (of_side false) r → v.second ≡ u.second → OthersPut p q now (with_first u) (with_first v) (copy.fault_of r) → LeafJoined n p q s v (fault_of z)
        leaf-put-by r z v is still_there rest =
            subst (λ (d : Option JoinFault). LeafJoined n p q s v d) (sym (side-fault false r z is)) (leaf-put v (copy.fault_of r) still_there rest)
