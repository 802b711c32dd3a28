-- What reading the alternatives of a leaf goes along, and writing those of the first.
use Rattle.std.proofs.Common.{◌≡◌, ◌≢◌, ℕ, ◌+◌, ◌-◌, ◌≤◌, ◌<◌, List, [], ◌∷◌, ◌++◌, map, Option, Some, None, Ok, Err, refl, sym, ap, subst, ◌∙◌, append_assoc, arith}
use Rattle.std.specs.Option.{option_map}
use Rattle.std.specs.List.{AllByRecursion}
use Rattle.std.proofs.lemmas.List.{append-nil, map-append}
use Rattle.xa_outside.specs.Numbers.{IsMeter}
use Rattle.xa_fields.proofs.Fields.{some_is}
use Rattle.archive_tree.specs.Data.{Stamp, PlainAlt}
use Rattle.archive_tree.specs.Stands.{AllDiffer, bodies}
use Rattle.keyed_tree.specs.Data.{PlainKey}
use Rattle.record_copy.specs.Faults.{IfLong}
use Rattle.record_copy.specs.Parts.{alternative_view}
use Rattle.record_copy.specs.Passes.{Passes}
use Rattle.record_copy.specs.Reads.{AlternativeRead, IsShortAlternative, Shows}
use Rattle.record_copy.specs.Runs.{Run, IsPart, Sent}
use Rattle.record_copy.specs.Seen.{Coming}
use Rattle.record_copy.specs.Short.{AreShort, IfStored, IsRaisedOf, IsShortCall}
use Rattle.record_copy.specs.State.{State}
use Rattle.record_copy.specs.declared.fault.CopyFault.{CopyFault}
use Rattle.record_copy.specs.declared.fault.CopyFault.TheVariants.{Damage, TooLong, Folder, Memory}
use Rattle.record_copy.specs.declared.parts.Alternative.{Alternative}
use Rattle.record_copy.proofs.Alternating.{put-inners, put-leaf, read-run, read-short}
use Rattle.record_copy.proofs.Passing.{coming-same, passes-none, passes-stop, passes-then}
use Rattle.record_copy.proofs.Running.{run-none, run-then, short-none, short-part, short-then}
use Rattle.record_cursor.specs.Items.{PlainItem, leaf_end_item}
use Rattle.record_writer.specs.Data.{PlainWriter, WriterCall, call_alt, call_finish}
use Rattle.record_writer.specs.Walks.{alt_calls}
use Rattle.archive_join.specs.Held.{Holds, HoldsShort}
use Rattle.archive_join.specs.Joined.{alt_of, joined_alt, stamp_with}
use Rattle.archive_join.specs.Leaves.{alternatives_view, AlternativesRead, FirstPut, Follows, StaysOpen}
use Rattle.archive_join.specs.Runs.{AreCalls}
use Rattle.archive_join.specs.Short.{IsMadeOf}
use Rattle.archive_join.specs.declared.held.Held.{Held}
use Rattle.archive_join.proofs.Running.{calls-as, calls-fault, calls-part, calls-then}
use Rattle.record_cursor.specs.NodeItems.{alt_items}
use Rattle.record_format.proofs.Pieces.{all-append}

-- ---- faults

-- it failed, but for no damage
shown-fault : {T U : Type 0} (n : ℕ) (view : T → U) (u : U) (next : List PlainItem) (t : State) (f : CopyFault) → Shows n view u next t (Err f) → f ≢ Damage
shown-fault n view u next t Damage h = λ e. h
shown-fault n view u next t TooLong h = λ e. absurd cc
shown-fault n view u next t Folder h = λ e. absurd cc
shown-fault n view u next t Memory h = λ e. absurd cc

shows-fault : {T U : Type 0} (n : ℕ) (view : T → U) (u : U) (next : List PlainItem) (t : State) (f : CopyFault) → f ≢ Damage → Shows n view u next t (Err f)
shows-fault n view u next t Damage h = h refl
shows-fault n view u next t TooLong h = tt
shows-fault n view u next t Folder h = tt
shows-fault n view u next t Memory h = tt

follows-fault : (behind : List PlainItem) (t : State) (f : CopyFault) → f ≢ Damage → Follows behind t (Some f)
follows-fault behind t Damage h = h refl
follows-fault behind t TooLong h = tt
follows-fault behind t Folder h = tt
follows-fault behind t Memory h = tt

part-fault : (cs made : List WriterCall) (next : WriterCall) (f : CopyFault) → IsPart cs made next (Some f) → f ≢ Damage
part-fault cs made next Damage h = λ e. h
part-fault cs made next TooLong h = λ e. absurd cc
part-fault cs made next Folder h = λ e. absurd cc
part-fault cs made next Memory h = λ e. absurd cc

-- a fault that is no want of room
pub calls-stopped : (cs made : List WriterCall) (next : WriterCall) (f : CopyFault) → IfLong (Some f) ⊥ → AreCalls cs made next (Some f)
calls-stopped cs made next TooLong h = absurd h
calls-stopped cs made next Damage h = tt
calls-stopped cs made next Folder h = tt
calls-stopped cs made next Memory h = tt

-- ---- what one more reading tells of the alternatives that come

module _ (n : ℕ) (s t : State) where
  -- one was read: it is the first of them
  pub first-came : (a : Alternative) → AlternativeRead n s t (Ok (Some a)) → (xs : List PlainAlt) (behind : List PlainItem) → Coming n s.files s.cursor (alt_items xs ++ leaf_end_item ∷ behind)
      → (more : List PlainAlt) × (xs ≡ alternative_view a ∷ more) × Coming n t.files t.cursor (alt_items more ++ leaf_end_item ∷ behind)
  first-came a h [] behind coming = (let e : ◌≡◌ {A = Option PlainAlt} (Some (alternative_view a)) None = (h.ended behind coming).0 in absurd cc)
  first-came a h (x ∷ xs) behind coming =
      let one = h.one x (alt_items xs ++ leaf_end_item ∷ behind) coming in
      (xs, ap (λ (z : PlainAlt). z ∷ xs) (sym (some_is (alternative_view a) x one.0)), one.1)

  -- the end was read: none is left
  pub none-came : AlternativeRead n s t (Ok None) → (xs : List PlainAlt) (behind : List PlainItem) → Coming n s.files s.cursor (alt_items xs ++ leaf_end_item ∷ behind) → (xs ≡ []) × Coming n t.files t.cursor behind
  none-came h [] behind coming = (refl, (h.ended behind coming).1)
  none-came h (x ∷ xs) behind coming = (let e : ◌≡◌ {A = Option PlainAlt} None (Some x) = (h.one x (alt_items xs ++ leaf_end_item ∷ behind) coming).0 in absurd cc)

  -- none was read: there is no damage
  pub none-damaged : (f : CopyFault) → AlternativeRead n s t (Err f) → (xs : List PlainAlt) (behind : List PlainItem) → Coming n s.files s.cursor (alt_items xs ++ leaf_end_item ∷ behind) → f ≢ Damage
  none-damaged f h [] behind coming = shown-fault n (option_map alternative_view) None behind t f (h.ended behind coming)
  none-damaged f h (x ∷ xs) behind coming = (let next = alt_items xs ++ leaf_end_item ∷ behind in shown-fault n (option_map alternative_view) (Some x) next t f (h.one x next coming))

-- the cursor comes nearer to the end of its file
pub nearer : (n : ℕ) (s t : State) (o : Option Alternative) → s.cursor.at ≤ s.cursor.length → AlternativeRead n s t (Ok o) → t.cursor.length - t.cursor.at < s.cursor.length - s.cursor.at
nearer n s t o within h = (let passes = h.passes in let on = h.onward in let same = passes.same_length in let behind = passes.within in omega (arith, on, same, behind))

-- ---- reading them all

-- of the alternatives that came, some come yet
pub record ReadYet (n : ℕ) (all : List PlainAlt) (ys : List PlainAlt) (behind : List PlainItem) (t : State) : Type 0 where
  pub yet : List PlainAlt
  pub comes : Coming n t.files t.cursor (alt_items yet ++ leaf_end_item ∷ behind)
  pub split : all ++ yet ≡ ys

-- so many were read
pub record ReadOn (n : ℕ) (r s : State) (all : List Alternative) : Type 0 where
  pub passes : Passes [] r s None
  pub short : (b : ℕ) → r.cursor.length + 12 ≤ b → AllByRecursion (IsShortAlternative (IsRaisedOf b n) b) (alternatives_view all)
  pub come : (ys : List PlainAlt) (behind : List PlainItem) → Coming n r.files r.cursor (alt_items ys ++ leaf_end_item ∷ behind) → ReadYet n (alternatives_view all) ys behind s

pub read-start : (n : ℕ) (s : State) (none : List Alternative) → none ≡ [] → IsMeter s.numbers → s.cursor.at ≤ s.cursor.length → ReadOn n s s none
read-start n s none is meter within = subst (ReadOn n s s) (sym is) (record {
  passes = passes-none s None meter within (λ e. absurd cc);
  short = λ b file. tt;
  come = λ ys behind coming. record { yet = ys; comes = coming; split = refl };
})

module _ (n : ℕ) (r s t : State) (all : List Alternative) (on : ReadOn n r s all) where
  -- one more
  pub read-more : (a : Alternative) (more : List Alternative) → more ≡ all ++ a ∷ [] → AlternativeRead n s t (Ok (Some a)) → ReadOn n r t more
  read-more a more is h =
      let views : alternatives_view (all ++ a ∷ []) ≡ alternatives_view all ++ alternative_view a ∷ [] = map-append alternative_view all (a ∷ []) in
      subst (ReadOn n r t) (sym is) (record {
        passes = passes-then [] [] r s t None on.passes h.passes;
        short = λ b file. subst (AllByRecursion (IsShortAlternative (IsRaisedOf b n) b)) (sym views)
            (all-append (IsShortAlternative (IsRaisedOf b n) b) (alternatives_view all) (alternative_view a ∷ []) (on.short b file) (h.short b (let before = on.passes in let same = before.same_length in omega (arith, same, file)), tt));
        come = λ ys behind coming. (
            let yet = on.come ys behind coming in
            let first = first-came n s t a h yet.yet behind yet.comes in
            record {
              yet = first.0;
              comes = first.2;
              split = ap (λ (z : List PlainAlt). z ++ first.0) views
                  ∙ append_assoc (alternatives_view all) (alternative_view a ∷ []) first.0
                  ∙ ap (λ (z : List PlainAlt). alternatives_view all ++ z) (sym first.1)
                  ∙ yet.split;
            });
      })

  -- that was all
  pub read-ended : AlternativeRead n s t (Ok None) → AlternativesRead n r t (Ok all)
  read-ended h = record {
    passes = passes-then [] [] r s t None on.passes h.passes;
    not_long = tt;
    short = on.short;
    all = λ ys behind coming. (
        let yet = on.come ys behind coming in
        let none = none-came n s t h yet.yet behind yet.comes in
        (sym (append-nil (alternatives_view all)) ∙ ap (λ (z : List PlainAlt). alternatives_view all ++ z) (sym none.0) ∙ yet.split, none.1));
  }

  -- the next was not read
  pub read-fault : (f : CopyFault) → AlternativeRead n s t (Err f) → AlternativesRead n r t (Err f)
  read-fault f h = record {
    passes = passes-then [] [] r s t (Some f) on.passes h.passes;
    not_long = h.not_long;
    short = λ b file. tt;
    all = λ ys behind coming. (let yet = on.come ys behind coming in shows-fault n alternatives_view ys behind t f (none-damaged n s t f h yet.yet behind yet.comes));
  }

  -- it was read, but not kept
  pub read-memory : (a : Alternative) → IsMeter t.numbers → AlternativeRead n s t (Ok (Some a)) → AlternativesRead n r t (Err Memory)
  read-memory a meter h = record {
    passes = passes-stop [] r t Memory meter (λ e. absurd cc) (passes-then [] [] r s t None on.passes h.passes);
    not_long = tt;
    short = λ b file. tt;
    all = λ ys behind coming. tt;
  }

-- ---- writing those of the first

pub calls-map : (f : PlainAlt → PlainAlt) (xs ys : List PlainAlt) → alt_calls (map f (xs ++ ys)) ≡ alt_calls (map f xs) ++ alt_calls (map f ys)
calls-map f xs ys = ap (λ (zs : List PlainAlt). alt_calls zs) (map-append f xs ys) ∙ map-append _ (map f xs) (map f ys)

-- the timestamp that an alternative of the first gets
pub record Stamps (p q : List (ℕ × ℕ)) (old new : Held) (x : PlainAlt) (z : Stamp) : Type 0 where
  pub stamp : (ys : List PlainAlt) (taken : List PlainKey) → Holds ys taken old → AllDiffer (bodies ys) → z ≡ stamp_with p q x.stamp (alt_of x.body ys)
  pub takes : (ys : List PlainAlt) (taken : List PlainKey) → Holds ys taken old → AllDiffer (bodies ys) → Holds ys (taken ++ x.body ∷ []) new
  pub short : (b n : ℕ) → IsRaisedOf b 0 p → IsRaisedOf b n q → HoldsShort b n old → IsShortAlternative (IsRaisedOf b 0) b x → IfStored (IsMadeOf b n) z × HoldsShort b n new

-- of the alternatives that came these were written, and some come yet
pub record PutYet (p q : List (ℕ × ℕ)) (old new : Held) (made : List WriterCall) (xs : List PlainAlt) (behind : List PlainItem) (t : State) : Type 0 where
  pub done : List PlainAlt
  pub yet : List PlainAlt
  pub split : done ++ yet ≡ xs
  pub comes : Coming 0 t.files t.cursor (alt_items yet ++ leaf_end_item ∷ behind)
  pub calls : (ys : List PlainAlt) → AllDiffer (bodies ys) → Holds ys [] old → (made ≡ alt_calls (map (joined_alt p q ys) done)) × Holds ys (bodies done) new

-- so many were written
pub record PutOn (p q : List (ℕ × ℕ)) (old new : Held) (r s : State) : Type 0 where
  pub made : List WriterCall
  pub next : WriterCall
  pub run : Run made next r s None
  pub stays : StaysOpen r.writer s.writer
  pub short : (b n : ℕ) → r.cursor.length + 12 ≤ b → IsRaisedOf b 0 p → IsRaisedOf b n q → HoldsShort b n old → AllByRecursion (IsShortCall (IsMadeOf b n) b) made × HoldsShort b n new
  pub come : (xs : List PlainAlt) (behind : List PlainItem) → Coming 0 r.files r.cursor (alt_items xs ++ leaf_end_item ∷ behind) → PutYet p q old new made xs behind s

pub put-start : (p q : List (ℕ × ℕ)) (h : Held) (s : State) → IsMeter s.numbers → s.cursor.at ≤ s.cursor.length → s.writer.leaf ≢ None → PutOn p q h h s s
put-start p q h s meter within leaf = record {
  made = [];
  next = call_finish;
  run = run-none call_finish s s None (λ e. absurd cc) refl (passes-none s None meter within (λ e. absurd cc));
  stays = record { leaf = leaf; inners = refl };
  short = λ b n file one two few. (tt, few);
  come = λ xs behind coming. record { done = []; yet = xs; split = refl; comes = coming; calls = λ ys differ holds. (refl, holds) };
}

-- the cursor stands in its file, and the leaf stands begun still
pub put-within : (p q : List (ℕ × ℕ)) (old new : Held) (r s : State) → PutOn p q old new r s → s.cursor.at ≤ s.cursor.length
put-within p q old new r s on = (let run = on.run in let passes = run.passes in passes.within)

pub put-open : (p q : List (ℕ × ℕ)) (old new : Held) (r s : State) → PutOn p q old new r s → s.writer.leaf ≢ None
put-open p q old new r s on = (let stays = on.stays in stays.leaf)

same-stays : (v w x : PlainWriter) → x ≡ w → StaysOpen v w → StaysOpen v x
same-stays v w x same h = subst (λ (z : PlainWriter). StaysOpen v z) (sym same) h

module _ (p q : List (ℕ × ℕ)) (old now : Held) (r s t : State) (on : PutOn p q old now r s) (same : t.writer ≡ s.writer) where
  -- the front part of a run
  front : (S : List (ℕ × ℕ) → Type 0) (b : ℕ) → AllByRecursion (IsShortCall S b) on.made → AreShort S b on.made on.next None
  front S b h = record { each = h; last = tt }

  -- the file is as long as before
  file-still : (b : ℕ) → r.cursor.length + 12 ≤ b → s.cursor.length + 12 ≤ b
  file-still b file = (let before = on.run in let passes = before.passes in let long = passes.same_length in omega (arith, long, file))

  -- that was all
  pub put-ended : AlternativeRead 0 s t (Ok None) → FirstPut p q old now r t None
  put-ended h = record {
    made = on.made ++ [];
    next = call_finish;
    run = run-then on.made [] on.next call_finish r s t None on.run (read-run s t None tt same h.passes);
    stays = same-stays r.writer s.writer t.writer same on.stays;
    short = λ b n file one two few. (
        let before = on.short b n file one two few in
        (short-then (IsMadeOf b n) b on.made [] on.next call_finish None (front (IsMadeOf b n) b before.0) (read-short (IsMadeOf b n) b None tt), before.1));
    first = λ xs behind coming. (let yet = on.come xs behind coming in (none-came 0 s t h yet.yet behind yet.comes).1);
    both = λ xs ys behind coming differ holds. (
        let yet = on.come xs behind coming in
        let none = none-came 0 s t h yet.yet behind yet.comes in
        let all : yet.done ≡ xs = sym (append-nil yet.done) ∙ ap (λ (z : List PlainAlt). yet.done ++ z) (sym none.0) ∙ yet.split in
        let calls = yet.calls ys differ holds in
        (append-nil on.made ∙ calls.0 ∙ ap (λ (z : List PlainAlt). alt_calls (map (joined_alt p q ys) z)) all, subst (λ (z : List PlainAlt). Holds ys (bodies z) now) all calls.1));
  }

  -- the next was not read
  pub put-unread : (new : Held) (f : CopyFault) → AlternativeRead 0 s t (Err f) → FirstPut p q old new r t (Some f)
  put-unread new f h = record {
    made = on.made ++ [];
    next = call_finish;
    run = run-then on.made [] on.next call_finish r s t (Some f) on.run (read-run s t (Some f) h.not_long same h.passes);
    stays = tt;
    short = λ b n file one two few. (
        let before = on.short b n file one two few in
        (short-then (IsMadeOf b n) b on.made [] on.next call_finish (Some f) (front (IsMadeOf b n) b before.0) (read-short (IsMadeOf b n) b (Some f) h.not_long), tt));
    first = λ xs behind coming. (let yet = on.come xs behind coming in follows-fault behind t f (none-damaged 0 s t f h yet.yet behind yet.comes));
    both = λ xs ys behind coming differ holds. (calls-stopped (alt_calls (map (joined_alt p q ys) xs)) (on.made ++ []) call_finish f h.not_long, tt);
  }

  module _ (a : Alternative) (h : AlternativeRead 0 s t (Ok (Some a))) where
    -- it was read, but there is no memory for its timestamp
    pub put-memory : (new : Held) → IsMeter t.numbers → FirstPut p q old new r t (Some Memory)
    put-memory new meter = record {
      made = on.made ++ [];
      next = call_finish;
      run = run-then on.made [] on.next call_finish r s t (Some Memory) on.run (run-none call_finish s t (Some Memory) (λ e. absurd cc) same (passes-stop [] s t Memory meter (λ e. absurd cc) h.passes));
      stays = tt;
      short = λ b n file one two few. (
          let before = on.short b n file one two few in
          (short-then (IsMadeOf b n) b on.made [] on.next call_finish (Some Memory) (front (IsMadeOf b n) b before.0) (short-none (IsMadeOf b n) b call_finish (Some Memory) (λ e. absurd cc)), tt));
      first = λ xs behind coming. tt;
      both = λ xs ys behind coming differ holds. (tt, tt);
    }

    module _ (u : State) (new : Held) (z : Stamp) (stamps : Stamps p q now new (alternative_view a) z) where
      abbrev call : WriterCall
      call = (let x = alternative_view a in call_alt z x.body)

      -- the run as far as behind the call
      put-run : (e : Option CopyFault) (sent : Sent (call ∷ []) t u e) → Run (on.made ++ sent.made) sent.next r u e
      put-run e sent = run-then on.made sent.made on.next sent.next r s u e on.run (run-then [] sent.made call_finish sent.next s t u e (read-run s t None tt same h.passes) sent.run)

      -- the call is short
      put-short : (b n : ℕ) → r.cursor.length + 12 ≤ b → IsRaisedOf b 0 p → IsRaisedOf b n q → HoldsShort b n now → AllByRecursion (IsShortCall (IsMadeOf b n) b) (call ∷ []) × HoldsShort b n new
      put-short b n file one two few =
          let read = h.short b (file-still b file) in
          let stored = stamps.short b n one two few read in
          (((stored.0, read.body), tt), stored.1)

      -- it was not put
      pub put-fault : (f : CopyFault) → Sent (call ∷ []) t u (Some f) → FirstPut p q old new r u (Some f)
      put-fault f sent = record {
        made = on.made ++ sent.made;
        next = sent.next;
        run = put-run (Some f) sent;
        stays = tt;
        short = λ b n file one two few. (
            let before = on.short b n file one two few in
            (short-then (IsMadeOf b n) b on.made sent.made on.next sent.next (Some f) (front (IsMadeOf b n) b before.0) (short-part (IsMadeOf b n) b (call ∷ []) sent.made sent.next (Some f) (put-short b n file one two before.1).0 sent.part), tt));
        first = λ xs behind coming. follows-fault behind u f (part-fault (call ∷ []) sent.made sent.next f sent.part);
        both = λ xs ys behind coming differ holds. (
            let yet = on.come xs behind coming in
            let first = first-came 0 s t a h yet.yet behind yet.comes in
            let calls = yet.calls ys differ holds in
            let joined = joined_alt p q ys in
            let x = alternative_view a in
            let one : call ∷ [] ≡ alt_calls (map joined (x ∷ [])) = ap (λ (d : Stamp). call_alt d x.body ∷ []) (stamps.stamp ys (bodies yet.done) calls.1 differ) in
            let all : yet.done ++ x ∷ first.0 ≡ xs = ap (λ (d : List PlainAlt). yet.done ++ d) (sym first.1) ∙ yet.split in (
              calls-as (alt_calls (map joined yet.done) ++ alt_calls (map joined (x ∷ first.0))) (alt_calls (map joined xs)) (on.made ++ sent.made) sent.next (Some f)
                  (sym (calls-map joined yet.done (x ∷ first.0)) ∙ ap (λ (d : List PlainAlt). alt_calls (map joined d)) all)
                  (calls-then (alt_calls (map joined yet.done)) (alt_calls (map joined (x ∷ first.0))) on.made sent.made sent.next (Some f) calls.0
                  (calls-fault (alt_calls (map joined (x ∷ []))) (alt_calls (map joined first.0)) sent.made sent.next f
                  (calls-as (call ∷ []) (alt_calls (map joined (x ∷ []))) sent.made sent.next (Some f) one (calls-part (call ∷ []) sent.made sent.next (Some f) sent.part)))),
              tt,
            ));
      }

      -- it was
      pub put-more : Sent (call ∷ []) t u None → PutOn p q old new r u
      put-more sent =
          let x = alternative_view a in
          let put : PlainAlt = record { stamp = z; body = x.body } in
          let before = on.stays in
          record {
            made = on.made ++ sent.made;
            next = sent.next;
            run = put-run None sent;
            stays = record {
              leaf = put-leaf t u put sent (λ none. before.leaf (sym (ap (λ (w : PlainWriter). w.leaf) same) ∙ none));
              inners = put-inners t u put sent ∙ ap (λ (w : PlainWriter). w.inners) same ∙ before.inners;
            };
            short = λ b n file one two few. (
                let so_far = on.short b n file one two few in
                let more = put-short b n file one two so_far.1 in
                (all-append (IsShortCall (IsMadeOf b n) b) on.made sent.made so_far.0 (subst (AllByRecursion (IsShortCall (IsMadeOf b n) b)) (sym sent.part) more.0), more.1));
            come = λ xs behind coming. (
                let yet = on.come xs behind coming in
                let first = first-came 0 s t a h yet.yet behind yet.comes in
                let did = sent.run in
                let passes = did.passes in
                record {
                  done = yet.done ++ x ∷ [];
                  yet = first.0;
                  split = append_assoc yet.done (x ∷ []) first.0 ∙ ap (λ (d : List PlainAlt). yet.done ++ d) (sym first.1) ∙ yet.split;
                  comes = coming-same 0 (alt_items first.0 ++ leaf_end_item ∷ behind) t u passes.same_files sent.same_cursor first.2;
                  calls = λ ys differ holds. (
                      let calls = yet.calls ys differ holds in
                      let joined = joined_alt p q ys in
                      let one : sent.made ≡ alt_calls (map joined (x ∷ [])) = sent.part ∙ ap (λ (d : Stamp). call_alt d x.body ∷ []) (stamps.stamp ys (bodies yet.done) calls.1 differ) in
                      ((λ i. calls.0 i ++ one i) ∙ sym (calls-map joined yet.done (x ∷ [])), subst (λ (d : List PlainKey). Holds ys d new) (sym (map-append _ yet.done (x ∷ []))) (stamps.takes ys (bodies yet.done) calls.1 differ)));
                });
          }
