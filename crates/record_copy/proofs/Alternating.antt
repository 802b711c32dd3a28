-- What copying the alternatives of a leaf goes along.
use Rattle.std.proofs.Common.{◌≡◌, ◌≢◌, ℕ, ◌+◌, ◌-◌, ◌≤◌, ◌<◌, List, [], ◌∷◌, ◌++◌, Option, Some, None, Ok, Err, refl, sym, ap, subst, ◌∙◌, arith}
use Rattle.std.specs.Option.{option_map}
use Rattle.std.specs.List.{AllByRecursion}
use Rattle.xa_fields.proofs.Fields.{some_is}
use Rattle.archive_tree.specs.Data.{PlainAlt}
use Rattle.record_cursor.specs.Items.{PlainItem, leaf_end_item}
use Rattle.record_writer.specs.Data.{PlainWriter, OpenLeaf, WriterCall, call_alt, call_end_leaf, call_finish}
use Rattle.record_writer.specs.Calls.{after_all, leaf_ended}
use Rattle.record_writer.specs.Walks.{alt_calls}
use Rattle.record_copy.specs.Copied.{AlternativesCopied}
use Rattle.record_copy.specs.Faults.{Unless, IfLong}
use Rattle.record_copy.specs.Parts.{alternative_view}
use Rattle.record_copy.specs.Passes.{Passes, Rests}
use Rattle.record_copy.specs.Reads.{AlternativeRead, Shows}
use Rattle.record_copy.specs.Runs.{Run, Matches, IsPart, Sent}
use Rattle.record_copy.specs.Seen.{Coming}
use Rattle.record_copy.specs.Short.{IsRaisedOf, IsShortCall, AreShort}
use Rattle.record_copy.specs.State.{State}
use Rattle.record_copy.specs.declared.fault.CopyFault.{CopyFault}
use Rattle.record_copy.specs.declared.fault.CopyFault.TheVariants.{Damage, TooLong, Folder, Memory}
use Rattle.record_copy.specs.declared.parts.Alternative.{Alternative}
use Rattle.record_copy.proofs.Passing.{coming-same}
use Rattle.record_copy.proofs.Running.{run-then, run-none, matches-then, matches-fault, matches-part, short-then, short-none, short-part}
use Rattle.record_cursor.specs.NodeItems.{alt_items}

-- ---- reading

pub not-long : (e : Option CopyFault) → IfLong e ⊥ → e ≢ Some TooLong
not-long None h d = absurd cc
not-long (Some TooLong) h d = h
not-long (Some Damage) h d = absurd cc
not-long (Some Folder) h d = absurd cc
not-long (Some Memory) h d = absurd cc

pub read-run : (s t : State) (e : Option CopyFault) → IfLong e ⊥ → t.writer ≡ s.writer → Passes [] s t e → Run [] call_finish s t e
read-run s t e not same h = run-none call_finish s t e (not-long e not) same h

pub read-short : (S : List (ℕ × ℕ) → Type 0) (b : ℕ) (e : Option CopyFault) → IfLong e ⊥ → AreShort S b [] call_finish e
read-short S b e not = short-none S b call_finish e (not-long e not)

pub read-stops : {T U : Type 0} (n : ℕ) (view : T → U) (u : U) (next behind : List PlainItem) (cs : List WriterCall) (t : State) (f : CopyFault) → IfLong (Some f) ⊥ → Shows n view u next t (Err f) → Matches n cs [] call_finish behind t (Some f)
read-stops n view u next behind cs t Damage not h = h
read-stops n view u next behind cs t TooLong not h = absurd not
read-stops n view u next behind cs t Folder not h = tt
read-stops n view u next behind cs t Memory not h = tt

pub whole-part : (cs made : List WriterCall) (next : WriterCall) (e : Option CopyFault) → IsPart cs made next e → Unless e (made ≡ cs)
whole-part cs made next None h = h
whole-part cs made next (Some f) h = tt

pub rests-behind : (v w x : PlainWriter) (e : Option CopyFault) → w.inners ≡ v.inners → Unless e (Rests w x) → Unless e (Rests v x)
rests-behind v w x None same h = record { no_leaf = h.no_leaf; inners = h.inners ∙ same }
rests-behind v w x (Some f) same h = tt

-- ---- one alternative

abbrev pub call : PlainAlt → WriterCall
call a = call_alt a.stamp a.body

call-short : (b n : ℕ) (s t : State) (a : Alternative) → AlternativeRead n s t (Ok (Some a)) → s.cursor.length + 12 ≤ b → AllByRecursion (IsShortCall (IsRaisedOf b n) b) (call (alternative_view a) ∷ [])
call-short b n s t a h file = (let short = h.short b file in ((short.stamp, short.body), tt))

-- the writer behind it
put-writer : (t u : State) (a : PlainAlt) → Sent (call a ∷ []) t u None → u.writer ≡ after_all t.writer (call a ∷ [])
put-writer t u a sent = (let run = sent.run in run.writer ∙ ap (after_all t.writer) sent.part)

pub put-leaf : (t u : State) (a : PlainAlt) → Sent (call a ∷ []) t u None → t.writer.leaf ≢ None → u.writer.leaf ≢ None
put-leaf t u a sent leaf none = leaf (sym (ap (λ (w : PlainWriter). w.leaf) (put-writer t u a sent)) ∙ none)

pub put-inners : (t u : State) (a : PlainAlt) → Sent (call a ∷ []) t u None → u.writer.inners ≡ t.writer.inners
put-inners t u a sent = ap (λ (w : PlainWriter). w.inners) (put-writer t u a sent)

module _ (n : ℕ) (s t : State) (same : t.writer ≡ s.writer) where
  -- none was read
  pub alternatives-stopped : (f : CopyFault) → AlternativeRead n s t (Err f) → AlternativesCopied n s t (Some f)
  alternatives-stopped f h = record {
    made = [];
    next = call_finish;
    run = read-run s t (Some f) h.not_long same h.passes;
    rests = tt;
    short = λ b file. read-short (IsRaisedOf b n) b (Some f) h.not_long;
    alternatives = stops;
  }
    where
      stops : (xs : List PlainAlt) (behind : List PlainItem) → Coming n s.files s.cursor (alt_items xs ++ leaf_end_item ∷ behind) → Matches n (alt_calls xs ++ call_end_leaf ∷ []) [] call_finish behind t (Some f)
      stops [] behind coming = read-stops n (option_map alternative_view) None behind behind (call_end_leaf ∷ []) t f h.not_long (h.ended behind coming)
      stops (x ∷ xs) behind coming = (let next = alt_items xs ++ leaf_end_item ∷ behind in read-stops n (option_map alternative_view) (Some x) next behind (alt_calls (x ∷ xs) ++ call_end_leaf ∷ []) t f h.not_long (h.one x next coming))

  begun : (a : Alternative) → AlternativeRead n s t (Ok (Some a)) → Run [] call_finish s t None
  begun a h = read-run s t None tt same h.passes

  -- the first of those that come was read
  first-read : (a : Alternative) → AlternativeRead n s t (Ok (Some a)) → (x : PlainAlt) (xs : List PlainAlt) (behind : List PlainItem) → Coming n s.files s.cursor (alt_items (x ∷ xs) ++ leaf_end_item ∷ behind) → (alternative_view a ≡ x) × Coming n t.files t.cursor (alt_items xs ++ leaf_end_item ∷ behind)
  first-read a h x xs behind coming = (let one = h.one x (alt_items xs ++ leaf_end_item ∷ behind) coming in (some_is (alternative_view a) x one.0, one.1))

  not-ended : (a : Alternative) → AlternativeRead n s t (Ok (Some a)) → (behind : List PlainItem) → ¬ (Coming n s.files s.cursor (leaf_end_item ∷ behind))
  not-ended a h behind coming = (let e : ◌≡◌ {A = Option PlainAlt} (Some (alternative_view a)) None = (h.ended behind coming).0 in absurd cc)

  -- it was read, but not put
  pub alternatives-fault : (u : State) (a : Alternative) (f : CopyFault) → AlternativeRead n s t (Ok (Some a)) → Sent (call (alternative_view a) ∷ []) t u (Some f) → AlternativesCopied n s u (Some f)
  alternatives-fault u a f h sent =
      let cs = call (alternative_view a) ∷ [] in
      record {
        made = sent.made;
        next = sent.next;
        run = run-then [] sent.made call_finish sent.next s t u (Some f) (begun a h) sent.run;
        rests = tt;
        short = λ b file. short-part (IsRaisedOf b n) b cs sent.made sent.next (Some f) (call-short b n s t a h file) sent.part;
        alternatives = stops;
      }
    where
      stops : (xs : List PlainAlt) (behind : List PlainItem) → Coming n s.files s.cursor (alt_items xs ++ leaf_end_item ∷ behind) → Matches n (alt_calls xs ++ call_end_leaf ∷ []) sent.made sent.next behind u (Some f)
      stops [] behind coming = absurd (not-ended a h behind coming)
      stops (x ∷ xs) behind coming =
          let one = first-read a h x xs behind coming in
          let did = sent.run in
          let passes = did.passes in
          let next = alt_items xs ++ leaf_end_item ∷ behind in
          let part = matches-part n (call (alternative_view a) ∷ []) sent.made sent.next next t u (Some f) sent.part passes.same_files sent.same_cursor one.1 in
          matches-fault n (call x ∷ []) (alt_calls xs ++ call_end_leaf ∷ []) sent.made sent.next next behind u f (subst (λ (z : PlainAlt). Matches n (call z ∷ []) sent.made sent.next next u (Some f)) one.0 part)

  -- it was put, and then others
  pub alternatives-then : (u v : State) (a : Alternative) (e : Option CopyFault) → AlternativeRead n s t (Ok (Some a)) → Sent (call (alternative_view a) ∷ []) t u None → AlternativesCopied n u v e → AlternativesCopied n s v e
  alternatives-then u v a e h sent g =
      let cs = call (alternative_view a) ∷ [] in
      let did = sent.run in
      let passes = did.passes in
      let read = h.passes in
      record {
        made = sent.made ++ g.made;
        next = g.next;
        run = run-then [] (sent.made ++ g.made) call_finish g.next s t v e (begun a h) (run-then sent.made g.made sent.next g.next t u v e did g.run);
        rests = rests-behind s.writer u.writer v.writer e (put-inners t u (alternative_view a) sent ∙ ap (λ (w : PlainWriter). w.inners) same) g.rests;
        short = λ b file. short-then (IsRaisedOf b n) b sent.made g.made sent.next g.next e (short-part (IsRaisedOf b n) b cs sent.made sent.next None (call-short b n s t a h file) sent.part)
            (g.short b (let one = passes.same_length in let two = read.same_length in omega (arith, one, two, file)));
        alternatives = others;
      }
    where
      others : (xs : List PlainAlt) (behind : List PlainItem) → Coming n s.files s.cursor (alt_items xs ++ leaf_end_item ∷ behind) → Matches n (alt_calls xs ++ call_end_leaf ∷ []) (sent.made ++ g.made) g.next behind v e
      others [] behind coming = absurd (not-ended a h behind coming)
      others (x ∷ xs) behind coming =
          let one = first-read a h x xs behind coming in
          let did = sent.run in
          let passes = did.passes in
          let next = alt_items xs ++ leaf_end_item ∷ behind in
          matches-then n (call x ∷ []) (alt_calls xs ++ call_end_leaf ∷ []) sent.made g.made g.next behind v e (sent.part ∙ ap (λ (z : PlainAlt). call z ∷ []) one.0)
          (g.alternatives xs behind (coming-same n next t u passes.same_files sent.same_cursor one.1))

  -- the end was read
  pub alternatives-ended : (u : State) (e : Option CopyFault) → AlternativeRead n s t (Ok None) → Sent (call_end_leaf ∷ []) t u e → AlternativesCopied n s u e
  alternatives-ended u e h sent =
      let did = sent.run in
      record {
        made = sent.made;
        next = sent.next;
        run = run-then [] sent.made call_finish sent.next s t u e (read-run s t None tt same h.passes) did;
        rests = rests-behind s.writer t.writer u.writer e (ap (λ (w : PlainWriter). w.inners) same) (closed t.writer u.writer sent.made e did.writer (whole-part (call_end_leaf ∷ []) sent.made sent.next e sent.part));
        short = λ b file. short-part (IsRaisedOf b n) b (call_end_leaf ∷ []) sent.made sent.next e (tt, tt) sent.part;
        alternatives = ended;
      }
    where
      ended-leaf : (v w : PlainWriter) (o : Option OpenLeaf) (at : ℕ) → v.leaf ≡ o → w ≡ leaf_ended v o at → Rests v w
      ended-leaf v w None at none is = record { no_leaf = ap (λ (x : PlainWriter). x.leaf) is ∙ none; inners = ap (λ (x : PlainWriter). x.inners) is }
      ended-leaf v w (Some l) at some is = record { no_leaf = ap (λ (x : PlainWriter). x.leaf) is; inners = ap (λ (x : PlainWriter). x.inners) is }

      closed : (v w : PlainWriter) (made : List WriterCall) (e : Option CopyFault) → Unless e (w ≡ after_all v made) → Unless e (made ≡ call_end_leaf ∷ []) → Unless e (Rests v w)
      closed v w made None is all = ended-leaf v w v.leaf _ refl (is ∙ ap (after_all v) all)
      closed v w made (Some f) is all = tt

      ended : (xs : List PlainAlt) (behind : List PlainItem) → Coming n s.files s.cursor (alt_items xs ++ leaf_end_item ∷ behind) → Matches n (alt_calls xs ++ call_end_leaf ∷ []) sent.made sent.next behind u e
      ended [] behind coming = (let did = sent.run in let passes = did.passes in matches-part n (call_end_leaf ∷ []) sent.made sent.next behind t u e sent.part passes.same_files sent.same_cursor (h.ended behind coming).1)
      ended (x ∷ xs) behind coming = (let d : ◌≡◌ {A = Option PlainAlt} None (Some x) = (h.one x (alt_items xs ++ leaf_end_item ∷ behind) coming).0 in absurd cc)

-- what is copied from here on is copied from the first alternative on
pub record AlternativesOn (n : ℕ) (s t : State) : Type 0 where
  pub same_length : t.cursor.length ≡ s.cursor.length
  pub onward : s.cursor.at ≤ t.cursor.at
  pub within : t.cursor.at ≤ t.cursor.length
  pub leaf : t.writer.leaf ≢ None
  pub rest : (u : State) (e : Option CopyFault) → AlternativesCopied n t u e → AlternativesCopied n s u e

pub alternatives-start : (n : ℕ) (s : State) → s.cursor.at ≤ s.cursor.length → s.writer.leaf ≢ None → AlternativesOn n s s
alternatives-start n s within leaf = record { same_length = refl; onward = omega arith; within = within; leaf = leaf; rest = λ u e h. h }

pub alternatives-on : (n : ℕ) (r s t u : State) (a : Alternative) → t.writer ≡ s.writer → AlternativesOn n r s → AlternativeRead n s t (Ok (Some a)) → Sent (call (alternative_view a) ∷ []) t u None → AlternativesOn n r u
alternatives-on n r s t u a same on h sent =
    let read = h.passes in
    let did = sent.run in
    let passes = did.passes in
    record {
      same_length = passes.same_length ∙ read.same_length ∙ on.same_length;
      onward = (let a = on.onward in let b = read.onward in let c = passes.onward in omega (arith, a, b, c));
      within = passes.within;
      leaf = put-leaf t u (alternative_view a) sent (λ none. on.leaf (sym (ap (λ (w : PlainWriter). w.leaf) same) ∙ none));
      rest = λ v e g. on.rest v e (alternatives-then n s t same u v a e h sent g);
    }

-- what is left gets less behind one
pub less-left : (n : ℕ) (s t : State) (a : Alternative) → AlternativeRead n s t (Ok (Some a)) → t.cursor.length - t.cursor.at < s.cursor.length - s.cursor.at
less-left n s t a h =
    let passes = h.passes in
    let within = passes.within in
    let long = passes.same_length in
    let onward = h.onward in
    omega (arith, within, long, onward)
