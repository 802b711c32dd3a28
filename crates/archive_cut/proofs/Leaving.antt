-- What reading, holding and writing the alternatives of a leaf goes along.
use Rattle.std.proofs.Common.{◌≡◌, ◌≢◌, ℕ, ◌+◌, ◌≤◌, true, false, cond, List, [], ◌∷◌, ◌++◌, map, length, Option, Some, None, Ok, Err, refl, sym, ap, subst, ◌∙◌, append_assoc, arith}
use Rattle.std.proofs.lemmas.List.{append-nil, map-append}
use Rattle.std.specs.List.{AllByRecursion, cons_option}
use Rattle.version_set.specs.Members.{members}
use Rattle.archive_tree.specs.Data.{Stamp, PlainAlt}
use Rattle.archive_tree.specs.PartsTest.{is_none, is_same}
use Rattle.archive_tree.proofs.Tells.{is_same-exact}
use Rattle.archive_tree.specs.Stands.{AllDiffer, first_num}
use Rattle.record_format.specs.Data.{alt_rec}
use Rattle.record_format.specs.Nodes.{set_in}
use Rattle.record_format.specs.Spelling.{rec_bytes}
use Rattle.record_parts.specs.declared.views.BodyView.{BodyView}
use Rattle.record_parts.specs.declared.views.StampView.{StampView}
use Rattle.record_cursor.specs.Items.{PlainItem, alt_item, leaf_end_item}
use Rattle.record_cursor.specs.Moves.{Comes}
use Rattle.record_cursor.specs.Next.{size_of}
use Rattle.record_cursor.specs.View.{shown_item}
use Rattle.record_cursor.specs.declared.fault.CursorFault.{CursorFault}
use Rattle.record_cursor.specs.declared.fault.CursorFault.TheVariants as read
use Rattle.record_cursor.specs.declared.item.Item.{Item}
use Rattle.record_cursor.specs.declared.item.Item.TheVariants.{Alt, LeafEnd}
use Rattle.record_writer.specs.Data.{PlainWriter, WriterCall, call_end_leaf, call_finish}
use Rattle.record_writer.specs.Calls.{after, after_all}
use Rattle.record_writer.specs.Walks.{alt_calls}
use Rattle.record_copy.specs.Faults.{Unless, IfLong, of_cursor}
use Rattle.record_copy.specs.Passes.{Passes, Rests}
use Rattle.record_copy.specs.Runs.{Sent}
use Rattle.record_copy.specs.Short.{IfStored, IsShortCall}
use Rattle.record_copy.specs.State.{State}
use Rattle.record_copy.specs.declared.fault.CopyFault.{CopyFault}
use Rattle.record_copy.specs.declared.fault.CopyFault.TheVariants.{Damage, TooLong, Folder, Memory}
use Rattle.record_copy.proofs.Alternating.{not-long, whole-part}
use Rattle.record_copy.proofs.FewBytes.{IsFewStamp, alternative-parts}
use Rattle.record_copy.proofs.Passing.{passes-then, Nexts, Stays, gave, gave-stop, failed, given}
use Rattle.record_copy.proofs.Reading.{not-long-cursor}
use Rattle.record_copy.proofs.Running.{run-then, run-none, short-none, short-part}
use Rattle.archive_cut.specs.Held.{held_view, KnowsFirst, alts_left, IsShortAlt, Holds, InOrder}
use Rattle.record_cursor.specs.NodeItems.{alt_items}
use Rattle.archive_cut.specs.Leaves.{AltsRead, Reads}
use Rattle.archive_cut.specs.Runs.{Matches}
use Rattle.archive_cut.specs.Short.{IsLeftOf}
use Rattle.archive_cut.specs.Sliced.{cut_set, is_gone, stamp_under, cut_alt, left_alts, by_first, sliced_alts}
use Rattle.archive_cut.specs.Walked.{LeafCut}
use Rattle.archive_cut.specs.Windows.{set_left, alt_left}
use Rattle.archive_cut.specs.declared.held.Held.{Held}
use Rattle.archive_cut.proofs.Matching.{matches-part}
use Rattle.archive_cut.proofs.Skips.{no-alt}
use Rattle.record_parts.specs.Shapes.{FitsValue}
use Rattle.record_format.proofs.Pieces.{all-append}
use Rattle.record_copy.proofs.Closing.{closes-leaf}

-- ---- few bytes

-- the stamp that is left of one of few bytes
pub left-stamp : (b i j : ℕ) (now : List (ℕ × ℕ)) (s : Stamp) → IsFewStamp b s → IfStored (IsLeftOf b i j) (stamp_under now (set_left i j now s))
left-stamp b i j now None h = (let e = (is_same-exact (members now) (members now)).1 refl in rw e tt)
left-stamp b i j now (Some t) h =
    elim (is_same (members (cut_set i j t)) (members now)) as (λ z. IfStored (IsLeftOf b i j) (cond {A = Stamp} z None (Some (cut_set i j t)))) [ true ↦ tt | false ↦ (t, h, refl) ]

left-short : (b i j : ℕ) (now : List (ℕ × ℕ)) (x : PlainAlt) → FitsValue x.body → length (rec_bytes (alt_rec x.stamp x.body)) ≤ b → AllByRecursion (IsShortAlt b i j) (alts_left i j now (x ∷ []))
left-short b i j now x fits le =
    let parts = alternative-parts b x.stamp x.body le in
    let stamp = left-stamp b i j now x.stamp parts.0 in
    elim (is_none (members (set_left i j now x.stamp))) as (λ z. AllByRecursion (IsShortAlt b i j) (cons_option (cond {A = Option PlainAlt} z None (Some (record { stamp = stamp_under now (set_left i j now x.stamp); body = x.body }))) [])) [
      | true ↦ tt
      | false ↦ ((stamp, (fits, parts.1)), tt)
    ]

one-more : {X : Type 0} (o : Option X) (xs : List X) → cons_option o [] ++ xs ≡ cons_option o xs
one-more None xs = refl
one-more (Some x) xs = refl

-- ---- reading

-- of the alternatives that came, some come yet
pub record AltsYet (i j : ℕ) (now : List (ℕ × ℕ)) (held : List Held) (xs : List PlainAlt) (behind : List PlainItem) (t : State) : Type 0 where
  pub yet : List PlainAlt
  pub comes : Comes t.files t.cursor (alt_items yet ++ leaf_end_item ∷ behind)
  pub split : map held_view held ++ alts_left i j now yet ≡ alts_left i j now xs

pub record ReadOn (i j : ℕ) (now : List (ℕ × ℕ)) (r s : State) (held : List Held) : Type 0 where
  pub passes : Passes [] r s None
  pub firsts : AllByRecursion (KnowsFirst now) held
  pub short : (b : ℕ) → r.cursor.length + 12 ≤ b → AllByRecursion (IsShortAlt b i j) (map held_view held)
  pub come : (xs : List PlainAlt) (behind : List PlainItem) → Comes r.files r.cursor (alt_items xs ++ leaf_end_item ∷ behind) → AltsYet i j now held xs behind s

pub read-start : (i j : ℕ) (now : List (ℕ × ℕ)) (s : State) → Passes [] s s None → ReadOn i j now s s []
read-start i j now s h = record { passes = h; firsts = tt; short = λ b file. tt; come = λ xs behind comes. record { yet = xs; comes = comes; split = refl } }

alt-yet : (i j : ℕ) (now : List (ℕ × ℕ)) (x : PlainAlt) (held more : List Held) (xs ys : List PlainAlt) (behind : List PlainItem) (s t : State) (item : Item) → shown_item item ≡ alt_item x.stamp x.body → Nexts s t item
    → map held_view more ≡ map held_view held ++ alts_left i j now (x ∷ []) → Comes s.files s.cursor (alt_items ys ++ leaf_end_item ∷ behind) → map held_view held ++ alts_left i j now ys ≡ alts_left i j now xs → AltsYet i j now more xs behind t
alt-yet i j now x held more xs [] behind s t item shown read views comes split =
    let k = given leaf_end_item behind s t item read comes in
    let same : alt_item x.stamp x.body ≡ leaf_end_item = sym shown ∙ k.0 in
    absurd cc
alt-yet i j now x held more xs (y ∷ ys) behind s t item shown read views comes split =
    let k = given (alt_item y.stamp y.body) (alt_items ys ++ leaf_end_item ∷ behind) s t item read comes in
    let same : alt_item x.stamp x.body ≡ alt_item y.stamp y.body = sym shown ∙ k.0 in
    let stamps : x.stamp ≡ y.stamp = cc in
    let bodies : x.body ≡ y.body = cc in
    let is : x ≡ y = λ z. record { stamp = stamps z; body = bodies z } in
    record {
      yet = ys;
      comes = k.1;
      split = ap (λ z. z ++ alts_left i j now ys) (views ∙ ap (λ z. map held_view held ++ alts_left i j now (z ∷ [])) is)
          ∙ append_assoc (map held_view held) (alts_left i j now (y ∷ [])) (alts_left i j now ys)
          ∙ ap (λ z. map held_view held ++ z) (one-more (alt_left i j now y) (alts_left i j now ys))
          ∙ split;
    }

pub read-on : (i j : ℕ) (now : List (ℕ × ℕ)) (r s t : State) (item : Item) (x : PlainAlt) (held more : List Held) → shown_item item ≡ alt_item x.stamp x.body → FitsValue x.body → ReadOn i j now r s held → Nexts s t item → Holds i j now x held more → ReadOn i j now r t more
read-on i j now r s t item x held more shown fits on read holds = record {
  passes = passes-then [] [] r s t None on.passes (gave s t item read);
  firsts = holds.first on.firsts;
  short = λ b file. subst (AllByRecursion (IsShortAlt b i j)) (sym holds.views) (all-append (IsShortAlt b i j) (map held_view held) (alts_left i j now (x ∷ [])) (on.short b file) (left-short b i j now x fits (
      let goes = read.goes in
      let size = ap (size_of s.cursor.standing) shown in
      let moved = goes.moved in
      let within = goes.within in
      let long = goes.same_length in
      let before = on.passes in
      let same = before.same_length in
      omega (arith, size, moved, within, long, same, file))));
  come = λ xs behind comes. (let yet = on.come xs behind comes in alt-yet i j now x held more xs yet.yet behind s t item shown read holds.views yet.comes yet.split);
}

all-read : (i j : ℕ) (now : List (ℕ × ℕ)) (held : List Held) (xs ys : List PlainAlt) (behind : List PlainItem) (s t : State) (item : Item) → shown_item item ≡ leaf_end_item → Nexts s t item → Comes s.files s.cursor (alt_items ys ++ leaf_end_item ∷ behind)
    → map held_view held ++ alts_left i j now ys ≡ alts_left i j now xs → (map held_view held ≡ alts_left i j now xs) × Comes t.files t.cursor behind
all-read i j now held xs [] behind s t item shown read comes split = (sym (append-nil (map held_view held)) ∙ split, (given leaf_end_item behind s t item read comes).1)
all-read i j now held xs (y ∷ ys) behind s t item shown read comes split =
    let k = given (alt_item y.stamp y.body) (alt_items ys ++ leaf_end_item ∷ behind) s t item read comes in
    let same : leaf_end_item ≡ alt_item y.stamp y.body = sym shown ∙ k.0 in
    absurd cc

pub read-ended : (i j : ℕ) (now : List (ℕ × ℕ)) (r s t : State) (item : Item) (held : List Held) → shown_item item ≡ leaf_end_item → ReadOn i j now r s held → Nexts s t item → AltsRead i j now r t (Ok held)
read-ended i j now r s t item held shown on read = record {
  passes = passes-then [] [] r s t None on.passes (gave s t item read);
  not_long = tt;
  firsts = on.firsts;
  short = on.short;
  alternatives = λ xs behind comes. (let yet = on.come xs behind comes in all-read i j now held xs yet.yet behind s t item shown read yet.comes yet.split);
}

reads-failed : (i j : ℕ) (now : List (ℕ × ℕ)) (xs ys : List PlainAlt) (behind : List PlainItem) (s t : State) (e : CursorFault) → Stays s t e → Comes s.files s.cursor (alt_items ys ++ leaf_end_item ∷ behind) → Reads i j now xs behind t (Err (of_cursor e))
reads-failed i j now xs [] behind s t read.Damage stays comes = stays.undamaged leaf_end_item behind comes
reads-failed i j now xs (y ∷ ys) behind s t read.Damage stays comes = stays.undamaged (alt_item y.stamp y.body) (alt_items ys ++ leaf_end_item ∷ behind) comes
reads-failed i j now xs ys behind s t read.Folder stays comes = tt
reads-failed i j now xs ys behind s t read.Memory stays comes = tt

pub read-failed : (i j : ℕ) (now : List (ℕ × ℕ)) (r s t : State) (e : CursorFault) (held : List Held) → ReadOn i j now r s held → Stays s t e → AltsRead i j now r t (Err (of_cursor e))
read-failed i j now r s t e held on stays =
    let passes = on.passes in
    record {
      passes = passes-then [] [] r s t (Some (of_cursor e)) passes (failed s t e passes.within stays);
      not_long = not-long-cursor e;
      firsts = tt;
      short = λ b file. tt;
      alternatives = λ xs behind comes. (let yet = on.come xs behind comes in reads-failed i j now xs yet.yet behind s t e stays yet.comes);
    }

pub read-memory : (i j : ℕ) (now : List (ℕ × ℕ)) (r s t : State) (item : Item) (held : List Held) → ReadOn i j now r s held → Nexts s t item → AltsRead i j now r t (Err Memory)
read-memory i j now r s t item held on read = record {
  passes = passes-then [] [] r s t (Some Memory) on.passes (gave-stop s t item Memory (λ e. absurd cc) read);
  not_long = tt;
  firsts = tt;
  short = λ b file. tt;
  alternatives = λ xs behind comes. tt;
}

pub read-damage : (i j : ℕ) (now : List (ℕ × ℕ)) (r s t : State) (item : Item) (held : List Held) → ((st : StampView) (b : BodyView) → item ≢ Alt st b) → item ≢ LeafEnd → ReadOn i j now r s held → Nexts s t item → AltsRead i j now r t (Err Damage)
read-damage i j now r s t item held alts end on read = record {
  passes = passes-then [] [] r s t (Some Damage) on.passes (gave-stop s t item Damage (λ e. absurd cc) read);
  not_long = tt;
  firsts = tt;
  short = λ b file. tt;
  alternatives = λ xs behind comes. (let yet = on.come xs behind comes in no-alt yet.yet behind s t item alts end read yet.comes);
}

-- ---- what is held is what is left

pub left-set : (i j : ℕ) (q : List (ℕ × ℕ)) (s : Stamp) → set_left i j (cut_set i j q) s ≡ cut_set i j (set_in s q)
left-set i j q None = refl
left-set i j q (Some t) = refl

left-one : (i j : ℕ) (q : List (ℕ × ℕ)) (x : PlainAlt) (rest : List PlainAlt) → cons_option (alt_left i j (cut_set i j q) x) rest ≡ cond (is_gone i j (set_in x.stamp q)) rest (cut_alt i j q x ∷ rest)
left-one i j q x rest =
    let set = left-set i j q x.stamp in
    ap (λ z. cons_option (cond {A = Option PlainAlt} (is_none (members z)) None (Some (record { stamp = stamp_under (cut_set i j q) z; body = x.body }))) rest) set
    ∙ elim (is_gone i j (set_in x.stamp q)) as (λ b. cons_option (cond {A = Option PlainAlt} b None (Some (cut_alt i j q x))) rest ≡ cond b rest (cut_alt i j q x ∷ rest)) [ true ↦ refl | false ↦ refl ]

pub left-is : (i j : ℕ) (q : List (ℕ × ℕ)) (xs : List PlainAlt) → alts_left i j (cut_set i j q) xs ≡ left_alts i j q xs
left-is i j q [] = refl
left-is i j q (x ∷ xs) = left-one i j q x (alts_left i j (cut_set i j q) xs) ∙ ap (λ z. cond (is_gone i j (set_in x.stamp q)) z (cut_alt i j q x ∷ z)) (left-is i j q xs)

-- ---- writing

pub calls-map : (xs ys : List PlainAlt) → alt_calls (xs ++ ys) ≡ alt_calls xs ++ alt_calls ys
calls-map xs ys = map-append _ xs ys

all-calls : (b i j : ℕ) (xs : List PlainAlt) → AllByRecursion (IsShortAlt b i j) xs → AllByRecursion (IsShortCall (IsLeftOf b i j) b) (alt_calls xs ++ call_end_leaf ∷ [])
all-calls b i j [] h = (tt, tt)
all-calls b i j (x ∷ xs) h = (h.0, all-calls b i j xs h.1)

-- ---- the leaf

leaf-rests : (v w : PlainWriter) (xs : List PlainAlt) (made : List WriterCall) (e : Option CopyFault) → Unless e (w ≡ after_all v made) → Unless e (made ≡ alt_calls xs ++ call_end_leaf ∷ []) → Unless e (Rests v w)
leaf-rests v w xs made None is same = closes-leaf v w xs (is ∙ ap (after_all v) same)
leaf-rests v w xs made (Some f) is same = tt

stops : (i j : ℕ) (now : List (ℕ × ℕ)) (cs : List WriterCall) (xs : List PlainAlt) (behind : List PlainItem) (t : State) (f : CopyFault) → IfLong (Some f) ⊥ → Reads i j now xs behind t (Err f) → Matches cs [] call_finish behind t (Some f)
stops i j now cs xs behind t Damage n h = h
stops i j now cs xs behind t TooLong n h = absurd n
stops i j now cs xs behind t Folder n h = tt
stops i j now cs xs behind t Memory n h = tt

pub leaf-fault : (i j : ℕ) (q now : List (ℕ × ℕ)) (s t : State) (f : CopyFault) → t.writer ≡ s.writer → AltsRead i j now s t (Err f) → LeafCut i j q s t (Some f)
leaf-fault i j q now s t f same h = record {
  made = [];
  next = call_finish;
  run = run-none call_finish s t (Some f) (not-long (Some f) h.not_long) same h.passes;
  rests = tt;
  short = λ b file few. short-none (IsLeftOf b i j) b call_finish (Some f) (not-long (Some f) h.not_long);
  alternatives = λ xs behind comes apart. stops i j now (alt_calls (sliced_alts i j q xs) ++ call_end_leaf ∷ []) xs behind t f h.not_long (h.alternatives xs behind comes);
}

pub leaf-cut : (i j : ℕ) (q now : List (ℕ × ℕ)) (s t u : State) (e : Option CopyFault) (held put : List Held) → now ≡ cut_set i j q → t.writer ≡ s.writer → AltsRead i j now s t (Ok held) → InOrder held put
    → Sent (alt_calls (map held_view put) ++ call_end_leaf ∷ []) t u e → LeafCut i j q s u e
leaf-cut i j q now s t u e held put left same h order sent =
    let cs = alt_calls (map held_view put) ++ call_end_leaf ∷ [] in
    let begun = run-none call_finish s t None (λ d. absurd cc) same h.passes in
    let run = run-then [] sent.made call_finish sent.next s t u e begun sent.run in
    record {
      made = sent.made;
      next = sent.next;
      run = run;
      rests = leaf-rests s.writer u.writer (map held_view put) sent.made e run.writer (whole-part cs sent.made sent.next e sent.part);
      short = λ b file few. short-part (IsLeftOf b i j) b cs sent.made sent.next e (all-calls b i j (map held_view put) (order.short b i j (h.short b file))) sent.part;
      alternatives = λ xs behind comes apart. (
          let reads = h.alternatives xs behind comes in
          let views : map held_view held ≡ left_alts i j q xs = reads.0 ∙ ap (λ z. alts_left i j z xs) left ∙ left-is i j q xs in
          let differ = subst (λ z. AllDiffer (map (first_num (members z)) (left_alts i j q xs))) (sym left) apart in
          let sorted : map held_view put ≡ sliced_alts i j q xs = order.order now h.firsts (subst (λ z. AllDiffer (map (first_num (members now)) z)) (sym views) differ) ∙ (λ z. by_first (members (left z)) (views z)) in
          let f = sent.run in
          let passes = f.passes in
          subst (λ z. Matches (alt_calls z ++ call_end_leaf ∷ []) sent.made sent.next behind u e) sorted (matches-part cs sent.made sent.next behind t u e sent.part passes.same_files sent.same_cursor reads.1));
    }
