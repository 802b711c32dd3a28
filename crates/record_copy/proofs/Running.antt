-- Calls of the writer, one part after the other.
use Rattle.std.proofs.Common.{◌≡◌, ◌≢◌, ℕ, ◌≤◌, List, [], ◌∷◌, ◌++◌, length, take, Option, Some, None, Result, Ok, Err, refl, sym, ap, subst, ◌∙◌, append_assoc}
use Rattle.std.specs.Result.{OnOk, result_map_both}
use Rattle.std.specs.List.{AllByRecursion}
use Rattle.std.proofs.lemmas.List.{append-nil}
use Rattle.xa_outside.specs.Folder.{Files}
use Rattle.xa_outside.specs.Numbers.{Numbers, IsMeter, PullsAndDrafts}
use Rattle.xa_outside.specs.NumberLaws.{PullsAndDrafts-none, PullsAndDrafts-of_draft}
use Rattle.record_cursor.specs.Items.{PlainItem}
use Rattle.record_cursor.specs.View.{PlainCursor}
use Rattle.record_writer.specs.Data.{PlainWriter, WriterCall, call_finish}
use Rattle.record_writer.specs.Calls.{appended, after, Fits, AllFit}
use Rattle.record_writer.specs.Faults.{TooLongUnless, Appends}
use Rattle.record_writer.specs.View.{writer_view}
use Rattle.record_writer.specs.declared.fault.WriteFault.{WriteFault}
use Rattle.record_writer.specs.declared.fault.WriteFault.TheVariants as writer
use Rattle.record_writer.specs.declared.writer.Writer.{Writer}
use Rattle.record_writer.proofs.FitLaws.{fit-both}
use Rattle.record_copy.specs.Faults.{fault_of, of_writer}
use Rattle.record_copy.specs.Passes.{Passes}
use Rattle.record_copy.specs.Runs.{Run, Makes, Matches, IsPart, Sent}
use Rattle.record_copy.specs.Seen.{Coming}
use Rattle.record_copy.specs.Short.{IsShortCall, AreShort}
use Rattle.record_copy.specs.State.{State, state, beside}
use Rattle.record_copy.specs.declared.fault.CopyFault.{CopyFault}
use Rattle.record_copy.specs.declared.fault.CopyFault.TheVariants.{Damage, Folder, TooLong, Memory}
use Rattle.record_copy.proofs.Endings.{whole-map, whole-always, unless-map, unless-always, long-map, long-never, both-bytes, both-after, both-over}
use Rattle.record_copy.proofs.Passing.{passes-then, passes-none, passes-only, lengthens-none, coming-same}
use Rattle.record_format.proofs.Pieces.{all-append, all-front, all-back}

-- ---- runs

pub run-then : (made more : List WriterCall) (over next : WriterCall) (s t u : State) (e : Option CopyFault) → Run made over s t None → Run more next t u e → Run (made ++ more) next s u e
run-then made more over next s t u e h g = record {
  bytes = h.bytes ++ g.bytes;
  passes = passes-then h.bytes g.bytes s t u e h.passes g.passes;
  same = whole-map e (both-bytes s.writer t.writer made more h.writer h.bytes g.bytes h.same) g.same;
  fit = (fit-both s.writer made more).1 (h.fit, subst (λ (v : PlainWriter). AllFit v more) h.writer g.fit);
  writer = unless-map e (both-after s.writer t.writer made more h.writer u.writer) g.writer;
  over = long-map e (both-over s.writer t.writer made more h.writer next) g.over;
}

-- nothing was written, and it is no want of room
pub run-none : (next : WriterCall) (s t : State) (e : Option CopyFault) → e ≢ Some TooLong → t.writer ≡ s.writer → Passes [] s t e → Run [] next s t e
run-none next s t e not same h = record {
  bytes = [];
  passes = h;
  same = whole-always e refl;
  fit = tt;
  writer = unless-always e same;
  over = long-never _ e not;
}

-- ---- what was to be written

-- one part behind another
pub makes-then : (P : Type 0) (cs ds made more : List WriterCall) (next : WriterCall) (e : Option CopyFault) → made ≡ cs → Makes P ds more next e → Makes P (cs ++ ds) (made ++ more) next e
makes-then P cs ds made more next None is h = ((λ i. is i ++ h.0 i), h.1)
makes-then P cs ds made more next (Some TooLong) is h =
    (h.0, (λ i. sym is i ++ h.1 i) ∙ sym (append_assoc made more (next ∷ h.0)))
makes-then P cs ds made more next (Some Damage) is h = h
makes-then P cs ds made more next (Some Folder) is h = tt
makes-then P cs ds made more next (Some Memory) is h = tt

-- after a fault what was to come behind does not matter
pub makes-fault : (P Q : Type 0) (cs ds made : List WriterCall) (next : WriterCall) (f : CopyFault) → Makes P cs made next (Some f) → Makes Q (cs ++ ds) made next (Some f)
makes-fault P Q cs ds made next TooLong h = (h.0 ++ ds, ap (λ (z : List WriterCall). z ++ ds) h.1 ∙ append_assoc made (next ∷ h.0) ds)
makes-fault P Q cs ds made next Damage h = h
makes-fault P Q cs ds made next Folder h = tt
makes-fault P Q cs ds made next Memory h = tt

-- calls that read nothing
pub makes-part : (P : Type 0) (cs made : List WriterCall) (next : WriterCall) (e : Option CopyFault) → IsPart cs made next e → P → Makes P cs made next e
makes-part P cs made next None part h = (part, h)
makes-part P cs made next (Some TooLong) part h = part
makes-part P cs made next (Some Damage) part h = part
makes-part P cs made next (Some Folder) part h = tt
makes-part P cs made next (Some Memory) part h = tt

-- the same, where items come next

pub matches-then : (n : ℕ) (cs ds made more : List WriterCall) (next : WriterCall) (behind : List PlainItem) (t : State) (e : Option CopyFault) → made ≡ cs → Matches n ds more next behind t e → Matches n (cs ++ ds) (made ++ more) next behind t e
matches-then n cs ds made more next behind t e is h = makes-then (Coming n t.files t.cursor behind) cs ds made more next e is h

pub matches-fault : (n : ℕ) (cs ds made : List WriterCall) (next : WriterCall) (mid behind : List PlainItem) (t : State) (f : CopyFault) → Matches n cs made next mid t (Some f) → Matches n (cs ++ ds) made next behind t (Some f)
matches-fault n cs ds made next mid behind t f h = makes-fault (Coming n t.files t.cursor mid) (Coming n t.files t.cursor behind) cs ds made next f h

pub matches-part : (n : ℕ) (cs made : List WriterCall) (next : WriterCall) (behind : List PlainItem) (s t : State) (e : Option CopyFault) → IsPart cs made next e → t.files ≡ s.files → t.cursor ≡ s.cursor → Coming n s.files s.cursor behind → Matches n cs made next behind t e
matches-part n cs made next behind s t e part f c h = makes-part (Coming n t.files t.cursor behind) cs made next e part (coming-same n behind s t f c h)

-- ---- short calls

pub short-then : (S : List (ℕ × ℕ) → Type 0) (b : ℕ) (made more : List WriterCall) (over next : WriterCall) (e : Option CopyFault) → AreShort S b made over None → AreShort S b more next e → AreShort S b (made ++ more) next e
short-then S b made more over next e h g = record { each = all-append (IsShortCall S b) made more h.each g.each; last = g.last }

pub short-none : (S : List (ℕ × ℕ) → Type 0) (b : ℕ) (next : WriterCall) (e : Option CopyFault) → e ≢ Some TooLong → AreShort S b [] next e
short-none S b next e not = record { each = tt; last = long-never _ e not }

-- calls of which these are a part
pub short-part : (S : List (ℕ × ℕ) → Type 0) (b : ℕ) (cs made : List WriterCall) (next : WriterCall) (e : Option CopyFault) → AllByRecursion (IsShortCall S b) cs → IsPart cs made next e → AreShort S b made next e
short-part S b cs made next None h part = record { each = subst (λ (z : List WriterCall). AllByRecursion (IsShortCall S b) z) (sym part) h; last = tt }
short-part S b cs made next (Some TooLong) h part =
    let all = subst (λ (z : List WriterCall). AllByRecursion (IsShortCall S b) z) part.1 h in
    record { each = all-front (IsShortCall S b) made (next ∷ part.0) all; last = (all-back (IsShortCall S b) made (next ∷ part.0) all).0 }
short-part S b cs made next (Some Damage) h part = absurd part
short-part S b cs made next (Some Folder) h part = record { each = all-front (IsShortCall S b) made part.0 (subst (λ (z : List WriterCall). AllByRecursion (IsShortCall S b) z) part.1 h); last = tt }
short-part S b cs made next (Some Memory) h part = record { each = all-front (IsShortCall S b) made part.0 (subst (λ (z : List WriterCall). AllByRecursion (IsShortCall S b) z) part.1 h); last = tt }

-- ---- calls that read nothing

pub sent-then : (s t u : State) (e : Option CopyFault) (cs ds : List WriterCall) → Sent cs s t None → Sent ds t u e → Sent (cs ++ ds) s u e
sent-then s t u e cs ds h g = record {
  made = h.made ++ g.made;
  next = g.next;
  run = run-then h.made g.made h.next g.next s t u e h.run g.run;
  same_cursor = g.same_cursor ∙ h.same_cursor;
  part = part-of e g.part;
}
  where
    part-of : (e : Option CopyFault) → IsPart ds g.made g.next e → IsPart (cs ++ ds) (h.made ++ g.made) g.next e
    part-of None p = λ i. h.part i ++ p i
    part-of (Some TooLong) p = (p.0, (λ i. sym h.part i ++ p.1 i) ∙ sym (append_assoc h.made g.made (g.next ∷ p.0)))
    part-of (Some Damage) p = p
    part-of (Some Folder) p = (p.0, (λ i. sym h.part i ++ p.1 i) ∙ sym (append_assoc h.made g.made p.0))
    part-of (Some Memory) p = (p.0, (λ i. sym h.part i ++ p.1 i) ∙ sym (append_assoc h.made g.made p.0))

pub sent-fault : (s t : State) (f : CopyFault) (cs ds : List WriterCall) → Sent cs s t (Some f) → Sent (cs ++ ds) s t (Some f)
sent-fault s t f cs ds h = record { made = h.made; next = h.next; run = h.run; same_cursor = h.same_cursor; part = part-of f h.part }
  where
    part-of : (f : CopyFault) → IsPart cs h.made h.next (Some f) → IsPart (cs ++ ds) h.made h.next (Some f)
    part-of TooLong p = (p.0 ++ ds, ap (λ (z : List WriterCall). z ++ ds) p.1 ∙ append_assoc h.made (h.next ∷ p.0) ds)
    part-of Damage p = p
    part-of Folder p = (p.0 ++ ds, ap (λ (z : List WriterCall). z ++ ds) p.1 ∙ append_assoc h.made p.0 ds)
    part-of Memory p = (p.0 ++ ds, ap (λ (z : List WriterCall). z ++ ds) p.1 ∙ append_assoc h.made p.0 ds)

pub sent-as : (s t : State) (e : Option CopyFault) (cs ds : List WriterCall) → ds ≡ cs → Sent cs s t e → Sent ds s t e
sent-as s t e cs ds is h = subst (λ (z : List WriterCall). Sent z s t e) (sym is) h

-- nothing is done where memory fails before the calls
pub sent-none : (s : State) (cs : List WriterCall) → IsMeter s.numbers → s.cursor.at ≤ s.cursor.length → Sent cs s s (Some Memory)
sent-none s cs meter within = record {
  made = [];
  next = call_finish;
  run = run-none call_finish s s (Some Memory) (λ e. absurd cc) refl (passes-none s (Some Memory) meter within (λ e. absurd cc));
  same_cursor = refl;
  part = (cs, refl);
}

-- no call is to be made
pub sent-nothing : (s : State) → IsMeter s.numbers → s.cursor.at ≤ s.cursor.length → Sent [] s s None
sent-nothing s meter within = record {
  made = [];
  next = call_finish;
  run = run-none call_finish s s None (λ e. absurd cc) refl (passes-none s None meter within (λ e. absurd cc));
  same_cursor = refl;
  part = refl;
}

-- ---- one call of the writer

-- the fault of a call
abbrev pub written : Result (Unit {0}) WriteFault → Option CopyFault
written (Ok v) = None
written (Err e) = Some (of_writer e)

-- a call of the writer that was handed on
pub called : (call : Result (Unit {0}) WriteFault) (r : Result (Unit {0}) CopyFault) → r ≡ result_map_both (λ x. x) of_writer call → written call ≡ fault_of r
called (Ok v) r is = sym (ap (λ (z : Result (Unit {0}) CopyFault). fault_of z) is)
called (Err e) r is = sym (ap (λ (z : Result (Unit {0}) CopyFault). fault_of z) is)

no-draft : (x y : Numbers) → IsMeter x → y ≡ x → PullsAndDrafts 0 x y
no-draft x y meter e = subst (λ (m : Numbers). PullsAndDrafts 0 x m) (sym e) (PullsAndDrafts-none 0 x meter)

pub plain-sends : {S : Type 0} (files : S → Option Files) (draft : S → Option (List ℕ)) (numbers : S → Numbers) (faults : S → ℕ) (old new : S) (c : PlainCursor) (v w : PlainWriter) (call : WriterCall)
    (r : Result (Unit {0}) WriteFault) → IsMeter (numbers old) → c.at ≤ c.length
    → Appends files draft numbers faults old new (appended v call) r → OnOk r (w ≡ after v call) → TooLongUnless (Fits v call) r
    → Sent (call ∷ []) (beside files draft numbers faults old c v) (beside files draft numbers faults new c w) (written r)
plain-sends files draft numbers faults old new c v w call (Ok x) meter within did is fits =
    let g = did.gains in
    record {
      made = call ∷ [];
      next = call;
      run = record {
        bytes = appended v call;
        passes = passes-only (appended v call) (beside files draft numbers faults old c v) (beside files draft numbers faults new c w) None within refl did.same_files g.draft did.later tt
            (PullsAndDrafts-of_draft 0 (length (appended v call)) (numbers old) (numbers new) meter g.numbers);
        same = sym (append-nil (appended v call));
        fit = (fits, tt);
        writer = is;
        over = tt;
      };
      same_cursor = refl;
      part = refl;
    }
plain-sends files draft numbers faults old new c v w call (Err writer.TooLong) meter within did is fits = record {
  made = [];
  next = call;
  run = record {
    bytes = [];
    passes = passes-only [] (beside files draft numbers faults old c v) (beside files draft numbers faults new c w) (Some TooLong) within refl did.same_files (lengthens-none (draft old) (draft new) did.gains.0) did.later tt (no-draft (numbers old) (numbers new) meter did.gains.1);
    same = refl;
    fit = tt;
    writer = tt;
    over = fits;
  };
  same_cursor = refl;
  part = ([], refl);
}
plain-sends files draft numbers faults old new c v w call (Err writer.Folder) meter within did is fits =
    let g = did.gains in
    let d = g.drafts in
    let piece : List ℕ = take g.count (appended v call) in
    record {
      made = [];
      next = call;
      run = record {
        bytes = piece;
        passes = passes-only piece (beside files draft numbers faults old c v) (beside files draft numbers faults new c w) (Some Folder) within refl did.same_files d.draft did.later did.cause
            (PullsAndDrafts-of_draft 0 (length piece) (numbers old) (numbers new) meter d.numbers);
        same = tt;
        fit = tt;
        writer = tt;
        over = tt;
      };
      same_cursor = refl;
      part = (call ∷ [], refl);
    }
plain-sends files draft numbers faults old new c v w call (Err writer.Memory) meter within did is fits = record {
  made = [];
  next = call;
  run = record {
    bytes = [];
    passes = passes-only [] (beside files draft numbers faults old c v) (beside files draft numbers faults new c w) (Some Memory) within refl did.same_files (lengthens-none (draft old) (draft new) did.gains.0) did.later tt (no-draft (numbers old) (numbers new) meter did.gains.1);
    same = tt;
    fit = tt;
    writer = tt;
    over = tt;
  };
  same_cursor = refl;
  part = (call ∷ [], refl);
}

pub call-sends : {S : Type 0} (files : S → Option Files) (draft : S → Option (List ℕ)) (numbers : S → Numbers) (faults : S → ℕ) (old new : S) (c : PlainCursor) (v w : Writer) (call : WriterCall)
    (r : Result (Unit {0}) WriteFault) → IsMeter (numbers old) → c.at ≤ c.length
    → Appends files draft numbers faults old new (appended (writer_view v) call) r → OnOk r (writer_view w ≡ after (writer_view v) call) → TooLongUnless (Fits (writer_view v) call) r
    → Sent (call ∷ []) (state files draft numbers faults old c v) (state files draft numbers faults new c w) (written r)
call-sends files draft numbers faults old new c v w call r = plain-sends files draft numbers faults old new c (writer_view v) (writer_view w) call r
