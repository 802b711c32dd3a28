-- What parts of the merge do, one after the other.
use Rattle.std.proofs.Common.{◌≡◌, ◌≢◌, ℕ, ◌+◌, ◌-◌, ◌≤◌, List, [], ◌∷◌, ◌++◌, length, take, Option, Some, None, Result, Ok, Err, refl, sym, ap, subst, ◌∙◌, append_assoc, arith}
use Rattle.std.specs.Prelude.{max}
use Rattle.std.specs.Option.{option_map}
use Rattle.std.specs.List.{AllByRecursion}
use Rattle.std.specs.Result.{OnOk, IsErrAnd}
use Rattle.std.proofs.lemmas.List.{append-nil, length-append}
use Rattle.xa_outside.specs.Causes.{Rose}
use Rattle.xa_outside.specs.Folder.{Files}
use Rattle.xa_outside.specs.Numbers.{Numbers, IsMeter, PullsAtMost, PullsAndDrafts, after_draft, after_pull, lead}
use Rattle.xa_outside.specs.NumberLaws.{PullsAtMost-of, PullsAndDrafts-none, PullsAndDrafts-of_pulls, PullsAndDrafts-of_draft, PullsAndDrafts-more, PullsAndDrafts-trans}
use Rattle.xa_fields.proofs.Fields.{some_is}
use Rattle.record_cursor.specs.Faults as cursor
use Rattle.record_cursor.specs.Items.{PlainItem}
use Rattle.record_cursor.specs.Moves.{Goes, Moves, Comes}
use Rattle.record_cursor.specs.Next.{read_for}
use Rattle.record_cursor.specs.Places.{Standing}
use Rattle.record_cursor.specs.View.{PlainCursor, shown_item}
use Rattle.record_cursor.specs.declared.fault.CursorFault.{CursorFault}
use Rattle.record_cursor.specs.declared.fault.CursorFault.TheVariants as read
use Rattle.record_cursor.specs.declared.item.Item.{Item}
use Rattle.record_writer.specs.Data.{PlainWriter, WriterCall}
use Rattle.record_writer.specs.Calls.{appended, after, all_appended, after_all, Fits, AllFit}
use Rattle.record_writer.specs.Faults.{TooLongUnless, Appends}
use Rattle.record_writer.specs.View.{writer_view}
use Rattle.record_writer.specs.declared.fault.WriteFault.{WriteFault}
use Rattle.record_writer.specs.declared.fault.WriteFault.TheVariants as writer
use Rattle.record_writer.specs.declared.writer.Writer.{Writer}
use Rattle.stream_merge.specs.Does.{Walks, Made, Sends, Sent, Does}
use Rattle.stream_merge.specs.Items.{IsWithin}
use Rattle.stream_merge.specs.Passes.{Unless, IfFolder, may_pull, Passes, fault_of, of_cursor, of_writer}
use Rattle.stream_merge.specs.Room.{StopsIf}
use Rattle.record_copy.specs.State.{State, state, beside}
use Rattle.stream_merge.specs.declared.fault.MergeFault.{MergeFault}
use Rattle.stream_merge.specs.declared.fault.MergeFault.TheVariants.{Damage, Folder, TooLong, Memory}
use Rattle.record_writer.proofs.WalkLaws.{appended-append, after-append}
use Rattle.record_copy.proofs.Passing.{comes-next, read-size, went, stayed, lengthens-then, lengthens-none}

-- ---- calls one after the other

pub fit-append : (w : PlainWriter) (cs ds : List WriterCall) → AllFit w cs → AllFit (after_all w cs) ds → AllFit w (cs ++ ds)
fit-append w [] ds h g = g
fit-append w (c ∷ cs) ds h g = (h.0, fit-append (after w c) cs ds h.1 g)

pub fit-front : (w : PlainWriter) (cs ds : List WriterCall) → AllFit w (cs ++ ds) → AllFit w cs
fit-front w [] ds h = tt
fit-front w (c ∷ cs) ds h = (h.0, fit-front (after w c) cs ds h.1)

pub fit-back : (w : PlainWriter) (cs ds : List WriterCall) → AllFit w (cs ++ ds) → AllFit (after_all w cs) ds
fit-back w [] ds h = h
fit-back w (c ∷ cs) ds h = fit-back (after w c) cs ds h.1

-- ---- whatever the archive is

within-then : (s t u : State) (e : Option MergeFault) → t.cursor.length ≡ s.cursor.length → s.cursor.at ≤ t.cursor.at → t.cursor.at ≤ u.cursor.at → t.cursor.at ≤ t.cursor.length → (t.cursor.at - s.cursor.at) + may_pull t u e ≤ may_pull s u e
within-then s t u None same first second within = omega (arith, first, second)
within-then s t u (Some e) same first second within = omega (arith, same, first, within)

pulls-then : (s t u : State) (e : Option MergeFault) → (t.cursor.at - s.cursor.at) + may_pull t u e ≤ may_pull s u e → PullsAndDrafts (may_pull s t None) s.numbers t.numbers → PullsAndDrafts (may_pull t u e) t.numbers u.numbers
    → PullsAndDrafts (may_pull s u e) s.numbers u.numbers
pulls-then s t u e fits h g = PullsAndDrafts-more ((t.cursor.at - s.cursor.at) + may_pull t u e) (may_pull s u e) s.numbers u.numbers fits (PullsAndDrafts-trans (t.cursor.at - s.cursor.at) (may_pull t u e) s.numbers t.numbers u.numbers h g)

pub cause-then : (a b c : ℕ) (e : Option MergeFault) → a ≤ b → b ≤ c → IfFolder e (Rose b c) → IfFolder e (Rose a c)
cause-then a b c None first second h = tt
cause-then a b c (Some Folder) first second h = omega (arith, first, second, h)
cause-then a b c (Some Damage) first second h = tt
cause-then a b c (Some TooLong) first second h = tt
cause-then a b c (Some Memory) first second h = tt

ahead-then : (x y z : Numbers) (e : Option MergeFault) (a b m : ℕ) → a + b ≤ m → lead y ≤ lead x + a → Unless e (lead z ≤ lead y + b) → Unless e (lead z ≤ lead x + m)
ahead-then x y z None a b m le h g = omega (arith, le, h, g)
ahead-then x y z (Some e) a b m le h g = tt

pub passes-then : (x y : List ℕ) (s t u : State) (e : Option MergeFault) (a b m : ℕ) → a + b ≤ m → Passes x a s t None → Passes y b t u e → Passes (x ++ y) m s u e
passes-then x y s t u e a b m le h g = record {
  same_files = g.same_files ∙ h.same_files;
  lengthens = lengthens-then s.draft t.draft u.draft x y h.lengthens g.lengthens;
  later = (let x = h.later in let y = g.later in omega (arith, x, y));
  cause = cause-then s.faults t.faults u.faults e h.later g.later g.cause;
  same_name = g.same_name ∙ h.same_name;
  same_length = g.same_length ∙ h.same_length;
  onward = (let x = h.onward in let y = g.onward in omega (arith, x, y));
  within = g.within;
  pulls = pulls-then s t u e (within-then s t u e h.same_length h.onward g.onward h.within) h.pulls g.pulls;
  ahead = ahead-then s.numbers t.numbers u.numbers e a b m le h.ahead g.ahead;
}

ahead-more : (x y : Numbers) (e : Option MergeFault) (a b : ℕ) → a ≤ b → Unless e (lead y ≤ lead x + a) → Unless e (lead y ≤ lead x + b)
ahead-more x y None a b le h = omega (arith, le, h)
ahead-more x y (Some e) a b le h = tt

-- the same bytes, written in another way
pub passes-as : (x y : List ℕ) (m : ℕ) (s t : State) (e : Option MergeFault) → x ≡ y → Passes x m s t e → Passes y m s t e
passes-as x y m s t e is h = subst (λ (z : List ℕ). Passes z m s t e) is h

pub passes-more : (x : List ℕ) (s t : State) (e : Option MergeFault) (a b : ℕ) → a ≤ b → Passes x a s t e → Passes x b s t e
passes-more x s t e a b le h = record {
  same_files = h.same_files;
  lengthens = h.lengthens;
  later = h.later;
  cause = h.cause;
  same_name = h.same_name;
  same_length = h.same_length;
  onward = h.onward;
  within = h.within;
  pulls = h.pulls;
  ahead = ahead-more s.numbers t.numbers e a b le h.ahead;
}

-- after a fault nothing is said of what was read ahead
pub passes-fault : (x : List ℕ) (s t : State) (e : MergeFault) (a b : ℕ) → Passes x a s t (Some e) → Passes x b s t (Some e)
passes-fault x s t e a b h = record {
  same_files = h.same_files;
  lengthens = h.lengthens;
  later = h.later;
  cause = h.cause;
  same_name = h.same_name;
  same_length = h.same_length;
  onward = h.onward;
  within = h.within;
  pulls = h.pulls;
  ahead = tt;
}

pub passes-none : (s : State) (e : Option MergeFault) → IsMeter s.numbers → s.cursor.at ≤ s.cursor.length → e ≢ Some Folder → Passes [] 0 s s e
passes-none s e meter h n = record {
  same_files = refl;
  lengthens = lengthens-none s.draft s.draft refl;
  later = omega arith;
  cause = no-cause e n;
  same_name = refl;
  same_length = refl;
  onward = omega arith;
  within = h;
  pulls = PullsAndDrafts-none (may_pull s s e) s.numbers meter;
  ahead = no-more s.numbers e;
}
  where
    no-cause : (e : Option MergeFault) → e ≢ Some Folder → IfFolder e (Rose s.faults s.faults)
    no-cause None n = tt
    no-cause (Some Folder) n = absurd (n refl)
    no-cause (Some Damage) n = tt
    no-cause (Some TooLong) n = tt
    no-cause (Some Memory) n = tt

    no-more : (x : Numbers) (e : Option MergeFault) → Unless e (lead x ≤ lead x + 0)
    no-more x None = omega arith
    no-more x (Some e) = tt

-- ---- calls of the writer

pub made-then : (x y : List ℕ) (s t u : State) (e : Option MergeFault) (cs ds : List WriterCall) → Walks x cs s t → Made y ds t u e → Made (x ++ y) (cs ++ ds) s u e
made-then x y s t u None cs ds h g = record {
  same = (λ i. h.same i ++ g.same i) ∙ ap (λ (v : PlainWriter). all_appended s.writer cs ++ all_appended v ds) h.writer ∙ sym (appended-append s.writer cs ds);
  writer = g.writer ∙ ap (λ (v : PlainWriter). after_all v ds) h.writer ∙ sym (after-append s.writer cs ds);
  fit = fit-append s.writer cs ds h.fit (subst (λ (v : PlainWriter). AllFit v ds) h.writer g.fit);
}
made-then x y s t u (Some TooLong) cs ds h g = λ f. g (subst (λ (v : PlainWriter). AllFit v ds) (sym h.writer) (fit-back s.writer cs ds f))
made-then x y s t u (Some Damage) cs ds h g = g
made-then x y s t u (Some Folder) cs ds h g = tt
made-then x y s t u (Some Memory) cs ds h g = tt

-- a fault before further calls
pub made-fault : (x y : List ℕ) (s t : State) (e : MergeFault) (cs ds : List WriterCall) → Made x cs s t (Some e) → Made y (cs ++ ds) s t (Some e)
made-fault x y s t TooLong cs ds h = λ f. h (fit-front s.writer cs ds f)
made-fault x y s t Damage cs ds h = h
made-fault x y s t Folder cs ds h = tt
made-fault x y s t Memory cs ds h = tt

pub walks-none : (s : State) → Walks [] [] s s
walks-none s = record { same = refl; writer = refl; fit = tt }

pub sends-then : (x y : List ℕ) (s t u : State) (e : Option MergeFault) (cs ds : List WriterCall) → Sends x cs s t None → Sends y ds t u e → Sends (x ++ y) (cs ++ ds) s u e
sends-then x y s t u e cs ds h g = record {
  passes = passes-then x y s t u e 0 0 0 (omega arith) h.passes g.passes;
  made = made-then x y s t u e cs ds h.made g.made;
  same_cursor = g.same_cursor ∙ h.same_cursor;
  same_gap = g.same_gap ∙ h.same_gap;
  paid = paid-then e h.paid (subst (λ (v : PlainWriter). Unless e (lead u.numbers ≤ lead t.numbers - length (all_appended v ds))) (let w = h.made in w.writer) g.paid);
}
  where
    paid-then : (e : Option MergeFault) → lead t.numbers ≤ lead s.numbers - length (all_appended s.writer cs)
        → Unless e (lead u.numbers ≤ lead t.numbers - length (all_appended (after_all s.writer cs) ds)) → Unless e (lead u.numbers ≤ lead s.numbers - length (all_appended s.writer (cs ++ ds)))
    paid-then None a b =
        let long : length (all_appended s.writer (cs ++ ds)) ≡ length (all_appended s.writer cs) + length (all_appended (after_all s.writer cs) ds) =
        ap length (appended-append s.writer cs ds) ∙ length-append (all_appended s.writer cs) (all_appended (after_all s.writer cs) ds) in
        omega (arith, long, a, b)
    paid-then (Some e) a b = tt

pub sends-fault : (x : List ℕ) (s t : State) (e : MergeFault) (cs ds : List WriterCall) → Sends x cs s t (Some e) → Sends x (cs ++ ds) s t (Some e)
sends-fault x s t e cs ds h = record { passes = h.passes; made = made-fault x x s t e cs ds h.made; same_cursor = h.same_cursor; same_gap = h.same_gap; paid = tt }

-- where one of the calls does not fit
stops-then : (x y : List ℕ) (s t : State) (cs ds : List WriterCall) (e : Option MergeFault) → Walks x cs s t → StopsIf y ds t.writer e → StopsIf (x ++ y) (cs ++ ds) s.writer e
stops-then x y s t cs ds None h g = tt
stops-then x y s t cs ds (Some TooLong) h g = record {
  made = cs ++ g.made;
  next = g.next;
  others = g.others;
  walk = ap (λ (z : List WriterCall). cs ++ z) g.walk ∙ sym (append_assoc cs g.made (g.next ∷ g.others));
  same = (λ i. h.same i ++ g.same i) ∙ ap (λ (v : PlainWriter). all_appended s.writer cs ++ all_appended v g.made) h.writer ∙ sym (appended-append s.writer cs g.made);
  fit = fit-append s.writer cs g.made h.fit (subst (λ (v : PlainWriter). AllFit v g.made) h.writer g.fit);
  over = subst (λ (v : PlainWriter). ¬ (Fits v g.next)) (ap (λ (v : PlainWriter). after_all v g.made) h.writer ∙ sym (after-append s.writer cs g.made)) g.over;
}
stops-then x y s t cs ds (Some Damage) h g = tt
stops-then x y s t cs ds (Some Folder) h g = tt
stops-then x y s t cs ds (Some Memory) h g = tt

stops-fault : (x : List ℕ) (v : PlainWriter) (cs ds : List WriterCall) (e : MergeFault) → StopsIf x cs v (Some e) → StopsIf x (cs ++ ds) v (Some e)
stops-fault x v cs ds TooLong h = record { made = h.made; next = h.next; others = h.others ++ ds; walk = ap (λ (z : List WriterCall). z ++ ds) h.walk ∙ append_assoc h.made (h.next ∷ h.others) ds; same = h.same; fit = h.fit; over = h.over }
stops-fault x v cs ds Damage h = tt
stops-fault x v cs ds Folder h = tt
stops-fault x v cs ds Memory h = tt

pub sent-then : (s t u : State) (e : Option MergeFault) (cs ds : List WriterCall) → Sent cs s t None → Sent ds t u e → Sent (cs ++ ds) s u e
sent-then s t u e cs ds h g = record { appended = h.appended ++ g.appended; sends = sends-then h.appended g.appended s t u e cs ds h.sends g.sends; stops = (let a = h.sends in stops-then h.appended g.appended s t cs ds e a.made g.stops) }

pub sent-fault : (s t : State) (e : MergeFault) (cs ds : List WriterCall) → Sent cs s t (Some e) → Sent (cs ++ ds) s t (Some e)
sent-fault s t e cs ds h = record { appended = h.appended; sends = sends-fault h.appended s t e cs ds h.sends; stops = stops-fault h.appended s.writer cs ds e h.stops }

-- ---- what comes, and how far what was read is ahead

comes-on : (s t : State) (next : List PlainItem) → t.files ≡ s.files → t.cursor ≡ s.cursor → Comes s.files s.cursor next → Comes t.files t.cursor next
comes-on s t next f c h = subst (λ (x : Option Files). Comes x t.cursor next) (sym f) (subst (λ (x : PlainCursor). Comes s.files x next) (sym c) h)

follows-sent : (s t : State) (e : Option MergeFault) (next : List PlainItem) → t.files ≡ s.files → t.cursor ≡ s.cursor → Comes s.files s.cursor next → Unless e (Comes t.files t.cursor next)
follows-sent s t None next f c h = comes-on s t next f c h
follows-sent s t (Some e) next f c h = tt

pub sends-does : (x : List ℕ) (s t : State) (e : Option MergeFault) (w : ℕ) (cs : List WriterCall) (next : List PlainItem) → Comes s.files s.cursor next → Sends x cs s t e → Does x w cs next s t e
sends-does x s t e w cs next comes h = record {
  made = h.made;
  follows = (let p = h.passes in follows-sent s t e next p.same_files h.same_cursor comes);
  gap = (let a = h.same_gap in omega (arith, a));
}

-- one part behind another that left no more unpaid
pub does-as : (x y : List ℕ) (w : ℕ) (cs : List WriterCall) (next : List PlainItem) (s t : State) (e : Option MergeFault) → x ≡ y → Does x w cs next s t e → Does y w cs next s t e
does-as x y w cs next s t e is h = subst (λ (z : List ℕ). Does z w cs next s t e) is h

pub does-then : (x y : List ℕ) (s t u : State) (e : Option MergeFault) (w : ℕ) (cs ds : List WriterCall) (mid next : List PlainItem) → lead t.numbers ≤ lead s.numbers → Does x w cs mid s t None → Does y w ds next t u e → Does (x ++ y) w (cs ++ ds) next s u e
does-then x y s t u e w cs ds mid next l h g = record {
  made = made-then x y s t u e cs ds h.made g.made;
  follows = g.follows;
  gap = (let a = h.gap in let b = g.gap in omega (arith, l, a, b));
}

-- one part behind another, where the other only writes
pub does-sends : (x y : List ℕ) (s t u : State) (e : Option MergeFault) (w : ℕ) (cs ds : List WriterCall) (next : List PlainItem) → Does x w cs next s t None → Sends y ds t u e → Does (x ++ y) w (cs ++ ds) next s u e
does-sends x y s t u e w cs ds next h g = record {
  made = made-then x y s t u e cs ds h.made g.made;
  follows = (let p = g.passes in follows-sent t u e next p.same_files g.same_cursor h.follows);
  gap = (let a = g.same_gap in let b = h.gap in omega (arith, a, b));
}

pub does-fault : (x y : List ℕ) (s t : State) (e : MergeFault) (w : ℕ) (cs ds : List WriterCall) (mid next : List PlainItem) → Does x w cs mid s t (Some e) → Does y w (cs ++ ds) next s t (Some e)
does-fault x y s t e w cs ds mid next h = record { made = made-fault x y s t e cs ds h.made; follows = tt; gap = h.gap }

-- ---- one call of the writer

-- the fault of a call
abbrev pub written : Result (Unit {0}) WriteFault → Option MergeFault
written (Ok v) = None
written (Err e) = Some (of_writer e)

-- the numbers where so many bytes more were written
pub record Wrote (n : ℕ) (x y : Numbers) : Type 0 where
  pub counts : PullsAndDrafts 0 x y
  pub same_gap : y.gap ≡ x.gap
  pub less : lead y ≤ lead x - n

pub wrote-all : (n : ℕ) (x y : Numbers) → IsMeter x → y ≡ after_draft x n → Wrote n x y
wrote-all n x y is e = record {
  counts = PullsAndDrafts-of_draft 0 n x y is e;
  same_gap = ap (λ (m : Numbers). m.gap) e;
  less = (
      let small = is.since_small in
      let drafted = ap (λ (m : Numbers). m.drafted) e in
      let since = ap (λ (m : Numbers). m.since) e in
      omega (arith, small, drafted, since));
}

wrote-none : (x y : Numbers) → IsMeter x → y ≡ x → Wrote 0 x y
wrote-none x y is e = record {
  counts = subst (λ (m : Numbers). PullsAndDrafts 0 x m) (sym e) (PullsAndDrafts-none 0 x is);
  same_gap = ap (λ (m : Numbers). m.gap) e;
  less = (let l = ap lead e in omega (arith, l));
}

-- a state in which only the writer, the draft, the numbers and the count of faults are others
wrote-passes : (x : List ℕ) (n : ℕ) (s t : State) (e : Option MergeFault) → s.cursor.at ≤ s.cursor.length → t.cursor ≡ s.cursor → t.files ≡ s.files → t.draft ≡ option_map (λ (d : List ℕ). d ++ x) s.draft → s.faults ≤ t.faults → IfFolder e (Rose s.faults t.faults) → Wrote n s.numbers t.numbers
    → Passes x 0 s t e
wrote-passes x n s t e within same files longer later cause h = record {
  same_files = files;
  lengthens = longer;
  later = later;
  cause = cause;
  same_name = ap (λ (c : PlainCursor). c.name) same;
  same_length = ap (λ (c : PlainCursor). c.length) same;
  onward = (let at = ap (λ (c : PlainCursor). c.at) same in omega (arith, at));
  within = subst (λ (c : PlainCursor). c.at ≤ c.length) (sym same) within;
  pulls = PullsAndDrafts-more 0 (may_pull s t e) s.numbers t.numbers (omega arith) h.counts;
  ahead = ahead-by e h.less;
}
  where
    ahead-by : (e : Option MergeFault) → lead t.numbers ≤ lead s.numbers - n → Unless e (lead t.numbers ≤ lead s.numbers + 0)
    ahead-by None l = omega (arith, l)
    ahead-by (Some f) l = tt

-- the call is made, or fails
pub plain-sends : {S : Type 0} (files : S → Option Files) (draft : S → Option (List ℕ)) (numbers : S → Numbers) (faults : S → ℕ) (old new : S) (c : PlainCursor) (v w : PlainWriter) (call : WriterCall)
    (r : Result (Unit {0}) WriteFault) → IsMeter (numbers old) → c.at ≤ c.length
    → Appends files draft numbers faults old new (appended v call) r → OnOk r (w ≡ after v call) → TooLongUnless (Fits v call) r
    → Sent (call ∷ []) (beside files draft numbers faults old c v) (beside files draft numbers faults new c w) (written r)
plain-sends files draft numbers faults old new c v w call (Ok x) meter within did is fits =
    let long : length (all_appended v (call ∷ [])) ≡ length (appended v call) = ap length (append-nil (appended v call)) in
    let g = did.gains in
    let wrote : Wrote (length (appended v call)) (numbers old) (numbers new) = wrote-all (length (appended v call)) (numbers old) (numbers new) meter g.numbers in
    record {
      appended = appended v call;
      sends = record {
        passes = wrote-passes (appended v call) (length (appended v call)) (beside files draft numbers faults old c v) (beside files draft numbers faults new c w) None within refl did.same_files g.draft did.later tt wrote;
        made = record { same = sym (append-nil (appended v call)); writer = is; fit = (fits, tt) };
        same_cursor = refl;
        same_gap = wrote.same_gap;
        paid = (let l = wrote.less in omega (arith, long, l));
      };
      stops = tt;
    }
plain-sends files draft numbers faults old new c v w call (Err writer.TooLong) meter within did is fits =
    let wrote : Wrote 0 (numbers old) (numbers new) = wrote-none (numbers old) (numbers new) meter did.gains.1 in
    record {
      appended = [];
      sends = record {
        passes = wrote-passes [] 0 (beside files draft numbers faults old c v) (beside files draft numbers faults new c w) (Some TooLong) within refl did.same_files (lengthens-none (draft old) (draft new) did.gains.0) did.later tt wrote;
        made = λ f. fits f.0;
        same_cursor = refl;
        same_gap = wrote.same_gap;
        paid = tt;
      };
      stops = record { made = []; next = call; others = []; walk = refl; same = refl; fit = tt; over = fits };
    }
plain-sends files draft numbers faults old new c v w call (Err writer.Folder) meter within did is fits =
    let g = did.gains in
    let d = g.drafts in
    let piece : List ℕ = take g.count (appended v call) in
    let wrote : Wrote (length piece) (numbers old) (numbers new) = wrote-all (length piece) (numbers old) (numbers new) meter d.numbers in
    record {
      appended = piece;
      sends = record {
        passes = wrote-passes piece (length piece) (beside files draft numbers faults old c v) (beside files draft numbers faults new c w) (Some Folder) within refl did.same_files d.draft did.later did.cause wrote;
        made = tt;
        same_cursor = refl;
        same_gap = wrote.same_gap;
        paid = tt;
      };
      stops = tt;
    }
plain-sends files draft numbers faults old new c v w call (Err writer.Memory) meter within did is fits =
    let wrote : Wrote 0 (numbers old) (numbers new) = wrote-none (numbers old) (numbers new) meter did.gains.1 in
    record {
      appended = [];
      sends = record {
        passes = wrote-passes [] 0 (beside files draft numbers faults old c v) (beside files draft numbers faults new c w) (Some Memory) within refl did.same_files (lengthens-none (draft old) (draft new) did.gains.0) did.later tt wrote;
        made = tt;
        same_cursor = refl;
        same_gap = wrote.same_gap;
        paid = tt;
      };
      stops = tt;
    }

pub call-sends : {S : Type 0} (files : S → Option Files) (draft : S → Option (List ℕ)) (numbers : S → Numbers) (faults : S → ℕ) (old new : S) (c : PlainCursor) (v w : Writer) (call : WriterCall)
    (r : Result (Unit {0}) WriteFault) → IsMeter (numbers old) → c.at ≤ c.length
    → Appends files draft numbers faults old new (appended (writer_view v) call) r → OnOk r (writer_view w ≡ after (writer_view v) call) → TooLongUnless (Fits (writer_view v) call) r
    → Sent (call ∷ []) (state files draft numbers faults old c v) (state files draft numbers faults new c w) (written r)
call-sends files draft numbers faults old new c v w call r = plain-sends files draft numbers faults old new c (writer_view v) (writer_view w) call r

-- nothing is done where memory fails before the call
pub sent-none : (s : State) (cs : List WriterCall) → IsMeter s.numbers → s.cursor.at ≤ s.cursor.length → Sent cs s s (Some Memory)
sent-none s cs meter within = record { appended = []; sends = record { passes = passes-none s (Some Memory) meter within (λ e. absurd cc); made = tt; same_cursor = refl; same_gap = refl; paid = tt }; stops = tt }

-- ---- one call of the cursor

-- the item was read, and nothing else was done
pub next-passes : {told : Option Files} (s t : State) (item : Item) → t.files ≡ s.files → t.draft ≡ s.draft → t.numbers ≡ after_pull s.numbers (read_for s.cursor.standing (shown_item item)) → s.faults ≤ t.faults → Goes told s.cursor item t.cursor
    → Passes [] (read_for s.cursor.standing (shown_item item)) s t None
next-passes s t item files draft is later goes =
    let size = read-size s.cursor.standing (shown_item item) in
    let moved = goes.moved in
    let since = ap (λ (m : Numbers). m.since) is in
    let drafted = ap (λ (m : Numbers). m.drafted) is in
    record {
      same_files = files;
      lengthens = lengthens-none s.draft t.draft draft;
      later = later;
      cause = tt;
      same_name = goes.same_name;
      same_length = goes.same_length;
      onward = omega (arith, moved);
      within = goes.within;
      pulls = PullsAndDrafts-of_pulls (t.cursor.at - s.cursor.at) s.numbers t.numbers (PullsAtMost-of (t.cursor.at - s.cursor.at) (read_for s.cursor.standing (shown_item item)) s.numbers t.numbers (omega (arith, moved, size)) is);
      ahead = omega (arith, since, drafted);
    }

cause-read : (e : CursorFault) (P : Type 0) → cursor.IfFolder e P → IfFolder (Some (of_cursor e)) P
cause-read read.Damage P h = tt
cause-read read.Folder P h = h
cause-read read.Memory P h = tt

-- nothing was read that counts
pub next-fault : (s t : State) (e : CursorFault) (m : ℕ) → s.cursor.at ≤ s.cursor.length → t.files ≡ s.files → t.draft ≡ s.draft → PullsAtMost (s.cursor.length - s.cursor.at) s.numbers t.numbers → s.faults ≤ t.faults
    → cursor.IfFolder e (Rose s.faults t.faults) → t.cursor ≡ s.cursor → Passes [] m s t (Some (of_cursor e))
next-fault s t e m within files draft pulls later cause same =
    let at = ap (λ (c : PlainCursor). c.at) same in
    record {
      same_files = files;
      lengthens = lengthens-none s.draft t.draft draft;
      later = later;
      cause = cause-read e (Rose s.faults t.faults) cause;
      same_name = ap (λ (c : PlainCursor). c.name) same;
      same_length = ap (λ (c : PlainCursor). c.length) same;
      onward = omega (arith, at);
      within = subst (λ (c : PlainCursor). c.at ≤ c.length) (sym same) within;
      pulls = PullsAndDrafts-of_pulls (s.cursor.length - s.cursor.at) s.numbers t.numbers pulls;
      ahead = tt;
    }

-- The item that comes was given, and no more than it was read.
pub record Takes (w : ℕ) (i : PlainItem) (is : List PlainItem) (s t : State) (item : PlainItem) : Type 0 where
  pub given : item ≡ i
  pub comes : Comes t.files t.cursor is
  pub gap : t.numbers.gap ≤ max s.numbers.gap (lead s.numbers + w)
  pub same_writer : t.writer ≡ s.writer

pub gap-read : (w : ℕ) (i : PlainItem) (c : Standing) (x y : Numbers) → IsWithin w i → PullsAtMost (read_for c i) x y → y.gap ≤ max x.gap (lead x + w)
gap-read w i c x y small pulls =
    let few = pulls.within in
    let gap = ap (λ (m : Numbers). m.gap) pulls.pulled in
    let width = small c in
    omega (arith, few, gap, width)

-- an item where one comes that is told
pub takes : (w : ℕ) (i : PlainItem) (is : List PlainItem) (s t : State) (item : Item) → IsWithin w i → t.files ≡ s.files → t.writer ≡ s.writer → PullsAtMost (read_for s.cursor.standing i) s.numbers t.numbers
    → Goes s.files s.cursor item t.cursor → Comes s.files s.cursor (i ∷ is) → Takes w i is s t (shown_item item)
takes w i is s t item small files same reads goes h =
    let both = comes-next s.files s.cursor t.cursor item i is goes h in
    record {
      given = both.0;
      comes = subst (λ (x : Option Files). Comes x t.cursor is) (sym files) both.1;
      gap = gap-read w i s.cursor.standing s.numbers t.numbers small reads;
      same_writer = same;
    }

-- a fault where an item comes that is told
pub takes-fault : (x : List ℕ) (w : ℕ) (i : PlainItem) (cs : List WriterCall) (next : List PlainItem) (s t : State) (e : CursorFault) → IsWithin w i → cursor.IfDamage e ⊥ → PullsAtMost (read_for s.cursor.standing i) s.numbers t.numbers → Does x w cs next s t (Some (of_cursor e))
takes-fault x w i cs next s t e small whole reads = record {
  made = none-made e whole;
  follows = tt;
  gap = gap-read w i s.cursor.standing s.numbers t.numbers small reads;
}
  where
    none-made : (e : CursorFault) → cursor.IfDamage e ⊥ → Made x cs s t (Some (of_cursor e))
    none-made read.Damage h = h
    none-made read.Folder h = tt
    none-made read.Memory h = tt

-- memory fails behind an item
pub takes-memory : (x : List ℕ) (w : ℕ) (i : PlainItem) (is : List PlainItem) (s t : State) (item : PlainItem) (cs : List WriterCall) (next : List PlainItem) → Takes w i is s t item → Does x w cs next s t (Some Memory)
takes-memory x w i is s t item cs next h = record { made = tt; follows = tt; gap = h.gap }

-- an item to which nothing is written
pub takes-only : (w : ℕ) (i : PlainItem) (is : List PlainItem) (s t : State) (item : PlainItem) → Takes w i is s t item → Does [] w [] is s t None
takes-only w i is s t item h = record {
  made = record { same = refl; writer = h.same_writer; fit = tt };
  follows = h.comes;
  gap = h.gap;
}

made-before : (x : List ℕ) (s t u : State) (cs : List WriterCall) (e : Option MergeFault) → t.writer ≡ s.writer → Made x cs t u e → Made x cs s u e
made-before x s t u cs None w h = record {
  same = h.same ∙ ap (λ (v : PlainWriter). all_appended v cs) w;
  writer = h.writer ∙ ap (λ (v : PlainWriter). after_all v cs) w;
  fit = subst (λ (v : PlainWriter). AllFit v cs) w h.fit;
}
made-before x s t u cs (Some TooLong) w h = λ f. h (subst (λ (v : PlainWriter). AllFit v cs) (sym w) f)
made-before x s t u cs (Some Damage) w h = h
made-before x s t u cs (Some Folder) w h = tt
made-before x s t u cs (Some Memory) w h = tt

-- an item, and calls for it that read nothing
pub takes-sends : (x : List ℕ) (w : ℕ) (i : PlainItem) (is : List PlainItem) (s t u : State) (item : PlainItem) (cs : List WriterCall) (e : Option MergeFault) → Takes w i is s t item → Sends x cs t u e → Does x w cs is s u e
takes-sends x w i is s t u item cs e h g = record {
  made = made-before x s t u cs e h.same_writer g.made;
  follows = (let p = g.passes in follows-sent t u e is p.same_files g.same_cursor h.comes);
  gap = (let a = g.same_gap in let b = h.gap in omega (arith, a, b));
}

-- what was read for an item is written again, and nothing stays unpaid
pub passes-paid : (x y : List ℕ) (n : ℕ) (s t u : State) (cs : List WriterCall) (e : Option MergeFault) → n ≤ length (all_appended t.writer cs) → Passes x n s t None → Sends y cs t u e → Passes (x ++ y) 0 s u e
passes-paid x y n s t u cs e le h g =
    let after : Passes (x ++ y) n s u e = passes-then x y s t u e n 0 n (omega arith) h g.passes in
    record {
      same_files = after.same_files;
      lengthens = after.lengthens;
      later = after.later;
      cause = after.cause;
      same_name = after.same_name;
      same_length = after.same_length;
      onward = after.onward;
      within = after.within;
      pulls = after.pulls;
      ahead = ahead-by e g.paid;
    }
  where
    ahead-by : (e : Option MergeFault) → Unless e (lead u.numbers ≤ lead t.numbers - length (all_appended t.writer cs)) → Unless e (lead u.numbers ≤ lead s.numbers + 0)
    ahead-by None p = (let a = h.ahead in omega (arith, a, p, le))
    ahead-by (Some f) p = tt

-- behind an item no call is made
pub passes-stop : (x : List ℕ) (n m : ℕ) (s t : State) (f : MergeFault) → IsMeter t.numbers → f ≢ Folder → t.cursor.at ≤ t.cursor.length → Passes x n s t None → Passes x m s t (Some f)
passes-stop x n m s t f meter not within h =
    passes-fault x s t f n m (passes-as (x ++ []) x n s t (Some f) (append-nil x) (passes-then x [] s t t (Some f) n 0 n (omega arith) h (passes-none t (Some f) meter within (λ e. not (some_is f Folder e)))))

-- ---- a call of the cursor, and what comes next

-- it gave the item
pub record Nexts (s t : State) (item : Item) : Type 0 where
  pub files : t.files ≡ s.files
  pub draft : t.draft ≡ s.draft
  pub writer : t.writer ≡ s.writer
  pub numbers : t.numbers ≡ after_pull s.numbers (read_for s.cursor.standing (shown_item item))
  pub later : s.faults ≤ t.faults
  pub goes : Goes s.files s.cursor item t.cursor
  pub meter : IsMeter t.numbers
  pub reads : (i : PlainItem) (is : List PlainItem) → Comes s.files s.cursor (i ∷ is) → PullsAtMost (read_for s.cursor.standing i) s.numbers t.numbers

-- it failed
pub record Stays (s t : State) (e : CursorFault) : Type 0 where
  pub files : t.files ≡ s.files
  pub draft : t.draft ≡ s.draft
  pub pulls : PullsAtMost (s.cursor.length - s.cursor.at) s.numbers t.numbers
  pub later : s.faults ≤ t.faults
  pub cause : cursor.IfFolder e (Rose s.faults t.faults)
  pub same : t.cursor ≡ s.cursor
  pub undamaged : (i : PlainItem) (is : List PlainItem) → Comes s.files s.cursor (i ∷ is) → cursor.IfDamage e ⊥
  pub reads : (i : PlainItem) (is : List PlainItem) → Comes s.files s.cursor (i ∷ is) → PullsAtMost (read_for s.cursor.standing i) s.numbers t.numbers

-- the first of some items, for which few bytes are read
pub record Front (w : ℕ) (is : List PlainItem) : Type 0 where
  pub item : PlainItem
  pub behind : List PlainItem
  pub stand : is ≡ item ∷ behind
  pub small : IsWithin w item

pub front-of : (w : ℕ) (is : List PlainItem) (last : PlainItem) (next : List PlainItem) → AllByRecursion (IsWithin w) (is ++ last ∷ []) → Front w (is ++ last ∷ next)
front-of w [] last next h = record { item = last; behind = next; stand = refl; small = h.0 }
front-of w (i ∷ is) last next h = record { item = i; behind = is ++ last ∷ next; stand = refl; small = h.0 }

pub gave : (s t : State) (item : Item) → Nexts s t item → Passes [] (read_for s.cursor.standing (shown_item item)) s t None
gave s t item h = next-passes s t item h.files h.draft h.numbers h.later h.goes

pub gave-takes : (w : ℕ) (i : PlainItem) (is : List PlainItem) (s t : State) (item : Item) → Nexts s t item → IsWithin w i → Comes s.files s.cursor (i ∷ is) → Takes w i is s t (shown_item item)
gave-takes w i is s t item h small comes = takes w i is s t item small h.files h.writer (h.reads i is comes) h.goes comes

-- the item was given, and then the merge stops
pub gave-stop : (m : ℕ) (s t : State) (item : Item) (f : MergeFault) → f ≢ Folder → Nexts s t item → Passes [] m s t (Some f)
gave-stop m s t item f not h = passes-stop [] (read_for s.cursor.standing (shown_item item)) m s t f h.meter not (let g = h.goes in g.within) (gave s t item h)

pub gave-memory : (x : List ℕ) (w : ℕ) (is : List PlainItem) (s t : State) (item : Item) (cs : List WriterCall) (next : List PlainItem) → Nexts s t item → Front w is → Comes s.files s.cursor is → Does x w cs next s t (Some Memory)
gave-memory x w is s t item cs next h f comes =
    takes-memory x w f.item f.behind s t (shown_item item) cs next (gave-takes w f.item f.behind s t item h f.small (subst (λ (xs : List PlainItem). Comes s.files s.cursor xs) f.stand comes))

-- the item was given, and calls were made for it that read nothing
pub gave-sent : (x : List ℕ) (s t u : State) (item : Item) (cs : List WriterCall) (e : Option MergeFault) → read_for s.cursor.standing (shown_item item) ≤ length (all_appended t.writer cs) → Nexts s t item → Sends x cs t u e → Passes x 0 s u e
gave-sent x s t u item cs e le h g = passes-paid [] x (read_for s.cursor.standing (shown_item item)) s t u cs e le (gave s t item h) g

pub failed : (m : ℕ) (s t : State) (e : CursorFault) → s.cursor.at ≤ s.cursor.length → Stays s t e → Passes [] m s t (Some (of_cursor e))
failed m s t e within h = next-fault s t e m within h.files h.draft h.pulls h.later h.cause h.same

pub failed-does : (x : List ℕ) (w : ℕ) (is : List PlainItem) (s t : State) (e : CursorFault) (cs : List WriterCall) (next : List PlainItem) → Stays s t e → Front w is → Comes s.files s.cursor is → Does x w cs next s t (Some (of_cursor e))
failed-does x w is s t e cs next h f comes =
    let here = subst (λ (xs : List PlainItem). Comes s.files s.cursor xs) f.stand comes in
    takes-fault x w f.item cs next s t e f.small (h.undamaged f.item f.behind here) (h.reads f.item f.behind here)

-- ---- what the code hands on

-- the fault that was made of another
pub fault-from : {T : Type 0} (r : Result T MergeFault) (f : MergeFault) → IsErrAnd r (λ d. d ≡ f) → fault_of r ≡ Some f
fault-from (Ok x) f h = absurd h
fault-from (Err d) f h = ap Some h

pub does-none : (w : ℕ) (next : List PlainItem) (s : State) → Comes s.files s.cursor next → Does [] w [] next s s None
does-none w next s comes = record { made = walks-none s; follows = comes; gap = omega arith }

-- the call of the cursor gave the item, by its clauses
pub nexts : (s t : State) (r : Result Item CursorFault) (item : Item) → IsMeter t.numbers → r ≡ Ok item → t.files ≡ s.files → t.draft ≡ s.draft → t.writer ≡ s.writer → t.numbers ≡ after_pull s.numbers (read_for s.cursor.standing (shown_item item)) → s.faults ≤ t.faults
    → ((i : PlainItem) (is : List PlainItem) → Comes s.files s.cursor (i ∷ is) → PullsAtMost (read_for s.cursor.standing i) s.numbers t.numbers) → Moves s.files s.cursor r t.cursor → Nexts s t item
nexts s t r item meter is files draft same numbers later reads moves = record { meter = meter; files = files; draft = draft; writer = same; numbers = numbers; later = later; goes = went s.files s.cursor t.cursor r item is moves; reads = reads }

-- the call of the cursor failed, by its clauses
pub stays-by : (s t : State) (r : Result Item CursorFault) (e : CursorFault) → r ≡ Err e → t.files ≡ s.files → t.draft ≡ s.draft → PullsAtMost (s.cursor.length - s.cursor.at) s.numbers t.numbers → s.faults ≤ t.faults → cursor.IfFolder e (Rose s.faults t.faults)
    → ((i : PlainItem) (is : List PlainItem) → Comes s.files s.cursor (i ∷ is) → cursor.IfDamage e ⊥) → ((i : PlainItem) (is : List PlainItem) → Comes s.files s.cursor (i ∷ is) → PullsAtMost (read_for s.cursor.standing i) s.numbers t.numbers)
    → Moves s.files s.cursor r t.cursor → Stays s t e
stays-by s t r e is files draft pulls later cause undamaged reads moves = record { files = files; draft = draft; pulls = pulls; later = later; cause = cause; same = stayed s.files s.cursor t.cursor r e is moves; undamaged = undamaged; reads = reads }
