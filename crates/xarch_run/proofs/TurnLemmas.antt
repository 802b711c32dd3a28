-- What one line did, from the answer of its command and its status line.
use Rattle.std.proofs.Common.{◌≡◌, ◌≢◌, ◌⊎◌, ◌↔◌, inl, inr, ℕ, ◌==◌, ◌≤◌, ◌<◌, List, [], ◌∷◌, ◌++◌, length, take, nat_le, nat_lt, Bool, true, false, cond, Option, None, Some, Result, Ok, Err, refl, sym, ap, ◌∙◌, subst, arith}
use Rattle.std.specs.FinMap as finite
use Rattle.std.specs.Prelude.{IsSome, MatchBool, MatchOption, option_and_then, if◌then◌else◌}
use Rattle.std.proofs.lemmas.Bool.{eqb-true, leb-true, ltb-false, ltb-true}
use Rattle.std.proofs.Math.Seq.{take-nil}
use Rattle.xa_outside.specs.Causes.{Rose}
use Rattle.xa_outside.specs.CauseLaws.{Rose-later}
use Rattle.xa_outside.specs.Folder.{Files}
use Rattle.xa_outside.specs.Taken.{Taken, Takes, TakesNone, TakesPrefix}
use Rattle.xa_outside.specs.TakenLaws.{Takes-nil, Takes-kept, Takes-trans, TakesPrefix-all}
use Rattle.xarch_words.specs.Commands.{PlainCommand, norm, init, add, rekey, get, history, log, check, stats, versions, export, import, cut, join, table, tablekeys, batch, demo}
use Rattle.xarch_words.specs.Lines.{fault_line, fault_status, refusal_status}
use Rattle.xarch_words.specs.Refusal as refusal
use Rattle.xarch_words.specs.Refusal.{Refusal, usage, damaged, line, limit, PlainFault, refused, folder_fault, out_fault, in_fault, memory}
use Rattle.xarch_words.specs.declared.limits.TheConstants.{DEMO, LINE}
use Rattle.xarch_parts.specs.Ends.{Gained}
use Rattle.xarch_parts.specs.Archives.{GoesOn, free_in}
use Rattle.xarch_meanings.specs.Meanings.{ByWords, MayDo, MayHaveWritten, OnlyReads, said}
use Rattle.xarch_meanings.specs.Demo.{MakesOrNone}
use Rattle.xarch_parts.specs.Outcome.{Outcome, Step, and_then, step_from}
use Rattle.xarch_meanings.specs.Plausible.{IsLate, Plausible, Tried, Wrote, step_behind}
use Rattle.xarch_meanings.specs.PlausibleLaws.{behind-none}
use Rattle.xarch_meanings.specs.Meanings as meanings
use Rattle.xarch_meanings.specs.Ran.{Said, Says, line_after, outside_of, status_after}
use Rattle.xarch_meanings.specs.Step.{single_of}
use Rattle.xarch_run.specs.Batch.{EndsTheBatch, IsPart, RunsOver, scene}
use Rattle.xarch_run.specs.Lines.{is_blank, without_blanks}
use Rattle.xarch_run.specs.Steps.{CommandAnswers, IsLongDemo, IsStep, line_command, LineAnswers, LineMay, MakesNone, MayFault, MayPrint, RefusesWith, SpelledAnswers, status_line, WordsAnswer, WordsMay}
use Rattle.xarch_run.specs.Turns.{IsLastStatus, IsSilent, IsUntouched, LastStatus, LineFaults, LineRuns, LineStops, LineTakes, LineTried, LineWrote, NoStatus, NoWords, StatusComes, StatusEnds, StatusLost}
use Rattle.xarch_run.specs.Words.{words_of}
use Rattle.xarch_run.proofs.Cuts.{without_blanks-blank, without_blanks-other}
use Rattle.xarch_run.proofs.Runs.{Gains-one, Gains-trans, RunsOver-none, RunsOver-one}
use Rattle.xarch_run.proofs.Statuses.{damage-only, end-outside, end-usage, outside_of-refusal, status-other, usage-only}

-- ---- statuses

-- the line of a fault of the outside
said_outside : (answer : ℕ) (f : PlainFault) (e r : Taken) (x y : ℕ) → Said answer e r x y → outside_of answer ≡ Some f → Says e r x y (fault_line f)
said_outside answer f e r x y said h =
    subst (λ (v : Option PlainFault). Says e r x y (line_after v)) (end-outside said.fault f (ap outside_of (sym said.status) ∙ h)) said.line

-- which faults have their status lines
record Kind (status : ℕ) (fault : PlainFault) : Type 0 where
  kind : EndsTheBatch fault
  is : status ≡ fault_status fault

kind_by : (status : ℕ) (a b c d : Bool) (fault : PlainFault) → (status == 13) ≡ a → (status == 14) ≡ b → (status == 15) ≡ c → (status == 16) ≡ d
    → cond a (Some folder_fault) (cond b (Some out_fault) (cond c (Some in_fault) (cond d (Some memory) None))) ≡ Some fault → status ≢ 14 → status ≢ 15 → Kind status fault
kind_by status true b c d fault p q r s h no_out no_in =
    let same : fault ≡ folder_fault = cc in
    record { kind = inl same; is = eqb-true status 13 p ∙ ap fault_status (sym same) }
kind_by status false true c d fault p q r s h no_out no_in = absurd (no_out (eqb-true status 14 q))
kind_by status false false true d fault p q r s h no_out no_in = absurd (no_in (eqb-true status 15 r))
kind_by status false false false true fault p q r s h no_out no_in =
    let same : fault ≡ memory = cc in
    record { kind = inr same; is = eqb-true status 16 s ∙ ap fault_status (sym same) }
kind_by status false false false false fault p q r s h no_out no_in = cc

kind_of : (status : ℕ) (fault : PlainFault) → outside_of status ≡ Some fault → status ≢ 14 → status ≢ 15 → Kind status fault
kind_of status fault h no_out no_in = kind_by status _ _ _ _ fault refl refl refl refl h no_out no_in

-- ---- the command of a line

takes_by : (f g : Option Files) (l : List ℕ) (answer : ℕ) (o p e r : Taken) (x y : ℕ) (v : Option PlainFault) → outside_of answer ≡ v
    → (outside_of answer ≡ None → LineTried f g l answer o p e r x y) → ((fault : PlainFault) → outside_of answer ≡ Some fault → LineFaults f g l fault o p e r x y)
    → LineTakes f g l answer o p e r x y
takes_by f g l answer o p e r x y None is tried faults =
    subst (λ (v : Option PlainFault). MatchOption v (LineTried f g l answer o p e r x y) (λ fault. LineFaults f g l fault o p e r x y)) (sym is) (tried is)
takes_by f g l answer o p e r x y (Some fault) is tried faults =
    subst (λ (v : Option PlainFault). MatchOption v (LineTried f g l answer o p e r x y) (λ fault. LineFaults f g l fault o p e r x y)) (sym is) (faults fault is)

-- what holds of a line that is short, by its words
by-words : (P : Option (List (List ℕ)) → Type 0) (Q : Type 0) (l : List ℕ) (w : Option (List (List ℕ))) → nat_lt LINE (length l) ≡ false → words_of l ≡ w → P w → MatchBool (nat_lt LINE (length l)) Q (P (words_of l))
by-words P Q l w short is p = subst (λ b. MatchBool b Q (P (words_of l))) (sym short) (subst P (sym is) p)

-- and of one that is too long
by-length : (P : Option (List (List ℕ)) → Type 0) (Q : Type 0) (l : List ℕ) → nat_lt LINE (length l) ≡ true → Q → MatchBool (nat_lt LINE (length l)) Q (P (words_of l))
by-length P Q l long q = subst (λ b. MatchBool b Q (P (words_of l))) (sym long) q

-- the files that are told, or none
abbrev pub files_or_none : Option Files → Files
files_or_none None = finite.empty
files_or_none (Some files) = files

refuses : (files : Files) (q : Refusal) → RefusesWith q (step_from files (Err q))
refuses files q = record { output = refl; line = refl; status = refl }

refused-step : (f g : Option Files) (l : List ℕ) (q : Refusal) → g ≡ f → LineAnswers l (step_from (files_or_none f) (Err q)) → ((a : Files) → LineMay a l (step_from a (Err q))) → IsStep f g l (step_from (files_or_none f) (Err q))
refused-step f g l q same answers may = record { answers = answers; kept = λ _. same; may = λ a b p _. subst (λ (u : Files). LineMay a l (step_from u (Err q))) (sym (ap files_or_none p)) (may a) }

pub long-step : (f g : Option Files) (l : List ℕ) → g ≡ f → nat_lt LINE (length l) ≡ true → IsStep f g l (step_from (files_or_none f) (Err (limit line LINE)))
long-step f g l same long =
    let q = limit line LINE in
    let s = step_from (files_or_none f) (Err q) in
    refused-step f g l q same (by-length (λ w. WordsAnswer w s) (RefusesWith q s) l long (refuses (files_or_none f) q))
    (λ a. by-length (λ w. WordsMay a w (step_from a (Err q))) (step_from a (Err q) ≡ step_from a (Err q)) l long refl)

pub none-step : (f g : Option Files) (l : List ℕ) → g ≡ f → nat_lt LINE (length l) ≡ false → words_of l ≡ None → IsStep f g l (step_from (files_or_none f) (Err usage))
none-step f g l same short is =
    let s = step_from (files_or_none f) (Err usage) in
    refused-step f g l usage same (by-words (λ w. WordsAnswer w s) (RefusesWith (limit line LINE) s) l None short is (refuses (files_or_none f) usage))
    (λ a. by-words (λ w. WordsMay a w (step_from a (Err usage))) (step_from a (Err usage) ≡ step_from a (Err (limit line LINE))) l None short is refl)

-- a line was refused
pub takes-refused : (f g : Option Files) (l : List ℕ) (q : Refusal) (answer : ℕ) (o p e r : Taken) (x y : ℕ)
    → IsStep f g l (step_from (files_or_none f) (Err q)) → answer ≡ fault_status (refused q) → g ≡ f → p ≡ o → Says e r x y (fault_line (refused q)) → LineTakes f g l answer o p e r x y
takes-refused f g l q answer o p e r x y step is same none says =
    let plain : outside_of answer ≡ None = ap outside_of is ∙ outside_of-refusal q in
    takes_by f g l answer o p e r x y None plain
    (λ _. record {
      step = step_from (files_or_none f) (Err q);
      may = step;
      ran = record {
        status = is;
        files = λ h now. sym (ap files_or_none (sym same ∙ now));
        output = subst (λ (u : Taken). Takes o u []) (sym none) (Takes-nil o);
        line = says;
      };
    })
    (λ fault h. cc)

refuses-by : (files : Files) (r : Result Outcome Refusal) (q : Refusal) → r ≡ Err q → RefusesWith q (step_from files r)
refuses-by files r q is = subst (λ (z : Result Outcome Refusal). RefusesWith q (step_from files z)) (sym is) (refuses files q)

-- ---- what words answer

-- a `demo` of too many documents has no other outcome than its refusal
long-refused : (files : Files) (c : Option PlainCommand) (r : Result Outcome Refusal) → IsLongDemo c → MayDo files c r → r ≡ Err (limit refusal.demo DEMO)
long-refused files None r long may = absurd long
long-refused files (Some (norm spec doc)) r long may = absurd long
long-refused files (Some (init archive spec)) r long may = absurd long
long-refused files (Some (add archive doc note)) r long may = absurd long
long-refused files (Some (rekey archive spec)) r long may = absurd long
long-refused files (Some (get archive i)) r long may = absurd long
long-refused files (Some (history archive path)) r long may = absurd long
long-refused files (Some (log archive path)) r long may = absurd long
long-refused files (Some (check archive)) r long may = absurd long
long-refused files (Some (stats archive)) r long may = absurd long
long-refused files (Some (versions archive)) r long may = absurd long
long-refused files (Some (export archive)) r long may = absurd long
long-refused files (Some (import text new)) r long may = absurd long
long-refused files (Some (cut archive new i j)) r long may = absurd long
long-refused files (Some (join one two new)) r long may = absurd long
long-refused files (Some (table csv tag keys doc)) r long may = absurd long
long-refused files (Some (tablekeys tag keys spec)) r long may = absurd long
long-refused files (Some batch) r long may = absurd long
long-refused files (Some (demo seed count archive)) r long may = by_test (nat_le count DEMO) refl
  where
    by_test : (b : Bool) → nat_le count DEMO ≡ b → r ≡ Err (limit refusal.demo DEMO)
    by_test true e = (let few = leb-true count DEMO e in absurd (omega (arith, few, long)))
    by_test false e = subst (λ b. GoesOn (and_then (if b then Ok count else Err (limit refusal.demo DEMO)) (λ _. free_in files archive)) (λ _. MakesOrNone files archive seed count) r) e may

long-or-not : (c : Option PlainCommand) → IsLongDemo c ⊎ ¬ IsLongDemo c
long-or-not None = inr (λ long. long)
long-or-not (Some (norm spec doc)) = inr (λ long. long)
long-or-not (Some (init archive spec)) = inr (λ long. long)
long-or-not (Some (add archive doc note)) = inr (λ long. long)
long-or-not (Some (rekey archive spec)) = inr (λ long. long)
long-or-not (Some (get archive i)) = inr (λ long. long)
long-or-not (Some (history archive path)) = inr (λ long. long)
long-or-not (Some (log archive path)) = inr (λ long. long)
long-or-not (Some (check archive)) = inr (λ long. long)
long-or-not (Some (stats archive)) = inr (λ long. long)
long-or-not (Some (versions archive)) = inr (λ long. long)
long-or-not (Some (export archive)) = inr (λ long. long)
long-or-not (Some (import text new)) = inr (λ long. long)
long-or-not (Some (cut archive new i j)) = inr (λ long. long)
long-or-not (Some (join one two new)) = inr (λ long. long)
long-or-not (Some (table csv tag keys doc)) = inr (λ long. long)
long-or-not (Some (tablekeys tag keys spec)) = inr (λ long. long)
long-or-not (Some batch) = inr (λ long. long)
long-or-not (Some (demo seed count archive)) = by_test (nat_lt DEMO count) refl
  where
    by_test : (b : Bool) → nat_lt DEMO count ≡ b → (DEMO < count) ⊎ ¬ (DEMO < count)
    by_test true e = inl (ltb-true DEMO count e)
    by_test false e = inr (λ long. let few = ltb-false DEMO count e in omega (arith, few, long))

-- an outcome that comes late
record LateAnswer (c : Option PlainCommand) (r : Result Outcome Refusal) : Type 0 where
  name : List ℕ
  is : r ≡ Err (damaged name)
  may : MayHaveWritten c 11

late-answer : (files : Files) (c : Option PlainCommand) (r : Result Outcome Refusal) → IsLate files c r → LateAnswer c r
late-answer files c (Ok o) late = absurd late
late-answer files c (Err q) late = by_late (said c).late refl late
  where
    by_late : (o : Option (List ℕ)) → (said c).late ≡ o → MatchOption o ⊥ (λ name. (q ≡ damaged name) × (said c).Ready files) → LateAnswer c (Err q)
    by_late None is late = absurd late
    by_late (Some name) is late = record { name = name; is = ap (λ z. Err z) late.0; may = subst (λ (v : Option (List ℕ)). MatchOption v ⊥ (λ _. ◌≡◌ {A = ℕ} 11 11)) (sym is) refl }

-- the answer that comes late is that of damage, and no other
late-status : (c : Option PlainCommand) (answer : ℕ) → MayHaveWritten c answer → answer ≡ 11
late-status c answer late = by_late (said c).late late
  where
    by_late : (o : Option (List ℕ)) → MatchOption o ⊥ (λ _. answer ≡ 11) → answer ≡ 11
    by_late None late = absurd late
    by_late (Some name) late = late

eleven-or-not : (answer : ℕ) → (answer ≡ 11) ⊎ ¬ (answer ≡ 11)
eleven-or-not answer = by_test (answer == 11) refl
  where
    by_test : (b : Bool) → (answer == 11) ≡ b → (answer ≡ 11) ⊎ ¬ (answer ≡ 11)
    by_test true e = inl (eqb-true answer 11 e)
    by_test false e = inr (λ same. (let yes : (answer == 11) ≡ true = ap (λ n. n == 11) same in cc))

late-or-not : (c : Option PlainCommand) (answer : ℕ) → MayHaveWritten c answer ⊎ ¬ MayHaveWritten c answer
late-or-not c answer = by_late (said c).late
  where
    by_late : (o : Option (List ℕ)) → MatchOption o ⊥ (λ _. answer ≡ 11) ⊎ ¬ MatchOption o ⊥ (λ _. answer ≡ 11)
    by_late None = inr (λ late. late)
    by_late (Some name) = eleven-or-not answer

-- damage is no limit
late-short : {X : Type 0} (r : Result Outcome Refusal) (name : List ℕ) (q : refusal.PlainQuantity) (n : ℕ) → r ≡ Err (damaged name) → r ≡ Err (limit q n) → X
late-short r name q n e f = absurd cc

-- the step of an outcome answers as it may
spelled-plain : (c : Option PlainCommand) (files : Files) (r : Result Outcome Refusal) → (c ≡ None → r ≡ Err usage) → ((step_from files r).status ≡ 2 → c ≡ None) → (IsLongDemo c → r ≡ Err (limit refusal.demo DEMO))
    → SpelledAnswers c (step_from files r)
spelled-plain None files r none only long = subst (λ (z : Result Outcome Refusal). RefusesWith usage (step_from files z)) (sym (none refl)) (refuses files usage)
spelled-plain (Some command) files (Ok o) none only long = record { is = inl (record { line = refl; status = refl }); long_demo = λ h. refuses-by files (Ok o) (limit refusal.demo DEMO) (long h) }
spelled-plain (Some command) files (Err q) none only long = record {
  is = inr (inl (record {
    refusal = q;
    other = λ is. let no : Some command ≡ None = only (ap refusal_status is) in absurd cc;
    is = refuses files q;
  }));
  long_demo = λ h. refuses-by files (Err q) (limit refusal.demo DEMO) (long h);
}

-- and so does one with a refusal behind output
spelled-late : (c : Option PlainCommand) (files : Files) (written : List ℕ) (r : Result Outcome Refusal) → LateAnswer c r → (IsLongDemo c → r ≡ Err (limit refusal.demo DEMO)) → SpelledAnswers c (step_behind files written r)
spelled-late None files written r late long = absurd late.may
spelled-late (Some command) files written r late long =
    subst (λ (z : Result Outcome Refusal). CommandAnswers command (step_behind files written z)) (sym late.is)
    (record { is = inr (inr (record { may = late.may; name = late.name; line = refl })); long_demo = λ h. late-short r late.name refusal.demo DEMO late.is (long h) })

spelled : (c : Option PlainCommand) (files : Files) (written : List ℕ) (r : Result Outcome Refusal) → (written ≡ []) ⊎ LateAnswer c r → (c ≡ None → r ≡ Err usage) → ((step_behind files written r).status ≡ 2 → c ≡ None)
    → (IsLongDemo c → r ≡ Err (limit refusal.demo DEMO)) → SpelledAnswers c (step_behind files written r)
spelled c files written r (inl nothing) none only long =
    let same : step_behind files written r ≡ step_from files r = ap (λ (w : List ℕ). step_behind files w r) nothing ∙ behind-none files r in
    subst (SpelledAnswers c) (sym same) (spelled-plain c files r none (λ two. only (ap (λ (z : Step). z.status) same ∙ two)) long)
spelled c files written r (inr late) none only long = spelled-late c files written r late long

-- what a call for a command says of the words that it was given, whatever the folder tells
pub record Judged (words : List (List ℕ)) (answer : ℕ) : Type 0 where
  pub none : single_of words ≡ None → answer ≡ 2
  pub only : answer ≡ 2 → single_of words ≡ None
  pub long : IsLongDemo (single_of words) → answer ≡ 12
  pub silent : meanings.IsSilent (single_of words) → outside_of answer ≢ Some out_fault

-- such a `demo` is refused by its words
long-ended : (c : Option PlainCommand) (ended : Option PlainFault) → ByWords c ended → IsLongDemo c → ended ≡ Some (refused (limit refusal.demo DEMO))
long-ended None ended by h = absurd h
long-ended (Some (norm spec doc)) ended by h = absurd h
long-ended (Some (init archive spec)) ended by h = absurd h
long-ended (Some (add archive doc note)) ended by h = absurd h
long-ended (Some (rekey archive spec)) ended by h = absurd h
long-ended (Some (get archive i)) ended by h = absurd h
long-ended (Some (history archive path)) ended by h = absurd h
long-ended (Some (log archive path)) ended by h = absurd h
long-ended (Some (check archive)) ended by h = absurd h
long-ended (Some (stats archive)) ended by h = absurd h
long-ended (Some (versions archive)) ended by h = absurd h
long-ended (Some (export archive)) ended by h = absurd h
long-ended (Some (import text new)) ended by h = absurd h
long-ended (Some (cut archive new i j)) ended by h = absurd h
long-ended (Some (join one two new)) ended by h = absurd h
long-ended (Some (table csv tag keys doc)) ended by h = absurd h
long-ended (Some (tablekeys tag keys spec)) ended by h = absurd h
long-ended (Some batch) ended by h = absurd h
long-ended (Some (demo seed count archive)) ended by h = by h

-- from what a step of the words ended with
module _ (words : List (List ℕ)) (answer : ℕ) (ended : Option PlainFault) (status : answer ≡ status_after ended) (by : ByWords (single_of words) ended) where
  pub judged : (ended ≡ Some (refused usage)) ↔ (single_of words ≡ None) → (meanings.IsSilent (single_of words) → answer ≢ 14) → Judged words answer
  judged is_usage never = record {
    none = λ none. status ∙ ap status_after (is_usage.1 none);
    only = λ two. is_usage.0 (end-usage ended (sym status ∙ two));
    long = λ long. status ∙ ap status_after (long-ended (single_of words) ended by long);
    silent = λ quiet out. never quiet (status ∙ ap status_after (end-outside ended out_fault (ap outside_of (sym status) ∙ out)));
  }

  pub long-says : (e r : Taken) (x y : ℕ) → Says e r x y (line_after ended) → IsLongDemo (single_of words) → Says e r x y (fault_line (refused (limit refusal.demo DEMO)))
  long-says e r x y says long = subst (λ (v : Option PlainFault). Says e r x y (line_after v)) (long-ended (single_of words) ended by long) says

-- a step of the words that has this answer
answered : (words : List (List ℕ)) (answer : ℕ) (files : Files) (written : List ℕ) (r : Result Outcome Refusal) → (written ≡ []) ⊎ LateAnswer (single_of words) r → Judged words answer → answer ≡ (step_behind files written r).status
    → (single_of words ≡ None → r ≡ Err usage) → (IsLongDemo (single_of words) → r ≡ Err (limit refusal.demo DEMO)) → SpelledAnswers (single_of words) (step_behind files written r)
answered words answer files written r behind j is none long = spelled (single_of words) files written r behind none (λ two. j.only (is ∙ two)) long

-- the step behind a fault of the outside, of which some was written
unfinished : (words : List (List ℕ)) (answer : ℕ) (fault : PlainFault) (files : Files) (o : Outcome) → Judged words answer → outside_of answer ≡ Some fault → SpelledAnswers (single_of words) (step_from files (Ok o))
unfinished words answer fault files o j h =
    spelled-plain (single_of words) files (Ok o)
    (λ none. let plain : outside_of answer ≡ None = ap outside_of (j.none none) in absurd cc)
    (λ two. absurd (omega (arith, two)))
    (λ long. let plain : outside_of answer ≡ None = ap outside_of (j.long long) in absurd cc)

-- a step of the words that makes no file leaves what is told of files
abbrev KeptBy : Option Files → Option Files → List (List ℕ) → Step → Type 0
KeptBy f g words s = ((s.status ≢ 0) ⊎ OnlyReads (single_of words)) → g ≡ f

spelled-command : (l : List ℕ) (words : List (List ℕ)) → nat_lt LINE (length l) ≡ false → words_of l ≡ Some words → line_command l ≡ single_of words
spelled-command l words short is = ap (λ b. if b then None else option_and_then single_of (words_of l)) short ∙ ap (option_and_then single_of) is

kept-line : (f g : Option Files) (l : List ℕ) (words : List (List ℕ)) (s : Step) → nat_lt LINE (length l) ≡ false → words_of l ≡ Some words → KeptBy f g words s → MakesNone l s → g ≡ f
kept-line f g l words s short is kept (inl other) = kept (inl other)
kept-line f g l words s short is kept (inr reads) = kept (inr (subst OnlyReads (spelled-command l words short is) reads))

-- only a command has a fault of the outside, and no `demo` of too many documents
may-fault : (l : List ℕ) (words : List (List ℕ)) (answer : ℕ) (fault : PlainFault) → nat_lt LINE (length l) ≡ false → words_of l ≡ Some words → Judged words answer → outside_of answer ≡ Some fault → MayFault l
may-fault l words answer fault short is j h =
    let spells = sym (spelled-command l words short is) in
    record {
      command = subst IsSome spells (some (single_of words) j.none);
      short = λ long. (let no : outside_of answer ≡ None = ap outside_of (j.long (subst IsLongDemo (sym spells) long)) in cc);
    }
  where
    some : (c : Option PlainCommand) → (c ≡ None → answer ≡ 2) → IsSome c
    some None two = (let no : outside_of answer ≡ None = ap outside_of (two refl) in absurd cc)
    some (Some command) two = refl

-- and one of the output only a command that may print
may-print : (l : List ℕ) (words : List (List ℕ)) (answer : ℕ) (fault : PlainFault) → nat_lt LINE (length l) ≡ false → words_of l ≡ Some words → Judged words answer → outside_of answer ≡ Some fault → fault ≡ out_fault → MayPrint l
may-print l words answer fault short is j h out quiet =
    j.silent (subst meanings.IsSilent (spelled-command l words short is) quiet) (h ∙ ap (λ (v : PlainFault). Some v) out)

-- a step of the words from told files
words-step : (f g : Option Files) (h : Files) (l : List ℕ) (words : List (List ℕ)) (s : Step) → f ≡ Some h → nat_lt LINE (length l) ≡ false → words_of l ≡ Some words → Plausible h words s → SpelledAnswers (single_of words) s → KeptBy f g words s → IsStep f g l s
words-step f g h l words s told short is may answers kept = record {
  kept = kept-line f g l words s short is kept;
  answers = by-words (λ w. WordsAnswer w s) (RefusesWith (limit line LINE) s) l (Some words) short is answers;
  may = λ a b p _. (let same : Some h ≡ Some a = sym told ∙ p in by-words (λ w. WordsMay a w s) (s ≡ step_from a (Err (limit line LINE))) l (Some words) short is (subst (λ (u : Files). Plausible u words s) (some-same h a same) may));
}
  where
    some-same : (a b : Files) → Some a ≡ Some b → a ≡ b
    some-same a b e = cc

-- a step of the words where no files are told
untold-step : (f g : Option Files) (l : List ℕ) (words : List (List ℕ)) (s : Step) → f ≡ None → nat_lt LINE (length l) ≡ false → words_of l ≡ Some words → SpelledAnswers (single_of words) s → KeptBy f g words s → IsStep f g l s
untold-step f g l words s untold short is answers kept = record {
  kept = kept-line f g l words s short is kept;
  answers = by-words (λ w. WordsAnswer w s) (RefusesWith (limit line LINE) s) l (Some words) short is answers;
  may = λ a b p _. (let none : Some a ≡ None = sym p ∙ untold in absurd cc);
}

module _ (f g : Option Files) (l : List ℕ) (words : List (List ℕ)) (answer : ℕ) (o p e r : Taken) (x y : ℕ) (short : nat_lt LINE (length l) ≡ false) (is : words_of l ≡ Some words) (j : Judged words answer) (refused_kept : answer ≢ 0 → g ≡ f) (reads_kept : OnlyReads (single_of words) → g ≡ f) where
  kept-by : (s : Step) → answer ≡ s.status → KeptBy f g words s
  kept-by s same (inl other) = refused_kept (λ zero. other (sym same ∙ zero))
  kept-by s same (inr reads) = reads_kept reads

  kept-behind : (fault : PlainFault) → outside_of answer ≡ Some fault → g ≡ f
  kept-behind fault outside = refused_kept (λ zero. let none : outside_of answer ≡ None = ap outside_of zero in cc)

  -- where files are told
  tried-told : (h : Files) → f ≡ Some h → Tried h words answer g o p e r x y → LineTried f g l answer o p e r x y
  tried-told h told t = record {
    step = t.step;
    may =
        words-step f g h l words t.step told short is t.may
        (subst (SpelledAnswers (single_of words)) (sym t.may.is)
        (answered words answer h t.may.written t.may.outcome (elim t.may.behind [ inl n ↦ inl n | inr late ↦ inr (late-answer h (single_of words) t.may.outcome late) ]) j (t.ran.status ∙ ap (λ (z : Step). z.status) t.may.is)
        (λ none. subst (λ c. MayDo h c t.may.outcome) none t.may.may)
        (λ long. long-refused h (single_of words) t.may.outcome long t.may.may)))
        (kept-by t.step t.ran.status);
    ran = t.ran;
  }

  wrote-told : (h : Files) (fault : PlainFault) → f ≡ Some h → outside_of answer ≡ Some fault → Wrote h words o p → LineWrote f g l o p
  wrote-told h fault told outside (inl none) = inl (Takes-kept o o p [] (Takes-nil o) none)
  wrote-told h fault told outside (inr some) = by_outcome some.may.outcome some.may.may some.may.behind some.may.is some.output
    where
      by_outcome : (v : Result Outcome Refusal) → MayDo h (single_of words) v → (some.may.written ≡ []) ⊎ IsLate h (single_of words) v → some.step ≡ step_behind h some.may.written v → TakesPrefix o p some.step.output → LineWrote f g l o p
      by_outcome (Err q) may (inl none) same prefix =
          inl (subst (Takes o p) (ap (λ (z : Step). take prefix.count z.output) same ∙ ap (take prefix.count) none ∙ take-nil prefix.count) prefix.takes)
      by_outcome (Err q) may (inr late) same prefix = inr (record {
        step = some.step;
        may =
            words-step f g h l words some.step told short is some.may (subst (SpelledAnswers (single_of words)) (sym same) (spelled-late (single_of words) h some.may.written (Err q) (late-answer h (single_of words) (Err q) late) (λ long. long-refused h (single_of words) (Err q) long may)))
            (λ _. kept-behind fault outside);
        output = prefix;
      })
      by_outcome (Ok v) may behind same prefix = inr (record {
        step = some.step;
        may = words-step f g h l words some.step told short is some.may (subst (SpelledAnswers (single_of words)) (sym same) (unfinished words answer fault h v j outside)) (λ _. kept-behind fault outside);
        output = prefix;
      })

  -- where they are not
  tried-untold : f ≡ None → g ≡ None → outside_of answer ≡ None → Said answer e r x y → Gained o p → (answer ≢ 0 → outside_of answer ≡ None → ¬ MayHaveWritten (single_of words) answer → TakesNone o p) → (IsLongDemo (single_of words) → Says e r x y (fault_line (refused (limit refusal.demo DEMO)))) → LineTried f g l answer o p e r x y
  tried-untold untold still plain said gained nothing long_said = by_length (long-or-not (single_of words))
    where
      step-of : (written : List ℕ) (v : Result Outcome Refusal) → (written ≡ []) ⊎ LateAnswer (single_of words) v → answer ≡ (step_behind finite.empty written v).status → (single_of words ≡ None → v ≡ Err usage)
          → (IsLongDemo (single_of words) → v ≡ Err (limit refusal.demo DEMO)) → Takes o p (step_behind finite.empty written v).output → Says e r x y (step_behind finite.empty written v).line → LineTried f g l answer o p e r x y
      step-of written v behind same none long output says = record {
        step = step_behind finite.empty written v;
        may =
            untold-step f g l words (step_behind finite.empty written v) untold short is (answered words answer finite.empty written v behind j same none long) (kept-by (step_behind finite.empty written v) same);
        ran = record { status = same; files = λ h now. (let no : Some h ≡ None = sym now ∙ still in absurd cc); output = output; line = says };
      }

      outside : {X : Type 0} (fault : PlainFault) → answer ≡ fault_status fault → outside_of (fault_status fault) ≡ Some fault → X
      outside fault same some = let no : Some fault ≡ None = sym some ∙ sym (ap outside_of same) ∙ plain in absurd cc

      by_fault : (v : Option PlainFault) → answer ≡ status_after v → Says e r x y (line_after v) → ¬ IsLongDemo (single_of words) → LineTried f g l answer o p e r x y
      by_fault None same says short =
          step-of [] (Ok (record { files = finite.empty; output = gained.bytes })) (inl refl) same (λ none. let two = j.none none in absurd (omega (arith, same, two))) (λ long. absurd (short long)) gained.takes says
      by_fault (Some (refused q)) same says short = elim (late-or-not (single_of words) answer) [
        | inl late ↦ (let eleven = late-status (single_of words) answer late in
            let damage = damage-only q (sym same ∙ eleven) in
            step-of gained.bytes (Err q) (inr (record { name = damage.0; is = ap (λ z. Err z) damage.1; may = subst (MayHaveWritten (single_of words)) eleven late })) same
            (λ none. let two = j.none none in absurd (omega (arith, eleven, two))) (λ long. absurd (short long)) gained.takes says)
        | inr early ↦
            step-of [] (Err q) (inl refl) same (λ none. ap Err (usage-only q (sym same ∙ j.none none))) (λ long. absurd (short long))
            (Takes-kept o o p [] (Takes-nil o) (nothing (λ zero. status-other q (sym same ∙ zero)) plain early)) says
      ]
      by_fault (Some folder_fault) same says short = outside folder_fault same refl
      by_fault (Some out_fault) same says short = outside out_fault same refl
      by_fault (Some in_fault) same says short = outside in_fault same refl
      by_fault (Some memory) same says short = outside memory same refl

      by_length : IsLongDemo (single_of words) ⊎ ¬ IsLongDemo (single_of words) → LineTried f g l answer o p e r x y
      by_length (inl long) =
          let is : answer ≡ 12 = j.long long in
          step-of [] (Err (limit refusal.demo DEMO)) (inl refl) is (λ none. let two = j.none none in absurd (omega (arith, is, two))) (λ _. refl)
          (Takes-kept o o p [] (Takes-nil o) (nothing (λ zero. omega (arith, is, zero)) plain (λ late. let eleven = late-status (single_of words) answer late in omega (arith, is, eleven)))) (long_said long)
      by_length (inr short) = by_fault said.fault said.status said.line short

  wrote-untold : (fault : PlainFault) → f ≡ None → outside_of answer ≡ Some fault → Gained o p → LineWrote f g l o p
  wrote-untold fault untold outside gained =
      let v : Outcome = record { files = finite.empty; output = gained.bytes } in
      inr (record {
        step = step_from finite.empty (Ok v);
        may = untold-step f g l words (step_from finite.empty (Ok v)) untold short is (unfinished words answer fault finite.empty v j outside) (λ _. kept-behind fault outside);
        output = TakesPrefix-all o p gained.bytes gained.takes;
      })

-- a command was run
pub takes-step : (f g : Option Files) (l : List ℕ) (words : List (List ℕ)) (answer : ℕ) (o p e r : Taken) (x y : ℕ)
    → nat_lt LINE (length l) ≡ false → words_of l ≡ Some words → Judged words answer → (f ≡ None → g ≡ None)
    → ((h : Files) → f ≡ Some h → outside_of answer ≡ None → Tried h words answer g o p e r x y) → ((h : Files) → f ≡ Some h → Wrote h words o p)
    → Said answer e r x y → Gained o p → (answer ≢ 0 → outside_of answer ≡ None → ¬ MayHaveWritten (single_of words) answer → TakesNone o p) → (answer ≢ 0 → g ≡ f) → (OnlyReads (single_of words) → g ≡ f)
    → (IsLongDemo (single_of words) → Says e r x y (fault_line (refused (limit refusal.demo DEMO)))) → LineTakes f g l answer o p e r x y
takes-step f g l words answer o p e r x y short is j untold tried wrote said gained nothing kept reads long_said =
    takes_by f g l answer o p e r x y _ refl (λ plain. by_told f refl plain)
    (λ fault h. record { spelled = may-fault l words answer fault short is j h; prints = may-print l words answer fault short is j h; wrote = part_told f refl fault h; kept = kept (λ zero. let none : outside_of answer ≡ None = ap outside_of zero in cc); said = said_outside answer fault e r x y said h })
  where
    by_told : (v : Option Files) → f ≡ v → outside_of answer ≡ None → LineTried f g l answer o p e r x y
    by_told (Some h) told plain = tried-told f g l words answer o p e r x y short is j kept reads h told (tried h told plain)
    by_told None none plain = tried-untold f g l words answer o p e r x y short is j kept reads none (untold none) plain said gained nothing long_said

    part_told : (v : Option Files) → f ≡ v → (fault : PlainFault) → outside_of answer ≡ Some fault → LineWrote f g l o p
    part_told (Some h) told fault outside = wrote-told f g l words answer o p e r x y short is j kept reads h fault told outside (wrote h told)
    part_told None none fault outside = wrote-untold f g l words answer o p e r x y short is j kept reads fault none outside gained

-- ---- its status line

-- what was written before a fault
record Part (f g : Option Files) (l : List ℕ) (o p : Taken) : Type 0 where
  part : List ℕ
  front : IsPart f g l part
  takes : Takes o p part

part_of : (f g : Option Files) (l : List ℕ) (o p : Taken) → LineWrote f g l o p → Part f g l o p
part_of f g l o p (inl none) = record { part = []; front = inl refl; takes = none }
part_of f g l o p (inr some) =
    record { part = take some.output.count some.step.output; front = inr (record { step = some.step; may = some.may; count = some.output.count; is = refl }); takes = some.output.takes }

at_none : (f g : Option Files) (l : List ℕ) (answer : ℕ) (o p e r : Taken) (x y : ℕ) → outside_of answer ≡ None → LineTakes f g l answer o p e r x y → LineTried f g l answer o p e r x y
at_none f g l answer o p e r x y is k = subst (λ (v : Option PlainFault). MatchOption v (LineTried f g l answer o p e r x y) (λ fault. LineFaults f g l fault o p e r x y)) is k

at_some : (f g : Option Files) (l : List ℕ) (answer : ℕ) (o p e r : Taken) (x y : ℕ) (fault : PlainFault) → outside_of answer ≡ Some fault → LineTakes f g l answer o p e r x y → LineFaults f g l fault o p e r x y
at_some f g l answer o p e r x y fault is k = subst (λ (v : Option PlainFault). MatchOption v (LineTried f g l answer o p e r x y) (λ fault. LineFaults f g l fault o p e r x y)) is k

-- what was said before the status line stays
says-still : (e r t : Taken) (x y z : ℕ) (d : List ℕ) → IsSilent r t y z → Says e r x y d → Says e t x z d
says-still e r t x y z d silent says = subst (λ (u : Taken). Says e u x z d) (sym silent.taken) (subst (λ n. Says e r x n d) (sym silent.faults) says)

-- a blank line was skipped
pub runs-blank : (f g : Option Files) (o e : Taken) (x : ℕ) (l : List ℕ) → is_blank l ≡ true → g ≡ f → RunsOver (scene f g o o e e x x) (without_blanks (l ∷ [])) []
runs-blank f g o e x l blank same = subst (λ (m : List (List ℕ)). RunsOver (scene f g o o e e x x) m []) (sym (without_blanks-blank l blank)) (RunsOver-none f g o e x same)

-- its step was taken, and its status line came
pub runs-took : (f g : Option Files) (o p q e r t : Taken) (x y z : ℕ) (l : List ℕ) (status : ℕ) → is_blank l ≡ false
    → LineTakes f g l status o p e r x y → StatusComes status p q r t y z → RunsOver (scene f g o q e t x z) (without_blanks (l ∷ [])) []
runs-took f g o p q e r t x y z l status other took came =
    let k = at_none f g l status o p e r x y came.other took in
    let s = k.step in
    let written : Takes o q (s.output ++ status_line s.status) = subst (λ n. Takes o q (s.output ++ status_line n)) k.ran.status (Takes-trans o p q s.output (status_line status) k.ran.output came.output) in
    let one =
    RunsOver-one f g o q e t x z l s k.may (λ a b _ now. k.ran.files b now) written (says-still e r t x y z s.line came.silent k.ran.line) in
    subst (λ (m : List (List ℕ)). RunsOver (scene f g o q e t x z) m []) (sym (without_blanks-other l other)) one

-- a write of the command failed
stops-write : (f g : Option Files) (o p q e r t : Taken) (x y z : ℕ) (l : List ℕ) (status answer : ℕ)
    → LineTakes f g l status o p e r x y → NoStatus status answer p q r t y z → LineStops (scene f g o q e t x z) l answer
stops-write f g o p q e r t x y z l status answer took end =
    let k = at_some f g l status o p e r x y out_fault (ap outside_of end.write_failed) took in
    let w = part_of f g l o p k.wrote in
    record {
      written = w.part;
      spoken = fault_line out_fault ∷ [];
      stops = inr (inl (record { status = end.same; spelled = k.spelled; prints = k.prints refl; front = w.front; line_is = refl; files_kept = k.kept }));
      gains = Gains-one f g o q e t x z w.part (fault_line out_fault) (subst (λ (u : Taken). Takes o u w.part) (sym end.output) w.takes) (says-still e r t x y z (fault_line out_fault) end.silent k.said);
    }

-- the status line of a fault came
stops-fault : (f g : Option Files) (o p q e r t : Taken) (x y z : ℕ) (l : List ℕ) (status answer : ℕ) (fault : PlainFault) → outside_of status ≡ Some fault → Kind status fault
    → LineTakes f g l status o p e r x y → LastStatus status answer p q r t y z → LineStops (scene f g o q e t x z) l answer
stops-fault f g o p q e r t x y z l status answer fault is kind took end =
    let k = at_some f g l status o p e r x y fault is took in
    let w = part_of f g l o p k.wrote in
    record {
      written = w.part ++ status_line status;
      spoken = fault_line fault ∷ [];
      stops = inl (record {
        fault = fault;
        spelled = k.spelled;
        kind = kind.kind;
        status = end.same ∙ kind.is;
        part = w.part;
        front = w.front;
        output = ap (λ n. w.part ++ status_line n) (sym end.same);
        line_is = refl;
        files_kept = k.kept;
      });
      gains = Gains-one f g o q e t x z (w.part ++ status_line status) (fault_line fault) (Takes-trans o p q w.part (status_line status) w.takes end.output) (says-still e r t x y z (fault_line fault) end.silent k.said);
    }

-- the status line did not come
stops-lost : (f g : Option Files) (o p q e r t : Taken) (x y z m n : ℕ) (l : List ℕ) (status answer : ℕ) (v : Option PlainFault) → x ≤ y → y ≤ z → status ≢ 15 → outside_of status ≡ v
    → LineTakes f g l status o p e r x y → StatusLost status answer p q r t y z m n → LineStops (scene f g o q e t x z) l answer
stops-lost f g o p q e r t x y z m n l status answer None first second no_in is took end =
    let k = at_none f g l status o p e r x y is took in
    let s = k.step in
    let c = end.output.count in
    let before = Gains-one f g o p e r x y s.output s.line k.ran.output k.ran.line in
    let now = Gains-one g g p q r t y z (take c (status_line status)) (fault_line out_fault) end.output.takes end.line in
    record {
      written = s.output ++ take c (status_line status);
      spoken = s.line ∷ fault_line out_fault ∷ [];
      stops = inr (inr (inl (record {
        status = end.is;
        step = s;
        may = k.may;
        count = c;
        output = ap (λ u. s.output ++ take c (status_line u)) k.ran.status;
        line_is = refl;
        files_now = λ a b _ told. k.ran.files b told;
      })));
      gains = Gains-trans f g g g f g o p q e r t x y z s.output (take c (status_line status)) (s.line ∷ []) (fault_line out_fault ∷ []) first second before now;
    }
stops-lost f g o p q e r t x y z m n l status answer (Some fault) first second no_in is took end =
    let k = at_some f g l status o p e r x y fault is took in
    let w = part_of f g l o p k.wrote in
    let kind = kind_of status fault is end.other no_in in
    let c = end.output.count in
    let before = Gains-one f g o p e r x y w.part (fault_line fault) w.takes k.said in
    let now = Gains-one g g p q r t y z (take c (status_line status)) (fault_line out_fault) end.output.takes end.line in
    record {
      written = w.part ++ take c (status_line status);
      spoken = fault_line fault ∷ fault_line out_fault ∷ [];
      stops = inr (inr (inr (record {
        status = end.is;
        fault = fault;
        spelled = k.spelled;
        kind = kind.kind;
        part = w.part;
        front = w.front;
        count = c;
        output = ap (λ u. w.part ++ take c (status_line u)) kind.is;
        line_is = refl;
        files_kept = k.kept;
      })));
      gains = Gains-trans f g g g f g o p q e r t x y z w.part (take c (status_line status)) (fault_line fault ∷ []) (fault_line out_fault ∷ []) first second before now;
    }

last_kind : (status : ℕ) → (status ≡ 13) ⊎ (status ≡ 16) → (fault : PlainFault) × (outside_of status ≡ Some fault) × Kind status fault
last_kind status (inl e) = (folder_fault, ap outside_of e, record { kind = inl refl; is = e })
last_kind status (inr e) = (memory, ap outside_of e, record { kind = inr refl; is = e })

pub runs-stopped : (f g : Option Files) (o p q e r t : Taken) (x y z m n : ℕ) (l : List ℕ) (status answer : ℕ) → x ≤ y → y ≤ z → status ≢ 15
    → LineTakes f g l status o p e r x y → StatusEnds status p q r t y z m n (Err answer) → LineStops (scene f g o q e t x z) l answer
runs-stopped f g o p q e r t x y z m n l status answer first second no_in took (inl end) = stops-write f g o p q e r t x y z l status answer took end
runs-stopped f g o p q e r t x y z m n l status answer first second no_in took (inr (inl end)) = stops-lost f g o p q e r t x y z m n l status answer _ first second no_in refl took end
runs-stopped f g o p q e r t x y z m n l status answer first second no_in took (inr (inr end)) =
    let k = last_kind status end.kind in
    stops-fault f g o p q e r t x y z l status answer k.0 k.1 k.2 took end

pub runs-ended : (f g : Option Files) (o p q e r t : Taken) (x y z m n : ℕ) (l : List ℕ) (status : ℕ) (result : Result Unit ℕ) → x ≤ y → y ≤ z → is_blank l ≡ false → status ≢ 15
    → LineTakes f g l status o p e r x y → StatusEnds status p q r t y z m n result → LineRuns (scene f g o q e t x z) l result
runs-ended f g o p q e r t x y z m n l status (Ok u) first second other no_in took end = runs-took f g o p q e r t x y z l status other took end
runs-ended f g o p q e r t x y z m n l status (Err answer) first second other no_in took end = (other, inr (runs-stopped f g o p q e r t x y z m n l status answer first second no_in took end))

-- no memory was there for the words
pub runs-unread : (f g : Option Files) (o p e r t : Taken) (x y z : ℕ) (answer : ℕ) → IsUntouched f g o p e r x y → answer ≡ 16 → Says r t y z (fault_line memory) → NoWords (scene f g o p e t x z) answer
runs-unread f g o p e r t x y z answer same is says =
    record {
      status = is;
      files = same.files;
      gains =
          Gains-one f g o p e t x z [] (fault_line memory) (subst (λ (u : Taken). Takes o u []) (sym same.output) (Takes-nil o))
          (subst (λ (u : Taken). Says u t x z (fault_line memory)) same.error (subst (λ n. Says r t n z (fault_line memory)) same.faults says));
    }

-- the status with which a line ends the batch
pub last-status : (a b c m n status answer : ℕ) (o p e r : Taken) (x y : ℕ) → (status ≡ 13 → Rose a b) → (status ≡ 14 → Rose c m) → c ≤ m → m ≤ n → StatusEnds status o p e r x y m n (Err answer) → IsLastStatus a b c n answer
last-status a b c m n status answer o p e r x y folder out first second (inl end) = inr (inl (end.same, Rose-later c c m n (omega arith) (out end.write_failed) second))
last-status a b c m n status answer o p e r x y folder out first second (inr (inl end)) = inr (inl (end.is, Rose-later c m n n first end.cause (omega arith)))
last-status a b c m n status answer o p e r x y folder out first second (inr (inr end)) = last_by a b c n status answer folder end.kind end.same
  where
    last_by : (a b c n status answer : ℕ) → (status ≡ 13 → Rose a b) → (status ≡ 13) ⊎ (status ≡ 16) → answer ≡ status → IsLastStatus a b c n answer
    last_by a b c n status answer folder (inl is) same = inl (same ∙ is, folder is)
    last_by a b c n status answer folder (inr is) same = inr (inr (same ∙ is))
