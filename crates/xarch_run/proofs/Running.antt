-- From the end of a command to its status, its line and what it did.
use Rattle.std.proofs.Common.{◌≡◌, ◌≢◌, ◌⊎◌, inl, inr, ℕ, List, [], Option, Some, None, IsSome, Result, Ok, Err, refl, sym, ap, ◌∙◌, subst, arith}
use Rattle.xa_outside.specs.Causes.{HasCause, Rose}
use Rattle.xa_outside.specs.Folder.{Files}
use Rattle.xa_outside.specs.Taken.{Taken, TakesNone, TakesPrefix, Puts}
use Rattle.xa_outside.specs.TakenLaws.{Takes-nil, Takes-kept, TakesNone-refl, TakesPrefix-none, TakesPrefix-all}
use Rattle.xarch_words.specs.Commands.{PlainCommand}
use Rattle.xarch_words.specs.Refusal.{Refusal, PlainFault, refused, folder_fault, out_fault, in_fault, memory}
use Rattle.xarch_words.specs.Lines.{refusal_status}
use Rattle.xarch_parts.specs.Outcome.{Outcome, Step, output_of, step_from}
use Rattle.xarch_parts.specs.Ends.{EndsGained, Gained, HasItsCause}
use Rattle.xarch_meanings.specs.Ran.{Ran, status_after, line_after, outside_of, Says}
use Rattle.xarch_meanings.specs.Meanings.{GainsBy, MayComeLate, MayDo, MayHaveWritten}
use Rattle.xarch_parts.specs.Allowed.{MayEnd, MayEndLate, PutSome}
use Rattle.xarch_meanings.specs.Plausible.{Plausible, Tried, Wrote, step_behind}
use Rattle.xarch_meanings.specs.CommandLaws.{met-status}
use Rattle.xarch_meanings.specs.PlausibleLaws.{behind-none}
use Rattle.xarch_meanings.specs.Step.{Defines, StepIs, single_of}
use Rattle.xarch_parts.specs.AllowedLaws.{MayEnd-refused}
use Rattle.xarch_run.proofs.Statuses.{outside_of-refusal}

-- ---- causes

-- a status of the outside is none of a refusal
refusal_never : (r : Refusal) (n : ℕ) (v : PlainFault) (A : Type 0) → outside_of n ≡ Some v → refusal_status r ≡ n → A
refusal_never r n v A e h = let none : outside_of n ≡ None = ap outside_of (sym h) ∙ outside_of-refusal r in cc

pub folder_fault-caused : (a b c d : ℕ) (e : Option PlainFault) → HasItsCause a b c d e → status_after e ≡ 13 → Rose a b
unfolding HasItsCause
folder_fault-caused a b c d None p h = absurd (omega (arith, h))
folder_fault-caused a b c d (Some (refused r)) p h = refusal_never r 13 folder_fault (Rose a b) refl h
folder_fault-caused a b c d (Some folder_fault) p h = p
folder_fault-caused a b c d (Some out_fault) p h = absurd (omega (arith, h))
folder_fault-caused a b c d (Some in_fault) p h = absurd p
folder_fault-caused a b c d (Some memory) p h = absurd (omega (arith, h))

pub out_fault-caused : (a b c d : ℕ) (e : Option PlainFault) → HasItsCause a b c d e → status_after e ≡ 14 → Rose c d
unfolding HasItsCause
out_fault-caused a b c d None p h = absurd (omega (arith, h))
out_fault-caused a b c d (Some (refused r)) p h = refusal_never r 14 out_fault (Rose c d) refl h
out_fault-caused a b c d (Some folder_fault) p h = absurd (omega (arith, h))
out_fault-caused a b c d (Some out_fault) p h = p
out_fault-caused a b c d (Some in_fault) p h = absurd p
out_fault-caused a b c d (Some memory) p h = absurd (omega (arith, h))

pub status_after-input : (a b c d : ℕ) (e : Option PlainFault) → HasItsCause a b c d e → status_after e ≢ 15
unfolding HasItsCause
status_after-input a b c d None p h = omega (arith, h)
status_after-input a b c d (Some (refused r)) p h = refusal_never r 15 in_fault ⊥ refl h
status_after-input a b c d (Some folder_fault) p h = omega (arith, h)
status_after-input a b c d (Some out_fault) p h = omega (arith, h)
status_after-input a b c d (Some in_fault) p h = p
status_after-input a b c d (Some memory) p h = omega (arith, h)

-- but for what was written, a refusal that comes late is as any other
pub late-end : (late : Refusal → Type 0) (M : Result Outcome Refusal → Type 0) (e : Option PlainFault) (after : Option Files) (old new : Taken) → MayEndLate late M e after old new → (t : Taken) × MayEnd M e after old t
late-end late M e after old new (inl ends) = (new, ends)
late-end late M e after old new (inr b) = (old, subst (λ (v : Option PlainFault). MayEnd M v after old old) (sym b.is) (MayEnd-refused M b.refusal after old old b.may (TakesNone-refl old)))

output_from : (files : Files) (outcome : Result Outcome Refusal) (old new : Taken) → TakesPrefix old new (output_of outcome) → TakesPrefix old new (step_from files outcome).output
output_from files (Ok o) old new p = p
output_from files (Err r) old new p = p

-- From what is known of words: what they may do is what is defined, where that is.
module _ (one_outcome : (files : Files) (words : List (List ℕ)) (r s : Result Outcome Refusal) → Defines files words r → MayDo files (single_of words) s → s ≡ r)
    (one_step : (files : Files) (words : List (List ℕ)) (s t : Step) → StepIs files words s → Plausible files words t → s ≡ t) where
  -- where it is no fault of the outside, a step is taken that may be taken
  Tried-end : (files : Files) (words : List (List ℕ)) (e : Option PlainFault) (before after : Option Files) (old new err_old err_new : Taken) (p q : ℕ) → before ≡ Some files → (IsSome e → after ≡ before)
      → MayEnd (MayDo files (single_of words)) e after old new → Says err_old err_new p q (line_after e) → outside_of (status_after e) ≡ None → Tried files words (status_after e) after old new err_old err_new p q
  unfolding MayEnd
  Tried-end files words None before after old new err_old err_new p q told stays ends says plain =
      let may : Plausible files words (step_from files (Ok ends.outcome)) = record { outcome = Ok ends.outcome; may = ends.may; written = []; behind = inl refl; is = refl } in
      record {
        step = step_from files (Ok ends.outcome);
        may = may;
        defined = λ s is. one_step files words s (step_from files (Ok ends.outcome)) is may;
        ran = record { status = refl; files = ends.files; output = ends.output; line = says };
      }
  Tried-end files words (Some (refused r)) before after old new err_old err_new p q told stays ends says plain =
      let may : Plausible files words (step_from files (Err r)) = record { outcome = Err r; may = ends.may; written = []; behind = inl refl; is = refl } in
      record {
        step = step_from files (Err r);
        may = may;
        defined = λ s is. one_step files words s (step_from files (Err r)) is may;
        ran = record {
          status = refl;
          files = λ f is. let same : after ≡ before = stays refl in grind (arith, told, same, is);
          output = Takes-kept old old new [] (Takes-nil old) ends.output;
          line = says;
        };
      }
  Tried-end files words (Some folder_fault) before after old new err_old err_new p q told stays ends says plain = cc
  Tried-end files words (Some out_fault) before after old new err_old err_new p q told stays ends says plain = cc
  Tried-end files words (Some in_fault) before after old new err_old err_new p q told stays ends says plain = cc
  Tried-end files words (Some memory) before after old new err_old err_new p q told stays ends says plain = cc

  late_step : (files : Files) (words : List (List ℕ)) (q : Refusal) (written : List ℕ) → MayDo files (single_of words) (Err q) → MayComeLate files (single_of words) q → Plausible files words (step_behind files written (Err q))
  late_step files words q written m late = record { outcome = Err q; may = m; written = written; behind = inr late; is = refl }

  pub Tried-from : (files : Files) (words : List (List ℕ)) (e : Option PlainFault) (before after : Option Files) (old new err_old err_new : Taken) (p q : ℕ) → before ≡ Some files → (IsSome e → after ≡ before)
      → MayEndLate (MayComeLate files (single_of words)) (MayDo files (single_of words)) e after old new → Says err_old err_new p q (line_after e) → outside_of (status_after e) ≡ None
      → Tried files words (status_after e) after old new err_old err_new p q
  Tried-from files words e before after old new err_old err_new p q told stays (inl ends) says plain = Tried-end files words e before after old new err_old err_new p q told stays ends says plain
  Tried-from files words e before after old new err_old err_new p q told stays (inr b) says plain =
      subst (λ (v : Option PlainFault). (IsSome v → after ≡ before) → Says err_old err_new p q (line_after v) → Tried files words (status_after v) after old new err_old err_new p q) (sym b.is) (λ stays says.
      let step = step_behind files b.output.bytes (Err b.refusal) in
      let may = late_step files words b.refusal b.output.bytes b.may b.late in
      record {
        step = step;
        may = may;
        defined = λ s is. one_step files words s step is may;
        ran = record { status = refl; files = λ f is. (let same : after ≡ before = stays refl in grind (arith, told, same, is)); output = b.output.takes; line = says };
      }) stays says

  -- a prefix of the output of a step that may be taken
  wrote_some : (files : Files) (words : List (List ℕ)) (outcome : Result Outcome Refusal) (old new : Taken) → MayDo files (single_of words) outcome → TakesPrefix old new (output_of outcome) → Wrote files words old new
  wrote_some files words outcome old new m p =
      let may : Plausible files words (step_from files outcome) = record { outcome = outcome; may = m; written = []; behind = inl refl; is = sym (behind-none files outcome) } in
      inr (record {
        step = step_from files outcome;
        may = may;
        defined = λ s is. one_step files words s (step_from files outcome) is may;
        output = output_from files outcome old new p;
      })

  wrote_outside : (files : Files) (words : List (List ℕ)) (old new : Taken) → (TakesNone old new) ⊎ (PutSome (MayDo files (single_of words)) old new) → Wrote files words old new
  wrote_outside files words old new d = elim d [ inl n ↦ inl n | inr p ↦ wrote_some files words p.outcome old new p.may p.output ]

  -- whatever its end, it has written nothing, or such a prefix
  Wrote-end : (files : Files) (words : List (List ℕ)) (e : Option PlainFault) (after : Option Files) (old new : Taken) → MayEnd (MayDo files (single_of words)) e after old new → Wrote files words old new
  unfolding MayEnd
  Wrote-end files words None after old new ends = wrote_some files words (Ok ends.outcome) old new ends.may (TakesPrefix-all old new ends.outcome.output ends.output)
  Wrote-end files words (Some (refused r)) after old new ends = inl ends.output
  Wrote-end files words (Some folder_fault) after old new ends = wrote_outside files words old new ends
  Wrote-end files words (Some out_fault) after old new ends = wrote_outside files words old new ends
  Wrote-end files words (Some in_fault) after old new ends = wrote_outside files words old new ends
  Wrote-end files words (Some memory) after old new ends = wrote_outside files words old new ends

  pub Wrote-from : (files : Files) (words : List (List ℕ)) (e : Option PlainFault) (after : Option Files) (old new : Taken) → MayEndLate (MayComeLate files (single_of words)) (MayDo files (single_of words)) e after old new → Wrote files words old new
  Wrote-from files words e after old new (inl ends) = Wrote-end files words e after old new ends
  Wrote-from files words e after old new (inr b) =
      let step = step_behind files b.output.bytes (Err b.refusal) in
      let may = late_step files words b.refusal b.output.bytes b.may b.late in
      inr (record { step = step; may = may; defined = λ s is. one_step files words s step is may; output = TakesPrefix-all old new b.output.bytes b.output.takes })

-- ---- what the output gained

gained-ended : (e : Option PlainFault) (old new : Taken) → EndsGained e old new → Gained old new
unfolding EndsGained
gained-ended None old new g = g
gained-ended (Some (refused r)) old new g = record { bytes = []; takes = Takes-kept old old new [] (Takes-nil old) g }
gained-ended (Some folder_fault) old new g = g
gained-ended (Some out_fault) old new g = g
gained-ended (Some in_fault) old new g = g
gained-ended (Some memory) old new g = g

none-ended : (e : Option PlainFault) (old new : Taken) → EndsGained e old new → status_after e ≢ 0 → outside_of (status_after e) ≡ None → TakesNone old new
unfolding EndsGained
none-ended None old new g some plain = absurd (some refl)
none-ended (Some (refused r)) old new g some plain = g
none-ended (Some folder_fault) old new g some plain = cc
none-ended (Some out_fault) old new g some plain = cc
none-ended (Some in_fault) old new g some plain = cc
none-ended (Some memory) old new g some plain = cc

pub gained-any : (c : Option PlainCommand) (e : Option PlainFault) (old new : Taken) → GainsBy c e old new → Gained old new
gained-any c e old new (inl g) = gained-ended e old new g
gained-any c e old new (inr late) = late.1

pub gained-refused : (c : Option PlainCommand) (e : Option PlainFault) (old new : Taken) → GainsBy c e old new → status_after e ≢ 0 → outside_of (status_after e) ≡ None → ¬ MayHaveWritten c (status_after e) → TakesNone old new
gained-refused c e old new (inl g) some plain early = none-ended e old new g some plain
gained-refused c e old new (inr late) some plain early = absurd (early (met-status c e late.0))

-- ---- the line

pub Says-none : (t : Taken) (n : ℕ) → Says t t n n []
Says-none t n = record { prefix = TakesPrefix-none t []; whole = λ _. Takes-nil t }

-- a write that failed has a cause
pub Says-from : {T E : Type 0} (old new : Taken) (before now : ℕ) (r : Result T E) (line : List ℕ) → Puts old new r line → HasCause before now r → Says old new before now line
Says-from old new before now (Ok u) line p q = record { prefix = TakesPrefix-all old new line p; whole = λ _. p }
Says-from old new before now (Err e) line p q = record { prefix = p; whole = λ not. absurd (not q.failed) }

-- ---- where no count of faults rises

-- the defined step was taken, or memory ran out
pub steady : (files : Files) (words : List (List ℕ)) (s : Step) (e : Option PlainFault) (after : Option Files) (old new err_old err_new : Taken) (p q a b c d : ℕ) → StepIs files words s
    → (outside_of (status_after e) ≡ None → Tried files words (status_after e) after old new err_old err_new p q) → HasItsCause a b c d e → ¬ Rose a b → ¬ Rose c d
    → (status_after e ≡ 16) ⊎ Ran s (status_after e) after old new err_old err_new p q
unfolding HasItsCause
steady files words s e after old new err_old err_new p q a b c d is tried cause folder out = by_end e cause tried
  where
    taken : (n : ℕ) → Tried files words n after old new err_old err_new p q → Ran s n after old new err_old err_new p q
    taken n t = subst (λ (z : Step). Ran z n after old new err_old err_new p q) (sym (t.defined s is)) t.ran

    by_end : (v : Option PlainFault) → HasItsCause a b c d v → (outside_of (status_after v) ≡ None → Tried files words (status_after v) after old new err_old err_new p q)
        → (status_after v ≡ 16) ⊎ Ran s (status_after v) after old new err_old err_new p q
    by_end None cause tried = inr (taken 0 (tried refl))
    by_end (Some (refused r)) cause tried = inr (taken (refusal_status r) (tried (outside_of-refusal r)))
    by_end (Some folder_fault) cause tried = absurd (folder cause)
    by_end (Some out_fault) cause tried = absurd (out cause)
    by_end (Some in_fault) cause tried = absurd cause
    by_end (Some memory) cause tried = inl refl
