-- What was done for the words of one command, from what its command did and what was said.
use Rattle.std.proofs.Common.{◌≡◌, ◌⊎◌, inl, inr, ◌≤◌, ℕ, List, Option, Some, None, Result, Err, refl, sym, ap, ◌∙◌, subst}
use Rattle.xa_outside.specs.Causes.{Rose}
use Rattle.xa_outside.specs.Folder.{Files}
use Rattle.xa_outside.specs.Numbers.{Numbers}
use Rattle.xa_outside.specs.Taken.{Taken}
use Rattle.xarch_words.specs.Commands.{PlainCommand}
use Rattle.xarch_words.specs.Refusal.{Refusal, PlainFault, out_fault}
use Rattle.xarch_parts.specs.Outcome.{Outcome, Step}
use Rattle.xarch_meanings.specs.Plausible.{Plausible, Tried}
use Rattle.xarch_meanings.specs.Meanings.{IsSilent, MayBe, MayDo, ShouldSucceed}
use Rattle.xarch_meanings.specs.Ran.{Says, line_after, outside_of, status_after}
use Rattle.xarch_meanings.specs.Step.{Defines, StepIs, alone, single_of}
use Rattle.xarch_run.specs.Obeys.{Obeys}
use Rattle.xarch_run.specs.StepTaken.{StepTaken}
use Rattle.xarch_run.proofs.Running.{Tried-from, Wrote-from, gained-any, gained-refused, steady}
use Rattle.xarch_run.proofs.Statuses.{end-failed, end-outside}
use Rattle.xarch_run.proofs.Succeeding.{succeeds-from}

module _ {F O E : Type 0} (files : F → Option Files) (draft : F → Option (List ℕ)) (numbers : F → Numbers) (faults : F → ℕ)
    (taken : O → Taken) (out_faults : O → ℕ) (spoken : E → Taken) (err_faults : E → ℕ)
    (words : List (List ℕ)) (f g : F) (o p : O) (e r : E) where
  step-by : ((told : Files) (words : List (List ℕ)) (a b : Result Outcome Refusal) → Defines told words a → MayDo told (single_of words) b → b ≡ a)
      → ((told : Files) (words : List (List ℕ)) (s t : Step) → StepIs told words s → Plausible told words t → s ≡ t)
      → ((told : Files) (command : PlainCommand) (q : Refusal) → ShouldSucceed told command → ¬ MayBe told command (Err q))
      → ((told : Files) (command : PlainCommand) → ShouldSucceed told command → alone (Some command) ≡ Some command)
      → (ended : Option PlainFault) → Obeys files draft numbers faults (single_of words) f g (taken o) (taken p) (out_faults o) (out_faults p) ended
      → (IsSilent (single_of words) → p ≡ o)
      → Says (spoken e) (spoken r) (err_faults e) (err_faults r) (line_after ended) → err_faults e ≤ err_faults r
      → StepTaken files draft numbers faults taken out_faults spoken err_faults words f g o p e r (status_after ended)
  step-by one_outcome one_step never single ended obeys untouched says later =
      let tries : (told : Files) → files f ≡ Some told → outside_of (status_after ended) ≡ None → Tried told words (status_after ended) (files g) (taken o) (taken p) (spoken e) (spoken r) (err_faults e) (err_faults r) = λ told there. Tried-from one_outcome one_step told words ended (files f) (files g) (taken o) (taken p) (spoken e) (spoken r) (err_faults e) (err_faults r) there obeys.refused_same (obeys.may told there) says in
      record {
        ended = ended;
        status = refl;
        line = says;
        usage = obeys.usage;
        by_words = obeys.by_words;
        cause = obeys.cause;
        silent = λ quiet is. obeys.silent quiet (end-outside ended out_fault (ap outside_of is));
        untouched = untouched;
        tried = tries;
        wrote = λ told there. Wrote-from one_outcome one_step told words ended (files g) (taken o) (taken p) (obeys.may told there);
        succeeds = λ told command there is should. succeeds-from never single told words command ended (files g) (taken o) (taken p) _ _ _ _ is should (obeys.may told there) obeys.cause;
        steady = λ told s there is. steady told words s ended (files g) (taken o) (taken p) (spoken e) (spoken r) _ _ _ _ _ _ is (tries told there) obeys.cause;
        gained = gained-any (single_of words) ended (taken o) (taken p) obeys.gained;
        nothing = gained-refused (single_of words) ended (taken o) (taken p) obeys.gained;
        refused = λ some. obeys.refused_same (end-failed ended some);
        files = obeys.same_files;
        draft = obeys.same_draft;
        told = obeys.still_told;
        untold = obeys.untold;
        draft_untold = obeys.draft_untold;
        counts = obeys.counts;
        one_pass = obeys.one_pass;
        fills = obeys.fills;
        little = obeys.little;
        folder_later = obeys.folder_later;
        out_later = obeys.out_later;
        err_later = later;
      }

  pub step-taken : ((told : Files) (words : List (List ℕ)) (a b : Result Outcome Refusal) → Defines told words a → MayDo told (single_of words) b → b ≡ a)
      → ((told : Files) (words : List (List ℕ)) (s t : Step) → StepIs told words s → Plausible told words t → s ≡ t)
      → ((told : Files) (command : PlainCommand) (q : Refusal) → ShouldSucceed told command → ¬ MayBe told command (Err q))
      → ((told : Files) (command : PlainCommand) → ShouldSucceed told command → alone (Some command) ≡ Some command)
      → (ended : Option PlainFault) → Obeys files draft numbers faults (single_of words) f g (taken o) (taken p) (out_faults o) (out_faults p) ended
      → (IsSilent (single_of words) → p ≡ o)
      → Says (spoken e) (spoken r) (err_faults e) (err_faults r) (line_after ended) → err_faults e ≤ err_faults r
      → (answer : ℕ) → answer ≡ status_after ended → StepTaken files draft numbers faults taken out_faults spoken err_faults words f g o p e r answer
  step-taken one_outcome one_step never single ended obeys untouched says later answer is =
      subst (StepTaken files draft numbers faults taken out_faults spoken err_faults words f g o p e r) (sym is) (step-by one_outcome one_step never single ended obeys untouched says later)

  -- so a step that is defined with status 0 answers 0, or want of memory, where no count rose
  pub complete : (answer : ℕ) → StepTaken files draft numbers faults taken out_faults spoken err_faults words f g o p e r answer
      → (told : Files) (s : Step) → files f ≡ Some told → StepIs told words s → s.status ≡ 0 → ¬ Rose (faults f) (faults g) → ¬ Rose (out_faults o) (out_faults p) → (answer ≡ 0) ⊎ (answer ≡ 16)
  complete answer k told s there is zero folder out = elim (k.steady told s there is folder out) [ inl memory ↦ inr memory | inr ran ↦ inl (ran.status ∙ zero) ]
