-- From what a command did to what was done for the words.
use Rattle.std.proofs.Common.{◌≡◌, ◌≢◌, inl, ℕ, List, Option, Some, None, Err, refl, sym, ap, subst, arith}
use Rattle.xa_outside.specs.Folder.{Files}
use Rattle.xa_outside.specs.Numbers.{Numbers, IsMeter}
use Rattle.xa_outside.specs.NumberLaws.{PullsAtMost-none}
use Rattle.xa_outside.specs.Taken.{Taken}
use Rattle.xarch_words.specs.Commands.{PlainCommand}
use Rattle.xarch_words.specs.Refusal.{PlainFault, out_fault, refused, usage}
use Rattle.xarch_parts.specs.AllowedLaws.{MayEnd-stopped, gained-none}
use Rattle.xarch_parts.specs.EndLaws.{HasItsCause-command, IsOfCommand-usage}
use Rattle.xarch_parts.specs.Ends.{HasItsCause, IsCaused}
use Rattle.xarch_meanings.specs.Meanings.{FillsUp, IsLimited, IsSilent, MayDo, meaning}
use Rattle.xarch_meanings.specs.CommandLaws.{reading-none}
use Rattle.xarch_meanings.specs.Performs.{Performs}
use Rattle.xarch_run.specs.Obeys.{Obeys}

-- what was done beside an output that never failed is no fault of the output
pub unheard : (a b : ℕ) (e : Option PlainFault) → IsCaused a b 0 0 e → e ≢ Some out_fault
unfolding HasItsCause
unheard a b e p is = (
    let rose : HasItsCause a b 0 0 (Some out_fault) = subst (HasItsCause a b 0 0) is (HasItsCause-command a b 0 0 e p.cause) in
    absurd (omega (arith, rose)))

module _ {S : Type 0} (files : S → Option Files) (draft : S → Option (List ℕ)) (numbers : S → Numbers) (faults : S → ℕ) where
  -- words that are no command are refused, and nothing is done
  obeys-usage : (s : S) (t : Taken) (n : ℕ) → IsMeter (numbers s) → Obeys files draft numbers faults None s s t t n n (Some (refused usage))
  unfolding HasItsCause
  obeys-usage s t n is = record {
    usage = (λ e. refl, λ e. refl);
    by_words = tt;
    cause = tt;
    folder_later = omega arith;
    out_later = omega arith;
    may = λ told there. inl (MayEnd-stopped (MayDo told None) (refused usage) (files s) t (λ q e. (let same : usage ≡ q = cc in ap (λ r. Err r) (sym same))));
    refused_same = λ some. refl;
    untold = λ e. e;
    draft_untold = λ e. e;
    still_told = λ e. e;
    same_files = λ only. refl;
    same_draft = λ only. refl;
    counts = PullsAtMost-none 0 (numbers s) is;
    one_pass = tt;
    little = tt;
    gained = inl (gained-none (Some (refused usage)) t);
    fills = tt;
    silent = λ s is. absurd cc;
  }

  pub obeys-none : (c : Option PlainCommand) (s : S) (t : Taken) (n : ℕ) → c ≡ None → IsMeter (numbers s) → Obeys files draft numbers faults c s s t t n n (Some (refused usage))
  obeys-none c s t n none is = subst (λ (o : Option PlainCommand). Obeys files draft numbers faults o s s t t n n (Some (refused usage))) (sym none) (obeys-usage s t n is)

  module _ (command : PlainCommand) (s t : S) (old new : Taken) (before now : ℕ) (e : Option PlainFault) where
    -- a command is done
    obeys-some : Performs files draft numbers faults command s t old new before now e → FillsUp (Some command) (files s) (draft t) (IsLimited e) → (IsSilent (Some command) → e ≢ Some out_fault)
        → Obeys files draft numbers faults (Some command) s t old new before now e
    obeys-some p fills silent = record {
      usage = (λ is. absurd (IsOfCommand-usage _ _ _ _ e p.caused.cause is), λ none. cc);
      by_words = p.by_words;
      cause = HasItsCause-command _ _ _ _ e p.caused.cause;
      folder_later = p.caused.folder_later;
      out_later = p.caused.out_later;
      may = p.may;
      refused_same = p.keeps.refused;
      untold = p.keeps.untold;
      draft_untold = p.keeps.draft_untold;
      still_told = p.keeps.told;
      same_files = λ only. p.keeps.same_files (reading-none (meaning command).way only);
      same_draft = λ only. p.keeps.same_draft (reading-none (meaning command).way only);
      counts = p.keeps.counts;
      one_pass = p.one_pass;
      little = p.little;
      gained = p.gained;
      fills = fills;
      silent = silent;
    }

    pub obeys-command : (c : Option PlainCommand) → c ≡ Some command → Performs files draft numbers faults command s t old new before now e → FillsUp (Some command) (files s) (draft t) (IsLimited e) → (IsSilent (Some command) → e ≢ Some out_fault)
        → Obeys files draft numbers faults c s t old new before now e
    obeys-command c is p fills silent = subst (λ (o : Option PlainCommand). Obeys files draft numbers faults o s t old new before now e) (sym is) (obeys-some p fills silent)
