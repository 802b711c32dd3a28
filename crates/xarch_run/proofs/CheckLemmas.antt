-- What `check` tells of a file.
use Rattle.std.proofs.Common.{◌≡◌, inl, inr, ℕ, List, Option, Some, None, Result, Err, refl, sym, ap, ◌∙◌, subst, arith}
use Rattle.std.specs.FinMap as finite
use Rattle.xa_outside.specs.Folder.{Files}
use Rattle.noted_file.specs.Contents.{Contents}
use Rattle.noted_file.specs.Full.{Full, FullAs}
use Rattle.xarch_words.specs.Commands.{check}
use Rattle.xarch_words.specs.Refusal.{Refusal, no_file}
use Rattle.xarch_parts.specs.Archives.{GoesOn}
use Rattle.xarch_parts.specs.Outcome.{Outcome, Step, or_refuse, step_from}
use Rattle.xarch_meanings.specs.Check.{IsFound, checked}
use Rattle.xarch_meanings.specs.PlausibleLaws.{no-late, plain-step}
use Rattle.xarch_run.specs.Calls.{CommandMay}
use Rattle.xarch_run.specs.Held.{FileIs, Held, Holds, TellsSoundness}

module _ (files : Files) (name : List ℕ) where
  same-bytes : (a b : List ℕ) → finite.get files name ≡ Some a → finite.get files name ≡ Some b → a ≡ b
  same-bytes a b e f = let both : Some a ≡ Some b = sym e ∙ f in cc

  not-both : FileIs files name Full → FileIs files name (λ bytes. ¬ Full bytes) → ⊥
  not-both f g = g.is (subst Full (same-bytes f.bytes g.bytes f.there g.there) f.is)

  not-absent : (bytes : List ℕ) → finite.get files name ≡ Some bytes → finite.get files name ≡ None → ⊥
  not-absent bytes e none = let both : Some bytes ≡ None = sym e ∙ none in cc

  module _ (s : Step) where
    status-from : (r q : Result Outcome Refusal) → s ≡ step_from files r → r ≡ q → s.status ≡ (step_from files q).status
    status-from r q is e = ap (λ (z : Step). z.status) is ∙ ap (λ (z : Result Outcome Refusal). (step_from files z).status) e

    tells-sound : s.status ≡ 0 → FileIs files name Full → TellsSoundness files name s
    tells-sound is f = record {
      sound = (λ _. f, λ _. is);
      damaged = (λ e. absurd (omega (arith, is, e)), λ g. absurd (not-both f g));
      absent = (λ e. absurd (omega (arith, is, e)), λ none. absurd (not-absent f.bytes f.there none));
    }

    tells-damaged : s.status ≡ 11 → FileIs files name (λ bytes. ¬ Full bytes) → TellsSoundness files name s
    tells-damaged is g = record {
      sound = (λ e. absurd (omega (arith, is, e)), λ f. absurd (not-both f g));
      damaged = (λ _. g, λ _. is);
      absent = (λ e. absurd (omega (arith, is, e)), λ none. absurd (not-absent g.bytes g.there none));
    }

    tells-absent : s.status ≡ 3 → finite.get files name ≡ None → TellsSoundness files name s
    tells-absent is none = record {
      sound = (λ e. absurd (omega (arith, is, e)), λ f. absurd (not-absent f.bytes f.there none));
      damaged = (λ e. absurd (omega (arith, is, e)), λ g. absurd (not-absent g.bytes g.there none));
      absent = (λ _. none, λ _. is);
    }

    by-file : (o : Option (List ℕ)) (r : Result Outcome Refusal) → finite.get files name ≡ o → GoesOn (or_refuse o (no_file name)) (IsFound files name) r → s ≡ step_from files r → TellsSoundness files name s
    by-file None r none e is = tells-absent (status-from r (Err (no_file name)) is e) none
    by-file (Some bytes) r there (inl p) is = tells-sound (status-from r (checked files p.full.contents.versions) is p.is) (record { bytes = bytes; there = there; is = p.full })
    by-file (Some bytes) r there (inr p) is = tells-damaged (status-from r _ is p.is) (record { bytes = bytes; there = there; is = p.unsound })

    -- no refusal of it comes late
    plain : (m : CommandMay files (Some (check name)) s) → s ≡ step_from files m.outcome
    plain m = plain-step files (Some (check name)) s m (no-late files (Some (check name)) m.outcome (λ q late. late))

    -- its status tells what the file is
    pub judging : CommandMay files (Some (check name)) s → TellsSoundness files name s
    judging m = by-file (finite.get files name) m.outcome refl m.may (plain m)

    -- a sound archive's versions are counted
    pub checking : ((c d : Contents) (bytes : List ℕ) → FullAs c bytes → FullAs d bytes → c ≡ d)
        → (h : Held) → Holds files name h → CommandMay files (Some (check name)) s → s ≡ step_from files (checked files h.versions)
    checking one h a m = plain m ∙ ap (step_from files) (judged m.outcome (subst (λ o. GoesOn (or_refuse o (no_file name)) (IsFound files name) m.outcome) a.there m.may))
      where
        judged : (r : Result Outcome Refusal) → IsFound files name a.bytes r → r ≡ checked files h.versions
        judged r (inl p) = p.is ∙ ap (λ (x : Contents). checked files x.versions) (one p.full.contents h a.bytes p.full.is a.full)
        judged r (inr p) = absurd (p.unsound (record { contents = h; is = a.full }))
