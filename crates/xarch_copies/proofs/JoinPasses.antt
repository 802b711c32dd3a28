-- That a join begins its draft before it reads, and goes over both archives once.
use Rattle.std.proofs.Common.{◌≡◌, ℕ, ◌+◌, ◌≤◌, List, Option, None, refl, subst}
use Rattle.xa_outside.specs.Folder.{Files}
use Rattle.xa_outside.specs.Numbers.{Numbers, PullsAndDrafts, after_begin}
use Rattle.xa_outside.specs.NumberLaws.{PullsAndDrafts-more, PullsAndDrafts-of_pulls, PullsAndDrafts-trans}
use Rattle.xarch_words.specs.Refusal.{PlainFault}
use Rattle.xarch_parts.specs.Folders.{Begins, ReadsOnly, Streams}

module _ {S : Type 0} {files : S → Option Files} {draft : S → Option (List ℕ)} {numbers : S → Numbers} {faults : S → ℕ} (most : ℕ) where
  -- it read, and drafted nothing yet
  pub once-begun : (a b c : S) (v : Option PlainFault) → Begins files draft numbers faults a b None → ReadsOnly files draft numbers faults most b c v → PullsAndDrafts most (after_begin (numbers a)) (numbers c)
  once-begun a b c v p q = subst (λ m. PullsAndDrafts most m (numbers c)) (p.begun refl) (PullsAndDrafts-of_pulls most _ _ q.pulls)

  -- it read, and then read and drafted in turn
  pub once-made : (n k : ℕ) (a b c d : S) (v : Option PlainFault) → n + k ≤ most → Begins files draft numbers faults a b None → ReadsOnly files draft numbers faults n b c None → Streams files draft numbers k c d v
      → PullsAndDrafts most (after_begin (numbers a)) (numbers d)
  once-made n k a b c d v fits p q w = subst (λ m. PullsAndDrafts most m (numbers d)) (p.begun refl) (PullsAndDrafts-more (n + k) most _ _ fits (PullsAndDrafts-trans n k _ _ _ (PullsAndDrafts-of_pulls n _ _ q.pulls) w.counted))
