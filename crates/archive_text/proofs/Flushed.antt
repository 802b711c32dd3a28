-- A sink behind a buffer that has taken a whole piece and was flushed.
use Rattle.std.proofs.Common.{◌≡◌, ℕ, List, [], Result, Ok, Err}
use Rattle.xa_outside.specs.Buffered.{buffered_taken, waiting_bytes}
use Rattle.xa_outside.specs.BufferedLaws.{Puts-flushed}
use Rattle.xa_outside.specs.Taken.{Taken, Takes, TakesNone, TakesPrefix}
use Rattle.xa_outside.specs.declared.buffered.Buffered.{Buffered}

module _ {O : Type 0} (taken : O → Taken) (made used flushed : Buffered O) (first last : O) (piece : List ℕ) where
  pub all_passed : made.out.now ≡ first → waiting_bytes made ≡ [] → Takes (buffered_taken taken made) (buffered_taken taken used) piece → TakesNone (buffered_taken taken used) (buffered_taken taken flushed) → waiting_bytes flushed ≡ [] → last ≡ flushed.out.now
      → Takes (taken first) (taken last) piece
  all_passed same none p q empty is = let done : Result ℕ ℕ = Ok 0 in Puts-flushed taken made used first last flushed done piece same none p q empty is

  pub some_passed : made.out.now ≡ first → waiting_bytes made ≡ [] → Takes (buffered_taken taken made) (buffered_taken taken used) piece → TakesNone (buffered_taken taken used) (buffered_taken taken flushed) → last ≡ flushed.out.now
      → TakesPrefix (taken first) (taken last) piece
  some_passed same none p q is = let done : Result ℕ ℕ = Err 0 in Puts-flushed taken made used first last flushed done piece same none p q tt is
