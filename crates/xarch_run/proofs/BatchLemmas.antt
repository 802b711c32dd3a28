-- The loop of a batch, whatever the folder and the input tell.
use Rattle.std.proofs.Common.{◌≡◌, ◌≢◌, inl, inr, ℕ, ◌≤◌, List, [], ◌∷◌, ◌++◌, length, Bool, true, false, Option, None, Some, Ok, Err, refl, sym, ap, ◌∙◌, subst, arith}
use Rattle.std.specs.Io.KnownBytes.{Consumes, prepend_known}
use Rattle.std.proofs.KnownBytes.{Consumes-trans, prepend_known-nil}
use Rattle.xa_outside.specs.CauseLaws.{Rose-later}
use Rattle.xa_outside.specs.Folder.{Files}
use Rattle.xa_outside.specs.Taken.{Taken}
use Rattle.xarch_words.specs.Lines.{fault_line, fault_status}
use Rattle.xarch_words.specs.Refusal.{memory}
use Rattle.xarch_words.specs.declared.limits.TheConstants.{BATCH}
use Rattle.xarch_meanings.specs.Ran.{Says}
use Rattle.xarch_run.specs.Batch.{BatchEnds, IsAnswer, ReadsAsSaid, scene}
use Rattle.xarch_run.specs.Faults.{stop_fault}
use Rattle.xarch_run.specs.Feed.{StopIsCaused, ahead, budget, pending}
use Rattle.xarch_run.specs.Shown.{Shows}
use Rattle.xarch_run.specs.Taking.{TakesLine}
use Rattle.xarch_run.specs.Turns.{IsLastStatus, LineRuns}
use Rattle.xarch_run.specs.declared.feed.Feed.{Feed}
use Rattle.xarch_run.specs.declared.lines.Lines.{Lines}
use Rattle.xarch_run.specs.declared.stop.Stop.{Stop}
use Rattle.xarch_run.specs.declared.stop.Stop.TheVariants.{Failed, PastLimit, Memory}
use Rattle.xarch_run.proofs.LineReading.{pending_read}
use Rattle.xarch_run.proofs.Going.{Gone, Gone-none, Gone-line, Gone-passed, Passed, consumed-all, ends-all, ends-at, ends-failed, ends-memory, ends-past, few_behind, line_bytes, line_shows, past-limit}

-- the pending bytes were read, too
read_of : (a : Option (List ℕ)) (f : Feed) (rest : Option (List ℕ)) (bs : List ℕ) → Consumes a (ahead f rest) bs → Consumes a rest (bs ++ pending f)
read_of a f rest bs p = Consumes-trans a (ahead f rest) rest bs (pending f) p (pending_read rest (pending f))

-- ---- the invariant

pub record SoFar (f g : Option Files) (o p e r : Taken) (x y : ℕ) (input : Option (List ℕ)) (ahead_now : Option (List ℕ)) (budget_now : ℕ) : Type 0 where
  pub gone : (bytes : List ℕ) → input ≡ Some bytes → Gone f g o p e r x y bytes ahead_now budget_now
  pub later : x ≤ y

pub so-far-begun : (f : Option Files) (o e : Taken) (x : ℕ) (feed : Feed) (rest : Option (List ℕ)) → pending feed ≡ [] → budget feed ≡ BATCH → SoFar f f o o e e x x rest (ahead feed rest) (budget feed)
so-far-begun f o e x feed rest none full =
    let same : ahead feed rest ≡ rest = ap (λ l. prepend_known l rest) none ∙ prepend_known-nil rest in
    record { gone = λ bytes s. Gone-none f o e x bytes (ahead feed rest) (budget feed) (same ∙ s) full; later = omega arith }

-- one more line, which an LF ended
pub so-far-line : (f g h : Option Files) (o p q e r t : Taken) (x y z : ℕ) (input old new : Option (List ℕ)) (before now : Lines)
    → SoFar f g o p e r x y input (ahead before.feed old) (budget before.feed) → TakesLine before now old new (Ok true)
    → ((bytes : List ℕ) → Shows now.line bytes → LineRuns (scene g h p q r t y z) bytes (Ok tt)) → (g ≡ None → h ≡ None) → y ≤ z
    → SoFar f h o q e t x z input (ahead now.feed new) (budget now.feed)
so-far-line f g h o p q e r t x y z input old new before now so k runs untold second =
    let first = so.later in
    record {
      gone = λ bytes s. Gone-line f g h o p q e r t x y z bytes before now old new first second untold (so.gone bytes s) k (runs k.bytes k.shows);
      later = omega arith;
    }

-- ---- ends

-- no memory was there for the reader
pub ends-unread : (f : Option Files) (o e t : Taken) (x z : ℕ) (bytes : List ℕ) (rest : Option (List ℕ)) (answer : ℕ) → x ≤ z
    → rest ≡ Some bytes → answer ≡ 16 → Says e t x z (fault_line memory) → BatchEnds (scene f f o o e t x z) bytes rest answer
ends-unread f o e t x z bytes rest answer second s is says =
    subst (BatchEnds (scene f f o o e t x z) bytes rest) (sym is)
    (ends-memory f f o o e e t x x z bytes rest rest BATCH (omega arith) second (Gone-none f o e x bytes rest BATCH s refl) says)

-- no further line came
pub ends-next : (stop : Stop) (f g : Option Files) (o p e r t : Taken) (x y z : ℕ) (bytes : List ℕ) (input old new : Option (List ℕ)) (before now : Lines) (answer : ℕ)
    → SoFar f g o p e r x y input (ahead before.feed old) (budget before.feed) → TakesLine before now old new (Err stop)
    → Says r t y z (fault_line (stop_fault stop)) → y ≤ z → answer ≡ fault_status (stop_fault stop)
    → input ≡ Some bytes → BatchEnds (scene f g o p e t x z) bytes new answer
ends-next Failed f g o p e r t x y z bytes input old new before now answer so k says second is s =
    subst (BatchEnds (scene f g o p e t x z) bytes new) (sym is) (ends-failed f g o p e r t x y z bytes before old new so.later second (so.gone bytes s) k says)
ends-next PastLimit f g o p e r t x y z bytes input old new before now answer so k says second is s =
    subst (BatchEnds (scene f g o p e t x z) bytes new) (sym is) (ends-past f g o p e r t x y z bytes before old new so.later second (so.gone bytes s) k says)
ends-next Memory f g o p e r t x y z bytes input old new before now answer so k says second is s =
    subst (BatchEnds (scene f g o p e t x z) bytes new) (sym is)
    (ends-memory f g o p e r t x y z bytes (ahead before.feed old) new (budget before.feed) so.later second (so.gone bytes s) says)

-- the last line was run
pub ends-last : (f g h : Option Files) (o p q e r t : Taken) (x y z : ℕ) (bytes : List ℕ) (input old new : Option (List ℕ)) (before now : Lines)
    → SoFar f g o p e r x y input (ahead before.feed old) (budget before.feed) → TakesLine before now old new (Ok false)
    → ((line : List ℕ) → Shows now.line line → LineRuns (scene g h p q r t y z) line (Ok tt)) → (g ≡ None → h ≡ None) → y ≤ z
    → input ≡ Some bytes → BatchEnds (scene f h o q e t x z) bytes new 0
ends-last f g h o p q e r t x y z bytes input old new before now so k runs untold second s =
    ends-all f g h o p q e r t x y z bytes before now old new so.later second untold (so.gone bytes s) k (runs k.bytes k.shows)

-- a line ended the batch
pub ends-line : (ended : Bool) (f g h : Option Files) (o p q e r t : Taken) (x y z : ℕ) (bytes : List ℕ) (input old new : Option (List ℕ)) (before now : Lines) (answer : ℕ)
    → SoFar f g o p e r x y input (ahead before.feed old) (budget before.feed) → (k : TakesLine before now old new (Ok ended))
    → ((line : List ℕ) → Shows now.line line → LineRuns (scene g h p q r t y z) line (Err answer)) → (g ≡ None → h ≡ None) → y ≤ z
    → input ≡ Some bytes → BatchEnds (scene f h o q e t x z) bytes new answer
ends-line ended f g h o p q e r t x y z bytes input old new before now answer so k runs untold second s =
    ends-at ended f g h o p q e r t x y z bytes before now old new answer so.later second untold (so.gone bytes s) k
    (runs (line_bytes ended before now old new k) (line_shows ended before now old new k))

-- ---- what was read

pub passed-so-far : (f g : Option Files) (o p e r : Taken) (x y : ℕ) (input a : Option (List ℕ)) (b : ℕ) → SoFar f g o p e r x y input a b → (bytes : List ℕ) → input ≡ Some bytes → Passed bytes a b
passed-so-far f g o p e r x y input a b so bytes s = Gone-passed f g o p e r x y bytes a b (so.gone bytes s)

pub reads-unread : (bytes : List ℕ) (rest : Option (List ℕ)) (answer : ℕ) → answer ≡ 16 → rest ≡ Some bytes → ReadsAsSaid bytes rest answer
reads-unread bytes rest answer is told =
    record {
      consumed = ([], subst (λ (u : Option (List ℕ)). Consumes (Some bytes) u []) (sym told) refl);
      all = λ zero. absurd (omega (arith, is, zero));
      past = λ past. absurd (omega (arith, is, past));
    }

pub reads-next : (stop : Stop) (bytes : List ℕ) (old new : Option (List ℕ)) (before now : Lines) (answer : ℕ) → Passed bytes (ahead before.feed old) (budget before.feed) → TakesLine before now old new (Err stop)
    → answer ≡ fault_status (stop_fault stop) → ReadsAsSaid bytes new answer
reads-next Failed bytes old new before now answer p k is =
    record {
      consumed = (p.front ++ k.bytes, Consumes-trans (Some bytes) (ahead before.feed old) new p.front k.bytes p.consumed k.consumed);
      all = λ zero. absurd (omega (arith, is, zero));
      past = λ past. absurd (omega (arith, is, past));
    }
reads-next PastLimit bytes old new before now answer p k is =
    record {
      consumed = (p.front ++ (k.bytes ++ k.byte ∷ []), Consumes-trans (Some bytes) (ahead before.feed old) new p.front (k.bytes ++ k.byte ∷ []) p.consumed k.consumed);
      all = λ zero. absurd (omega (arith, is, zero));
      past = λ past. past-limit bytes before old new p k;
    }
reads-next Memory bytes old new before now answer p k is =
    record {
      consumed = (p.front ++ k.0, Consumes-trans (Some bytes) (ahead before.feed old) new p.front k.0 p.consumed k.1);
      all = λ zero. absurd (omega (arith, is, zero));
      past = λ past. absurd (omega (arith, is, past));
    }

pub reads-last : (bytes : List ℕ) (old new : Option (List ℕ)) (before now : Lines) → Passed bytes (ahead before.feed old) (budget before.feed) → TakesLine before now old new (Ok false) → ReadsAsSaid bytes new 0
reads-last bytes old new before now p k =
    let read = Consumes-trans (Some bytes) (ahead before.feed old) new p.front k.bytes p.consumed k.consumed in
    record {
      consumed = (p.front ++ k.bytes, read);
      all = λ zero. let whole = consumed-all bytes (p.front ++ k.bytes) new read k.ends in (whole.1, subst (λ (l : List ℕ). length l ≤ BATCH) (sym whole.0) (few_behind p.front k.bytes (budget before.feed) p.counted k.counted));
      past = λ past. absurd (omega (arith, past));
    }

last_status : (a b c d answer : ℕ) → IsLastStatus a b c d answer → (answer ≢ 0) × (answer ≢ 12)
last_status a b c d answer (inl k) = let is : answer ≡ 13 = k.0 in (λ e. omega (arith, is, e), λ e. omega (arith, is, e))
last_status a b c d answer (inr (inl k)) = let is : answer ≡ 14 = k.0 in (λ e. omega (arith, is, e), λ e. omega (arith, is, e))
last_status a b c d answer (inr (inr is)) = (λ e. omega (arith, is, e), λ e. omega (arith, is, e))

pub reads-line : (ended : Bool) (bytes : List ℕ) (old new : Option (List ℕ)) (before now : Lines) (answer a b c d : ℕ) → Passed bytes (ahead before.feed old) (budget before.feed)
    → TakesLine before now old new (Ok ended) → IsLastStatus a b c d answer → ReadsAsSaid bytes new answer
reads-line true bytes old new before now answer a b c d p k status =
    let other = last_status a b c d answer status in
    let read = Consumes-trans (Some bytes) (ahead before.feed old) (ahead now.feed new) p.front (k.bytes ++ 10 ∷ []) p.consumed k.consumed in
    record {
      consumed = ((p.front ++ (k.bytes ++ 10 ∷ [])) ++ pending now.feed, read_of (Some bytes) now.feed new (p.front ++ (k.bytes ++ 10 ∷ [])) read);
      all = λ zero. absurd (other.0 zero);
      past = λ past. absurd (other.1 past);
    }
reads-line false bytes old new before now answer a b c d p k status =
    let other = last_status a b c d answer status in
    record {
      consumed = (p.front ++ k.bytes, Consumes-trans (Some bytes) (ahead before.feed old) new p.front k.bytes p.consumed k.consumed);
      all = λ zero. absurd (other.0 zero);
      past = λ past. absurd (other.1 past);
    }

-- ---- the answer and its cause

pub answer-next : (stop : Stop) (a b c m d e f answer : ℕ) → answer ≡ fault_status (stop_fault stop) → c ≤ m → StopIsCaused {T = Bool} m d (Err stop) → IsAnswer a b c d e f answer
answer-next Failed a b c m d e f answer is before cause = inr (inr (inr (inr (inl (is, Rose-later c m d d before cause (omega arith))))))
answer-next PastLimit a b c m d e f answer is before cause = inr (inl is)
answer-next Memory a b c m d e f answer is before cause = inr (inr (inr (inr (inr is))))

pub answer-line : (a m b c d e n f answer : ℕ) → a ≤ m → e ≤ n → IsLastStatus m b n f answer → IsAnswer a b c d e f answer
answer-line a m b c d e n f answer folder out (inl k) = inr (inr (inl (k.0, Rose-later a m b b folder k.1 (omega arith))))
answer-line a m b c d e n f answer folder out (inr (inl k)) = inr (inr (inr (inl (k.0, Rose-later e n f f out k.1 (omega arith)))))
answer-line a m b c d e n f answer folder out (inr (inr is)) = inr (inr (inr (inr (inr is))))
