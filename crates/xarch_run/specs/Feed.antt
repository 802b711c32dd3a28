-- What the reader of a batch has before it, and what its reads give.
use Rattle.std.specs.Prelude.{◌≡◌, ℕ, ◌+◌, ◌<◌, List, [], ◌∷◌, length, take, drop, Bool, true, false, Option, Result, Ok, Err, ⊤}
use Rattle.std.specs.Io.KnownBytes.{Consumes, IsAtEnd, Keeps, prepend_known}
use Rattle.xa_outside.specs.Causes.{Rose}
use Rattle.xarch_run.specs.declared.feed.Feed.{Feed}
use Rattle.xarch_run.specs.declared.stop.Stop.{Stop}
use Rattle.xarch_run.specs.declared.stop.Stop.TheVariants.{Failed, PastLimit, Memory}

-- the bytes that are read and not yet taken
abbrev pub pending : Feed → List ℕ
pending f = drop f.start (take f.end f.buffer.items)

-- how many bytes may still come
abbrev pub budget : Feed → ℕ
budget f = f.left + length (pending f)

-- the pending bytes, and those behind them
abbrev pub ahead : Feed → Option (List ℕ) → Option (List ℕ)
ahead f rest = prepend_known (pending f) rest

-- A byte is pending, or the input is at its end. A failed read leaves it as it was, and behind the last byte that may come
-- there is one more.
abbrev pub Fills : Feed → Feed → Option (List ℕ) → Option (List ℕ) → Result Bool Stop → Type 0
Fills before now old new (Ok true) = (0 < length (pending now)) × Keeps (ahead before old) (ahead now new) × (budget now ≡ budget before)
Fills before now old new (Ok false) = IsAtEnd new × Keeps (ahead before old) new
Fills before now old new (Err Failed) = Keeps (ahead before old) new
Fills before now old new (Err PastLimit) = (b : ℕ) × Consumes (ahead before old) new (b ∷ []) × (budget before ≡ 0)
Fills before now old new (Err Memory) = ⊥

-- A failure of the input has its cause.
abbrev pub StopIsCaused : {T : Type 0} → ℕ → ℕ → Result T Stop → Type 0
StopIsCaused before now (Ok v) = ⊤
StopIsCaused before now (Err Failed) = Rose before now
StopIsCaused before now (Err PastLimit) = ⊤
StopIsCaused before now (Err Memory) = ⊤
