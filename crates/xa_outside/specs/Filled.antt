-- What a call does to the bytes that a source may tell of.
use Rattle.std.specs.Prelude.{ℕ, ◌<◌, List, length, take, Option, Result, MatchResult}
use Rattle.std.specs.Io.KnownBytes.{Consumes, IsAtEnd}

-- a prefix of the told bytes is consumed, of a length that is not told
abbrev pub ConsumesSome : Option (List ℕ) → Option (List ℕ) → Type 0
ConsumesSome old new = (bytes : List ℕ) × Consumes old new bytes

-- the n bytes put at the front of the buffer are the next ones, fewer than it has room for only at the end
abbrev pub Fills : {E : Type 0} → Option (List ℕ) → Option (List ℕ) → Result ℕ E → List ℕ → Type 0
Fills old new r buf = MatchResult r (λ n. Consumes old new (take n buf) × (n < length buf → IsAtEnd new)) (λ _. ConsumesSome old new)
