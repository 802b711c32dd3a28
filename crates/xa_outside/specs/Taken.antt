-- What a sink has taken, and what a write adds to it.
use Rattle.std.specs.Prelude.{◌≡◌, ℕ, List, [], ◌∷◌, take, Option, Result, MatchResult, ⊤}
use Rattle.std.specs.Io.KnownBytes as known

-- a sink that another one writes on to: the reference that it is reached by, and the bytes that it has taken, where they are told
pub record Behind : Type 0 where
  pub name : ℕ
  pub bytes : Option (List ℕ)

-- all bytes that a sink has taken, where they are told, and the sinks behind it, the nearest first
pub record Taken : Type 0 where
  pub bytes : Option (List ℕ)
  pub behind : List Behind

-- what a sink has taken that has no sink behind it
abbrev pub plainly : Option (List ℕ) → Taken
plainly bytes = record { bytes = bytes; behind = [] }

-- told bytes stay, and more may have come behind them
abbrev pub Grows : Option (List ℕ) → Option (List ℕ) → Type 0
Grows old new = (more : List ℕ) × known.Appends old new more

-- the sinks behind are the same ones, and have kept what they had taken
abbrev pub StaysBehind : List Behind → List Behind → Type 0
StaysBehind [] [] = ⊤
StaysBehind [] (y ∷ ys) = ⊥
StaysBehind (x ∷ xs) [] = ⊥
StaysBehind (x ∷ xs) (y ∷ ys) = (y.name ≡ x.name) × Grows x.bytes y.bytes × StaysBehind xs ys

-- the sink has taken the piece
pub record Takes (old new : Taken) (piece : List ℕ) : Type 0 where
  pub bytes : known.Appends old.bytes new.bytes piece
  pub behind : StaysBehind old.behind new.behind

-- the sink has taken nothing
pub record TakesNone (old new : Taken) : Type 0 where
  pub bytes : known.Keeps old.bytes new.bytes
  pub behind : StaysBehind old.behind new.behind

-- the sink has taken a prefix of the piece
pub record TakesPrefix (old new : Taken) (piece : List ℕ) : Type 0 where
  pub count : ℕ
  pub takes : Takes old new (take count piece)

-- a write took the n bytes at the front of the piece at `Ok(n)`, and nothing at `Err`
abbrev pub Writes : {E : Type 0} → Taken → Taken → Result ℕ E → List ℕ → Type 0
Writes old new r piece = MatchResult r (λ n. Takes old new (take n piece)) (λ _. TakesNone old new)

-- the sink has taken the whole piece, and on a failure a prefix of it
abbrev pub Puts : {T E : Type 0} → Taken → Taken → Result T E → List ℕ → Type 0
Puts old new r piece = MatchResult r (λ _. Takes old new piece) (λ _. TakesPrefix old new piece)
