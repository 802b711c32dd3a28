-- What a read into the front of a buffer gives.
use Rattle.std.specs.Prelude.{◌≡◌, ℕ, List, take, Option, Result, Ok, Err}
use Rattle.std.specs.Io.KnownBytes.{Consumes, IsAtEnd, Keeps}

-- the next bytes, none only at the end; a failed read leaves them
abbrev pub ReadsFront : {E : Type 0} → Option (List ℕ) → Option (List ℕ) → Result ℕ E → List ℕ → Type 0
ReadsFront old new (Ok n) buf = Consumes old new (take n buf) × (n ≡ 0 → IsAtEnd new)
ReadsFront old new (Err e) buf = Keeps old new
