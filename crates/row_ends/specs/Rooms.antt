-- Bytes that are compared with those of a file, from the last to the first.
use Rattle.std.specs.Prelude.{ℕ, ◌-◌, Bool, List, ◌++◌, length, take, drop, bytes_eq}

-- Where the bytes begin, where those that were compared begin, and the bytes in front of them that are expected and not yet compared.
pub record PlainRoom : Type 0 where
  pub low : ℕ
  pub at : ℕ
  pub pending : List ℕ

-- where the bytes that are not yet expected end
abbrev pub place : PlainRoom → ℕ
place r = r.at - length r.pending

-- whether the bytes of a file that are not yet compared are these and then those that are pending
abbrev pub matches : PlainRoom → List ℕ → List ℕ → Bool
matches r bytes front = bytes_eq (front ++ r.pending) (take (r.at - r.low) (drop r.low bytes))
