-- What a draft has taken.
use Rattle.std.specs.Prelude.{ℕ, List, Option}
use Rattle.std.specs.Io.KnownBytes.{Appends, append_known}

-- A draft has taken a piece: what its file has taken and what is gathered behind that are together what they were, and the piece.
pub record IsAdded (file : Option (List ℕ)) (gathered : List ℕ) (file_now : Option (List ℕ)) (gathered_now piece : List ℕ) : Type 0 where
  pub together : Appends (append_known file gathered) (append_known file_now gathered_now) piece
