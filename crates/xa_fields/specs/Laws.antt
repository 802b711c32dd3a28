-- What it means to read back what was spelled.
use Rattle.std.specs.Prelude.{◌≡◌, ℕ, ◌<◌, List, ◌++◌, length, take, Some, slice_index_or}
use Rattle.xa_fields.specs.Reading.{Reader}

abbrev pub IsBytes : List ℕ → Type 0
IsBytes bytes = (i : ℕ) → slice_index_or bytes i 0 < 256

-- the bytes are these and then the rest
pub record Takes (bytes text rest : List ℕ) : Type 0 where
  pub parts : bytes ≡ text ++ rest
  pub rest_fits : IsBytes rest

-- a value was read from the front of some bytes: they spell it, and it has a spelling
pub record Read {A : Type 0} (spell : A → List ℕ) (Fits : A → Type 0) (bytes : List ℕ) (x : A × List ℕ) : Type 0 where
  pub takes : Takes bytes (spell x.0) x.1
  pub fits : Fits x.0

-- what is read is spelled so, and what is spelled so is read, whatever follows
pub record Reads {A : Type 0} (read : Reader A) (spell : A → List ℕ) (Fits : A → Type 0) : Type 0 where
  pub takes : (bytes : List ℕ) (x : A × List ℕ) → IsBytes bytes → read bytes ≡ Some x → Read spell Fits bytes x
  pub again : (a : A) (rest : List ℕ) → Fits a → read (spell a ++ rest) ≡ Some (a, rest)

-- what was there still stands in front; anything may stand behind it
pub record Grows (old new : List ℕ) : Type 0 where
  pub kept : take (length old) new ≡ old
