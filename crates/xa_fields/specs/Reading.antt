-- What stands at the front of some bytes: a value, and the bytes behind it.
use Rattle.std.specs.Prelude.{ℕ, zero, suc, ◌||◌, Bool, not, List, [], ◌∷◌, length, take, drop, Option, Some, None, nat_lt, ◌==◌, if◌then◌else◌}
use Rattle.std.specs.Int.{Width, w32, byte_len, from_be_bytes}
use Rattle.std.specs.Str.{is_utf8}

-- what reads a value from the front of some bytes
abbrev pub Reader : Type 0 → Type 0
Reader A = List ℕ → Option (A × List ℕ)

infixl 10 ◌>>=◌
abbrev pub ◌>>=◌ : {A B : Type 0} → Option A → (A → Option B) → Option B
(Some x) >>= f = f x
None >>= f = None

abbrev pub byte_at : Reader ℕ
byte_at [] = None
byte_at (b ∷ rest) = Some (b, rest)

-- a big-endian number of the width
abbrev pub number_at : Width → Reader ℕ
number_at w bytes = if nat_lt (length bytes) (byte_len w) then None else Some (from_be_bytes w (take (byte_len w) bytes), drop (byte_len w) bytes)

-- a length, and that many bytes of UTF-8
unfoldable pub text_at : Reader (List ℕ)
text_at bytes = do
  n ← number_at w32 bytes
  if nat_lt (length n.1) n.0 || not (is_utf8 (take n.0 n.1)) then None else Some (take n.0 n.1, drop n.0 n.1)

-- n values, one behind another
unfoldable pub many_at : {A : Type 0} → Reader A → ℕ → Reader (List A)
many_at one zero bytes = Some ([], bytes)
many_at one (suc n) bytes = do
  first ← one bytes
  others ← many_at one n first.1
  Some (first.0 ∷ others.0, others.1)

-- a count, and so many values
unfoldable pub list_at : {A : Type 0} → Reader A → Reader (List A)
list_at one bytes = number_at w32 bytes >>= λ n. many_at one n.0 n.1

-- so many values one behind another, each of which may follow what stands before it: `next` gives what stands before the
-- one behind, or nothing where the value may not follow
unfoldable pub chain_at : {A S : Type 0} → Reader A → (S → A → Option S) → S → ℕ → Reader (List A)
chain_at one next s zero bytes = Some ([], bytes)
chain_at one next s (suc n) bytes = do
  first ← one bytes
  t ← next s first.0
  others ← chain_at one next t n first.1
  Some (first.0 ∷ others.0, others.1)

-- a count, and so many values that follow one another
unfoldable pub chained_at : {A S : Type 0} → Reader A → (S → A → Option S) → S → Reader (List A)
chained_at one next s bytes = number_at w32 bytes >>= λ n. chain_at one next s n.0 n.1

-- a value, and another behind it
unfoldable pub both_at : {A B : Type 0} → Reader A → Reader B → Reader (A × B)
both_at first second bytes = do
  a ← first bytes
  b ← second a.1
  Some ((a.0, b.0), b.1)

-- a value, where it passes the test
unfoldable pub only_at : {A : Type 0} → (A → Bool) → Reader A → Reader A
only_at test read bytes = do
  a ← read bytes
  if test a.0 then Some a else None

-- the value that all of the bytes are
unfoldable pub whole : {A : Type 0} → Reader A → List ℕ → Option A
whole read bytes = do
  a ← read bytes
  if length a.1 == 0 then Some a.0 else None
