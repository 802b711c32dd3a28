-- Numbers, texts and lists as bytes.
use Rattle.std.specs.Prelude.{ℕ, ◌<◌, ◌^◌, List, ◌++◌, length}
use Rattle.std.specs.Int.{w32, w64, to_be_bytes}
use Rattle.std.specs.List.{flat_map}
use Rattle.std.specs.Str.{IsUtf8}

abbrev pub u32_bytes : ℕ → List ℕ
u32_bytes n = to_be_bytes w32 n

abbrev pub u64_bytes : ℕ → List ℕ
u64_bytes n = to_be_bytes w64 n

-- four bytes of length, and that many bytes
abbrev pub text_bytes : List ℕ → List ℕ
text_bytes text = u32_bytes (length text) ++ text

-- what has a spelling as a text
pub record IsText (text : List ℕ) : Type 0 where
  pub short : length text < 2 ^ 32
  pub utf8 : IsUtf8 text

-- four bytes that count the values, and the values
abbrev pub list_bytes : {A : Type 0} → (A → List ℕ) → List A → List ℕ
list_bytes spell values = u32_bytes (length values) ++ flat_map spell values
