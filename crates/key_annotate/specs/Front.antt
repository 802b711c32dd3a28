-- Numbers that the first bytes of a text spell.
use Rattle.std.specs.Prelude.{ℕ, zero, suc, ◌+◌, ◌*◌, ◌<◌, List, [], ◌∷◌, get_or}

-- each is a byte
abbrev pub AreBytes : List ℕ → Type 0
AreBytes s = (i : ℕ) → get_or s i 0 < 256

-- the number that so many bytes spell behind a number, the greatest first; each that is missing counts as 0
abbrev pub spelled : ℕ → ℕ → List ℕ → ℕ
spelled zero a s = a
spelled (suc n) a [] = spelled n (a * 256) []
spelled (suc n) a (x ∷ xs) = spelled n (a * 256 + x) xs
