-- Levels that are left, and depths.
use Rattle.std.proofs.Common.{◌≡◌, ℕ, suc, max, ◌-◌, true, ◌&&◌, arith}
use Rattle.std.specs.Prelude.{nat_le, nat_lt}
use Rattle.std.proofs.lemmas.Bool.Decides.{nat_tests}

pub above-le : (x d : ℕ) → nat_le (suc x) d ≡ nat_lt x d
above-le x d = grind (arith, nat_tests)

pub inside-le : (x d : ℕ) → nat_le (suc x) d ≡ (nat_lt 0 d && nat_le x (d - 1))
inside-le x d = grind (arith, nat_tests)

pub inside-lt : (x d : ℕ) → nat_lt x d ≡ (nat_lt 0 d && nat_le x (d - 1))
inside-lt x d = grind (arith, nat_tests)

pub both-le : (x y d : ℕ) → nat_le (max x y) d ≡ (nat_le x d && nat_le y d)
both-le x y d = grind (arith, nat_tests)

pub zero-le : (d : ℕ) → nat_le 0 d ≡ true
zero-le d = grind (arith, nat_tests)

pub ruleset levels = (inside-le, inside-lt, both-le, zero-le)
