-- Tests that hold.
use Rattle.std.proofs.Common.{ℕ, ◌<◌, Bool, true, false, ltb, ◌&&◌, IsTrue, arith}
use Rattle.std.proofs.lemmas.Bool.Decides.{nat_tests}

pub both-hold : (a b : Bool) → IsTrue a → IsTrue b → IsTrue (a && b)
both-hold true b h g = g
both-hold false b h g = h

pub lt-of : (m n : ℕ) → IsTrue (ltb m n) → m < n
lt-of m n h = grind (arith, nat_tests)

pub of-lt : (m n : ℕ) → m < n → IsTrue (ltb m n)
of-lt m n h = grind (arith, nat_tests)
