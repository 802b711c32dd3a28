-- Counts of faults through several calls.
use Rattle.std.proofs.Common.{ℕ, ◌≤◌, Result, Ok, Err, arith}
use Rattle.std.specs.Result.{IsErr}
use Rattle.xa_outside.specs.Causes.{Rose, HasCause}

-- a count that rose in one call has risen in all
pub Rose-later : (a b c d : ℕ) → a ≤ b → Rose b c → c ≤ d → Rose a d
Rose-later a b c d first rose last = omega arith

-- a call that failed
pub Rose-from_err : {T E : Type 0} (a b : ℕ) (r : Result T E) → IsErr r → HasCause a b r → Rose a b
Rose-from_err a b (Ok v) e p = cc
Rose-from_err a b (Err f) e p = p.failed

-- nothing failed
pub HasCause-ok : {T E : Type 0} (a b : ℕ) (v : T) → a ≤ b → HasCause {T = T} {E = E} a b (Ok v)
HasCause-ok a b v later = record { later = later; failed = tt }

-- a call behind others
pub HasCause-after : {T E : Type 0} (a b c : ℕ) (r : Result T E) → a ≤ b → HasCause b c r → HasCause a c r
HasCause-after a b c (Ok v) first p = let later = p.later in record { later = omega arith; failed = tt }
HasCause-after a b c (Err e) first p = let later = p.later in let rose = p.failed in record { later = omega arith; failed = omega arith }

-- an error handed on, in another type
pub HasCause-handed : {T E U F : Type 0} (a b c : ℕ) (r : Result T E) (s : Result U F) → a ≤ b → IsErr r → HasCause b c r → HasCause a c s
HasCause-handed a b c (Ok v) s first e p = cc
HasCause-handed a b c (Err f) (Ok v) first e p = let later = p.later in record { later = omega arith; failed = tt }
HasCause-handed a b c (Err f) (Err h) first e p = let later = p.later in let rose = p.failed in record { later = omega arith; failed = omega arith }

-- for callers: the cause of an error from the calls before
pub ruleset causes = (HasCause-ok, HasCause-after)
