-- Which faults are told of a sink.
use Rattle.std.proofs.Common.{◌≡◌, ℕ, ◌≤◌, Result, Ok, Err, arith}
use Rattle.std.specs.Result.{IsErrAnd}
use Rattle.archive_text.specs.Faults.{HasSinkCause}
use Rattle.archive_text.specs.declared.fault.TextFault.{TextFault}
use Rattle.archive_text.specs.declared.fault.TextFault.TheVariants.{Sink, Memory}

-- a fault handed on
pub sink-then : {T U : Type 0} (a b c : ℕ) → a ≤ b → (e : TextFault) (s : Result U TextFault) → HasSinkCause {T = T} b c (Err e) → IsErrAnd s (λ d. d ≡ e) → HasSinkCause a c s
sink-then a b c first e (Ok u) p h = absurd h
sink-then a b c first e (Err Memory) p h = let later = p.later in record { later = omega (arith, first, later); failed = tt }
sink-then a b c first Memory (Err Sink) p h = absurd (cc)
sink-then a b c first Sink (Err Sink) p h = let later = p.later in let rose = p.failed in record { later = omega (arith, first, later); failed = omega (arith, first, later, rose) }
