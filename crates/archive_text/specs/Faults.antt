-- What is said of faults.
use Rattle.std.specs.Prelude.{ℕ, ◌≤◌, ⊤, Result, IfErr}
use Rattle.xa_outside.specs.Causes.{Rose}
use Rattle.archive_text.specs.declared.fault.TextFault.{TextFault}
use Rattle.archive_text.specs.declared.fault.TextFault.TheVariants.{Sink}
use Rattle.archive_text.specs.declared.fault.ReadFault.{ReadFault}
use Rattle.archive_text.specs.declared.fault.ReadFault.TheVariants.{Bad}

-- want of memory says nothing
abbrev pub IfSink : TextFault → Type 0 → Type 0
IfSink Sink P = P
IfSink other P = ⊤

-- the count of the sink's faults does not fall, and it is told as the cause only where it rose
pub record HasSinkCause {T : Type 0} (before now : ℕ) (result : Result T TextFault) : Type 0 where
  pub later : before ≤ now
  pub failed : IfErr result (λ e. IfSink e (Rose before now))

-- want of memory says nothing
abbrev pub IfBad : ReadFault → Type 0 → Type 0
IfBad Bad P = P
IfBad other P = ⊤
