use Rattle.std.proofs.Common.{◌≡◌, drop}
use Rattle.key_spec.specs.Lines.{is_skipped}
use Rattle.key_spec.proofs.line.is_skipped.Given as goal

-- what is left decides
abbrev pub invariant-loop-b : goal.invariant-loop-b
invariant-loop-b l = is_skipped l.line ≡ is_skipped (drop l.b-index l.line)
