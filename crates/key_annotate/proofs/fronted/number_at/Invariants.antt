use Rattle.std.proofs.Common.{◌≡◌, ◌+◌, ◌-◌, ◌<◌, drop}
use Rattle.key_annotate.specs.Front.{spelled}
use Rattle.key_annotate.proofs.Fronts.{power}
use Rattle.key_annotate.proofs.fronted.number_at.Given as goal

-- what is left decides, and what is read so far is small
abbrev pub invariant-loop-at : goal.invariant-loop-at
invariant-loop-at l =
    record {
      rest : spelled (l.fn.from + 8 - l.at) l.number (drop l.at l.bytes) ≡ spelled 8 0 (drop l.fn.from l.bytes);
      small : l.number < power (l.at - l.fn.from);
    }
