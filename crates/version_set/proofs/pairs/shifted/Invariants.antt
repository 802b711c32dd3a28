use Rattle.std.proofs.Common.{◌≡◌, ℕ, map, take}
use Rattle.version_set.specs.Members.{moved}
use Rattle.version_set.proofs.pairs.shifted.Given as goal

abbrev pub invariant-loop-from : goal.invariant-loop-from
invariant-loop-from l = l.shifted.items ≡ map (λ (p : ℕ × ℕ). (moved l.fn.by p.0, moved l.fn.by p.1)) (take l.from-index l.pairs)
