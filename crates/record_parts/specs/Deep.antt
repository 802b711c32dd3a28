-- The content of an element, where some depth is left.
use Rattle.std.proofs.Common.{◌≡◌, ℕ, zero, suc, ◌-◌, ◌<◌, List, None, refl, ap, arith}
use Rattle.record_parts.specs.Reading.{content_below, content_at}

pub none_below : (depth : ℕ) (bytes : List ℕ) → depth ≡ 0 → content_below depth bytes ≡ None
unfolding content_below
none_below zero bytes h = refl
none_below (suc d) bytes h = absurd (omega arith)

pub one_below : (depth : ℕ) (bytes : List ℕ) → 0 < depth → content_below depth bytes ≡ content_at (depth - 1) bytes
unfolding content_below
one_below zero bytes h = absurd (omega arith)
one_below (suc d) bytes h = (let e : d ≡ suc d - 1 = omega arith in ap (λ (k : ℕ). content_at k bytes) e)

pub ruleset below = (none_below, one_below)
