-- Numbers that rise, and are small enough to differ in decimal.
use Rattle.std.proofs.Common.{ℕ, zero, suc, ◌+◌, ◌≤◌, ◌<◌, ◌^◌, Bool, true, false, cond, List, [], ◌∷◌, arith}
use Rattle.std.specs.Prelude.{⊤, filter}
use Rattle.std.specs.List.{range_with_len}

-- each is above the one before it, the first at least low
abbrev pub Rises : ℕ → List ℕ → Type 0
Rises low [] = ⊤
Rises low (e ∷ es) = (low ≤ e) × (e < 2 ^ 64) × Rises (e + 1) es

pub rises-lower : (low high : ℕ) (es : List ℕ) → low ≤ high → Rises high es → Rises low es
rises-lower low high [] le h = tt
rises-lower low high (e ∷ es) le h = (let first : high ≤ e = h.0 in omega arith, h.1, h.2)

rises-if : (b : Bool) (a : ℕ) (es : List ℕ) → a < 2 ^ 64 → Rises (a + 1) es → Rises a (cond b (a ∷ es) es)
rises-if true a es small h = (omega arith, small, h)
rises-if false a es small h = rises-lower a (a + 1) es (omega arith) h

pub rises-range : (p : ℕ → Bool) (a n : ℕ) → a + n < 2 ^ 64 → Rises a (filter p (range_with_len a n))
rises-range p a zero h = tt
rises-range p a (suc n) h =
    let small : a < 2 ^ 64 = omega arith in
    let rest : a + 1 + n < 2 ^ 64 = omega arith in
    rises-if (p a) a (filter p (range_with_len (a + 1) n)) small (rises-range p (a + 1) n rest)
