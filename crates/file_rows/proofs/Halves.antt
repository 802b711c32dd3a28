-- How many of some children a search by halving looks at, and how many of a half of them.
use Rattle.std.proofs.Common.{◌≡◌, ℕ, zero, suc, ◌+◌, ◌/◌, ◌<◌, ◌≤◌, arith}
use Rattle.std.proofs.lemmas.Int.Digits.{length-digits_of_step}
use Rattle.record_format.specs.Probed.{most_probes}

pub probes-step : (n : ℕ) → 0 < n → most_probes n ≡ most_probes (n / 2) + 1
probes-step n h = length-digits_of_step 2 n (omega arith) h

probes-grow-to : (k m n : ℕ) → n ≤ k → m ≤ n → most_probes m ≤ most_probes n
probes-grow-to k zero n fits h = omega arith
probes-grow-to zero (suc m) n fits h = absurd (omega (arith, fits, h))
probes-grow-to (suc k) (suc m) n fits h =
    let less : suc m / 2 ≤ n / 2 = omega (arith, h) in
    let small : n / 2 ≤ k = omega (arith, fits, h) in
    let rest = probes-grow-to k (suc m / 2) (n / 2) small less in
    omega (arith, probes-step (suc m) (omega arith), probes-step n (omega (arith, h)), rest)

probes-grow : (m n : ℕ) → m ≤ n → most_probes m ≤ most_probes n
probes-grow m n h = probes-grow-to n m n (omega arith) h

pub probes-less : (m n : ℕ) → 0 < n → m ≤ n / 2 → most_probes m + 1 ≤ most_probes n
probes-less m n some h = omega (arith, probes-step n some, probes-grow m (n / 2) h)
