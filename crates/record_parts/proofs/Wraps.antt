-- The eight bytes of a number are those of what is left of it at 64 bits.
use Rattle.std.proofs.Common.{◌≡◌, ℕ, ◌^◌, ◌/◌, ◌%◌, ◌∷◌, [], arith}
use Rattle.xa_fields.specs.Spelling.{u64_bytes}

pub u64_bytes-wrapped : (n : ℕ) → u64_bytes (n % 2 ^ 64) ≡ u64_bytes n
u64_bytes-wrapped n =
    let at_0 : n % 2 ^ 64 % 256 ≡ n % 256 = omega arith in
    let at_1 : n % 2 ^ 64 / 256 % 256 ≡ n / 256 % 256 = omega arith in
    let at_2 : n % 2 ^ 64 / 256 ^ 2 % 256 ≡ n / 256 ^ 2 % 256 = omega arith in
    let at_3 : n % 2 ^ 64 / 256 ^ 3 % 256 ≡ n / 256 ^ 3 % 256 = omega arith in
    let at_4 : n % 2 ^ 64 / 256 ^ 4 % 256 ≡ n / 256 ^ 4 % 256 = omega arith in
    let at_5 : n % 2 ^ 64 / 256 ^ 5 % 256 ≡ n / 256 ^ 5 % 256 = omega arith in
    let at_6 : n % 2 ^ 64 / 256 ^ 6 % 256 ≡ n / 256 ^ 6 % 256 = omega arith in
    let at_7 : n % 2 ^ 64 / 256 ^ 7 % 256 ≡ n / 256 ^ 7 % 256 = omega arith in
    λ i. at_7 i ∷ at_6 i ∷ at_5 i ∷ at_4 i ∷ at_3 i ∷ at_2 i ∷ at_1 i ∷ at_0 i ∷ []
