-- The first bytes of a record that were read, and of a set.
use Rattle.std.proofs.Common.{◌≡◌, ℕ, zero, suc, ◌+◌, ◌-◌, ◌≤◌, List, drop, Some, refl, sym, ◌∙◌, arith}
use Rattle.std.specs.Prelude.{◌==◌, if◌then◌else◌}
use Rattle.std.specs.Int.{w32, w64}
use Rattle.xa_fields.specs.Reading.{byte_at, number_at}
use Rattle.file_get.specs.Inside.{IsAltHead}

pub count-is : (front : List ℕ) (count a : ℕ) → Some (count, drop a front) ≡ number_at w32 front → a ≡ 4 → number_at w32 front ≡ Some (count, drop 4 front)
count-is front count a n e = sym n ∙ (λ i. Some (count, drop (e i) front))

-- a flag of one bit
flag-is : (flag : ℕ) → flag ≤ 1 → flag ≡ (if flag == 1 then 1 else 0)
flag-is zero few = refl
flag-is (suc zero) few = refl
flag-is (suc (suc n)) few = absurd (omega (arith, few))

pub alt-head-is : (head : List ℕ) (kind size flag a b c : ℕ) → Some (kind, drop a head) ≡ byte_at head → Some (size, drop b head) ≡ number_at w64 (drop 1 head) → Some (flag, drop c head) ≡ byte_at (drop 9 head)
    → kind ≡ 3 → flag ≤ 1 → 1 ≤ size → a ≡ 1 → b ≡ 9 → c ≡ 10 → IsAltHead head (9 + size) (flag == 1)
alt-head-is head kind size flag a b c k n f three few some e g h =
    let whole : size ≡ 9 + size - 9 = omega arith in
    record {
      kind = sym k ∙ (λ i. Some (three i, drop (e i) head));
      length = sym n ∙ (λ i. Some (whole i, drop (g i) head));
      stored = sym f ∙ (λ i. Some (flag-is flag few i, drop (h i) head));
      some = omega (arith, some);
    }
