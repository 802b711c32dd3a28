-- Calls that are planned to fail, by their numbers from 1.
use Rattle.std.specs.Prelude.{ℕ, zero, suc, ◌+◌, ◌-◌, ◌^◌, ◌<◌, ◌==◌, Bool, List, IsTrue, if◌then◌else◌}
use Rattle.std.specs.List.{list_any}
use Rattle.xa_outside.specs.Numbers.{capped}

-- the numbers of the calls that fail, and how many calls were made
pub record Plan : Type 0 where
  pub fails : List ℕ
  pub made : ℕ

-- whether the call of this number is listed
abbrev pub is_listed : List ℕ → ℕ → Bool
is_listed fails number = list_any (λ n. n == number) fails

-- how many of the first n numbers pass the test
abbrev pub count_upto : (ℕ → Bool) → ℕ → ℕ
count_upto test zero = 0
count_upto test (suc n) = count_upto test n + (if test (suc n) then 1 else 0)

-- the next call is a listed one; the calls behind the last number are listed nowhere
abbrev pub IsNextListed : Plan → Type 0
IsNextListed plan = (plan.made < 2 ^ 64 - 1) × IsTrue (is_listed plan.fails (plan.made + 1))

-- how many listed calls were made
abbrev pub listed_made : Plan → ℕ
listed_made plan = count_upto (is_listed plan.fails) plan.made

-- the plan after one more call
abbrev pub after_call : Plan → Plan
after_call plan = record { fails = plan.fails; made = capped (plan.made + 1) }
