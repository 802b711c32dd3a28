-- What a folder counts of the bytes that go through it.
use Rattle.std.specs.Prelude.{◌≡◌, ℕ, ◌+◌, ◌-◌, ◌^◌, ◌<◌, ◌≤◌, min, max, Result, MatchResult}

-- the bytes pulled, those since the last `begin`, the bytes drafted since then,
-- and the greatest value of `since` less `drafted` since then
pub record Numbers : Type 0 where
  pub pulled : ℕ
  pub since : ℕ
  pub drafted : ℕ
  pub gap : ℕ

-- nothing was pulled or drafted yet
abbrev pub numbers_none : Numbers
numbers_none = record { pulled = 0; since = 0; drafted = 0; gap = 0 }

-- a number that stands still at its last value
abbrev pub capped : ℕ → ℕ
capped n = min n (2 ^ 64 - 1)

-- no number is past the last value, and the gap covers what has been pulled and not drafted
pub record IsMeter (m : Numbers) : Type 0 where
  pub pulled_small : m.pulled < 2 ^ 64
  pub since_small : m.since < 2 ^ 64
  pub drafted_small : m.drafted < 2 ^ 64
  pub gap_small : m.gap < 2 ^ 64
  pub covers : m.since - m.drafted ≤ m.gap

-- how far what was pulled since the last `begin` is ahead of what was drafted
abbrev pub lead : Numbers → ℕ
lead m = m.since - m.drafted

abbrev pub after_pull : Numbers → ℕ → Numbers
after_pull m n =
    record {
      pulled = capped (m.pulled + n);
      since = capped (m.since + n);
      drafted = m.drafted;
      gap = max m.gap (capped (m.since + n) - m.drafted);
    }

abbrev pub after_draft : Numbers → ℕ → Numbers
after_draft m n = record { pulled = m.pulled; since = m.since; drafted = capped (m.drafted + n); gap = m.gap }

abbrev pub after_begin : Numbers → Numbers
after_begin m = record { pulled = m.pulled; since = 0; drafted = 0; gap = 0 }

-- bytes were pulled, at most so many, and nothing was drafted
pub record PullsAtMost (limit : ℕ) (old new : Numbers) : Type 0 where
  pub count : ℕ
  pub within : count ≤ limit
  pub pulled : new ≡ after_pull old count

-- n bytes were pulled at `Ok(n)`, and at most `room` on a failure
abbrev pub Pulls : {E : Type 0} → Numbers → Numbers → Result ℕ E → ℕ → Type 0
Pulls old new r room = MatchResult r (λ n. new ≡ after_pull old n) (λ _. PullsAtMost room old new)

-- bytes were pulled, at most so many, and others may have been drafted between them
pub record PullsAndDrafts (limit : ℕ) (old new : Numbers) : Type 0 where
  pub count : ℕ
  pub within : count ≤ limit
  pub pulled : new.pulled ≡ capped (old.pulled + count)
  pub since : new.since ≡ capped (old.since + count)
  pub drafted : old.drafted ≤ new.drafted
  pub gap : old.gap ≤ new.gap
