-- What a folder counts, through several calls.
use Rattle.std.proofs.Common.{◌≡◌, ℕ, ◌+◌, ◌≤◌, refl, sym, ap, ◌∙◌, arith}
use Rattle.xa_outside.specs.Numbers.{Numbers, IsMeter, PullsAtMost, PullsAndDrafts, capped, after_pull, after_draft}

same_numbers : (pulled since drafted gap pulled' since' drafted' gap' : ℕ) → pulled ≡ pulled' → since ≡ since' → drafted ≡ drafted' → gap ≡ gap'
    → ◌≡◌ {A = Numbers} (record { pulled = pulled; since = since; drafted = drafted; gap = gap }) (record { pulled = pulled'; since = since'; drafted = drafted'; gap = gap' })
same_numbers pulled since drafted gap pulled' since' drafted' gap' a b c d = λ i. record { pulled = a i; since = b i; drafted = c i; gap = d i }

-- no byte was pulled
pub after_pull-none : (m : Numbers) → IsMeter m → after_pull m 0 ≡ m
after_pull-none m is =
    let a = is.pulled_small in let b = is.since_small in let d = is.covers in
    same_numbers _ _ _ _ m.pulled m.since m.drafted m.gap (omega arith) (omega arith) refl (omega arith)

-- two pulls, one after the other
pub after_pull-twice : (m : Numbers) (a b : ℕ) → after_pull (after_pull m a) b ≡ after_pull m (a + b)
after_pull-twice m a b = same_numbers _ _ _ _ _ _ _ _ (omega arith) (omega arith) refl (omega arith)

-- no byte was drafted
pub after_draft-none : (m : Numbers) → IsMeter m → after_draft m 0 ≡ m
after_draft-none m is = let a = is.drafted_small in same_numbers _ _ _ _ m.pulled m.since m.drafted m.gap refl refl (omega arith) refl

-- two pieces drafted, one after the other
pub after_draft-twice : (m : Numbers) (a b : ℕ) → after_draft (after_draft m a) b ≡ after_draft m (a + b)
after_draft-twice m a b = same_numbers _ _ _ _ _ _ _ _ refl refl (omega arith) refl

-- ---- calls that only read

pub PullsAtMost-none : (limit : ℕ) (m : Numbers) → IsMeter m → PullsAtMost limit m m
PullsAtMost-none limit m is = record { count = 0; within = omega arith; pulled = sym (after_pull-none m is) }

-- a read that answered how much it pulled
pub PullsAtMost-of : (limit n : ℕ) (a b : Numbers) → n ≤ limit → b ≡ after_pull a n → PullsAtMost limit a b
PullsAtMost-of limit n a b fits is = record { count = n; within = fits; pulled = is }

pub PullsAtMost-more : (limit more : ℕ) (a b : Numbers) → limit ≤ more → PullsAtMost limit a b → PullsAtMost more a b
PullsAtMost-more limit more a b fits p = let within = p.within in record { count = p.count; within = omega arith; pulled = p.pulled }

pub PullsAtMost-trans : (first second : ℕ) (a b c : Numbers) → PullsAtMost first a b → PullsAtMost second b c → PullsAtMost (first + second) a c
PullsAtMost-trans first second a b c p q =
    let w = p.within in let v = q.within in
    record { count = p.count + q.count; within = omega arith; pulled = q.pulled ∙ ap (λ m. after_pull m q.count) p.pulled ∙ after_pull-twice a p.count q.count }

-- ---- calls that read and write

capped-twice : (n a b : ℕ) → capped (capped (n + a) + b) ≡ capped (n + (a + b))
capped-twice n a b = omega arith

pub PullsAndDrafts-none : (limit : ℕ) (m : Numbers) → IsMeter m → PullsAndDrafts limit m m
PullsAndDrafts-none limit m is =
    let a = is.pulled_small in let b = is.since_small in
    record { count = 0; within = omega arith; pulled = omega (arith, a); since = omega (arith, b); drafted = omega arith; gap = omega arith }

pub PullsAndDrafts-of_pulls : (limit : ℕ) (a b : Numbers) → PullsAtMost limit a b → PullsAndDrafts limit a b
PullsAndDrafts-of_pulls limit a b p =
    let within = p.within in
    let drafted = ap (λ m. m.drafted) p.pulled in
    let gap = ap (λ m. m.gap) p.pulled in
    record { count = p.count; within = within; pulled = ap (λ m. m.pulled) p.pulled; since = ap (λ m. m.since) p.pulled; drafted = omega (arith, drafted); gap = omega (arith, gap) }

pub PullsAndDrafts-of_draft : (limit n : ℕ) (a b : Numbers) → IsMeter a → b ≡ after_draft a n → PullsAndDrafts limit a b
PullsAndDrafts-of_draft limit n a b is e =
    let x = is.pulled_small in let y = is.since_small in let z = is.drafted_small in
    let pulled = ap (λ m. m.pulled) e in
    let since = ap (λ m. m.since) e in
    let drafted = ap (λ m. m.drafted) e in
    let gap = ap (λ m. m.gap) e in
    record { count = 0; within = omega arith; pulled = omega (arith, x, pulled); since = omega (arith, y, since); drafted = omega (arith, z, drafted); gap = omega (arith, gap) }

pub PullsAndDrafts-more : (limit more : ℕ) (a b : Numbers) → limit ≤ more → PullsAndDrafts limit a b → PullsAndDrafts more a b
PullsAndDrafts-more limit more a b fits p = let within = p.within in record { count = p.count; within = omega (arith, fits, within); pulled = p.pulled; since = p.since; drafted = p.drafted; gap = p.gap }

pub PullsAndDrafts-trans : (first second : ℕ) (a b c : Numbers) → PullsAndDrafts first a b → PullsAndDrafts second b c → PullsAndDrafts (first + second) a c
PullsAndDrafts-trans first second a b c p q =
    let w = p.within in let v = q.within in
    let d = p.drafted in let e = q.drafted in
    let g = p.gap in let h = q.gap in
    record {
      count = p.count + q.count;
      within = omega (arith, w, v);
      pulled = q.pulled ∙ ap (λ n. capped (n + q.count)) p.pulled ∙ capped-twice a.pulled p.count q.count;
      since = q.since ∙ ap (λ n. capped (n + q.count)) p.since ∙ capped-twice a.since p.count q.count;
      drafted = omega (arith, d, e);
      gap = omega (arith, g, h);
    }

-- for callers: what a folder counts after some calls
pub ruleset counted = (after_pull-none, after_pull-twice, after_draft-none, after_draft-twice)
