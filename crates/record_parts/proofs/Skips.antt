-- Steps of loops that pass over many values.
use Rattle.std.proofs.Common.{◌≡◌, ℕ, suc, ◌+◌, ◌-◌, ◌<◌, ◌≤◌, List, ◌∷◌, Option, Some, None, refl, sym, ap, ◌∙◌, arith}
use Rattle.xa_fields.specs.Reading.{Reader, ◌>>=◌, many_at, chain_at}
use Rattle.record_parts.specs.Behind.{behind}

behind_more : {A : Type 0} (a : A) (r : Option (List A × List ℕ)) → behind (r >>= λ x. Some (a ∷ x.0, x.1)) ≡ behind r
behind_more a (Some x) = refl
behind_more a None = refl

behind_first : {A : Type 0} (one : Reader A) (k : ℕ) (r : Option (A × List ℕ)) (after : List ℕ) → behind r ≡ Some after
    → behind (r >>= λ first. many_at one k first.1 >>= λ others. Some (first.0 ∷ others.0, others.1)) ≡ behind (many_at one k after)
behind_first {A} one k (Some x) after e = (let f : x.1 ≡ after = cc in behind_more x.0 (many_at one k x.1) ∙ ap (λ (b : List ℕ). behind (many_at one k b)) f)
behind_first one k None after e = absurd cc

none_first : {A : Type 0} (one : Reader A) (k : ℕ) (r : Option (A × List ℕ)) → behind r ≡ None → behind (r >>= λ first. many_at one k first.1 >>= λ others. Some (first.0 ∷ others.0, others.1)) ≡ None
none_first one k (Some x) e = absurd cc
none_first one k None e = refl

pub skip_on : {A : Type 0} (one : Reader A) (count i : ℕ) (bytes after : List ℕ) (total : Option (List ℕ)) → i < count → behind (one bytes) ≡ Some after
    → behind (many_at one (count - i) bytes) ≡ total → behind (many_at one (count - (i + 1)) after) ≡ total
unfolding many_at
skip_on one count i bytes after total lt h so_far =
    let k : count - i ≡ suc (count - (i + 1)) = omega arith in
    let step : behind (many_at one (count - i) bytes) ≡ behind (many_at one (count - (i + 1)) after) = rw k (behind_first one (count - (i + 1)) (one bytes) after h) in
    sym step ∙ so_far

pub skip_breaks : {A : Type 0} (one : Reader A) (count i : ℕ) (bytes : List ℕ) (total : Option (List ℕ)) → i < count → behind (one bytes) ≡ None
    → behind (many_at one (count - i) bytes) ≡ total → total ≡ None
unfolding many_at
skip_breaks one count i bytes total lt h so_far =
    let k : count - i ≡ suc (count - (i + 1)) = omega arith in
    let step : behind (many_at one (count - i) bytes) ≡ None = rw k (none_first one (count - (i + 1)) (one bytes) h) in
    sym so_far ∙ step

pub skip_done : {A : Type 0} (one : Reader A) (count i : ℕ) (bytes : List ℕ) (total : Option (List ℕ)) → count ≤ i → behind (many_at one (count - i) bytes) ≡ total → total ≡ Some bytes
unfolding many_at
skip_done one count i bytes total le so_far =
    let k : count - i ≡ 0 = omega arith in
    let step : behind (many_at one (count - i) bytes) ≡ Some bytes = rw k refl in
    sym so_far ∙ step

-- ---- values of which each may follow what stands before it

pub pass_on : {A S : Type 0} (one : Reader A) (next : S → A → Option S) (s t : S) (count i : ℕ) (bytes : List ℕ) (a : A) (after : List ℕ) (total : Option (List ℕ)) → i < count → one bytes ≡ Some (a, after) → next s a ≡ Some t
    → behind (chain_at one next s (count - i) bytes) ≡ total → behind (chain_at one next t (count - (i + 1)) after) ≡ total
unfolding chain_at
pass_on one next s t count i bytes a after total lt h may so_far =
    let k : count - i ≡ suc (count - (i + 1)) = omega arith in
    let step : behind (chain_at one next s (count - i) bytes) ≡ behind (chain_at one next t (count - (i + 1)) after) = rw (k, h, may) (behind_more a (chain_at one next t (count - (i + 1)) after)) in
    sym step ∙ so_far

pub pass_breaks : {A S : Type 0} (one : Reader A) (next : S → A → Option S) (s : S) (count i : ℕ) (bytes : List ℕ) (total : Option (List ℕ)) → i < count → one bytes ≡ None
    → behind (chain_at one next s (count - i) bytes) ≡ total → total ≡ None
unfolding chain_at
pass_breaks one next s count i bytes total lt h so_far =
    let k : count - i ≡ suc (count - (i + 1)) = omega arith in
    let step : behind (chain_at one next s (count - i) bytes) ≡ None = rw (k, h) refl in
    sym so_far ∙ step

pub pass_stops : {A S : Type 0} (one : Reader A) (next : S → A → Option S) (s : S) (count i : ℕ) (bytes : List ℕ) (a : A) (after : List ℕ) (total : Option (List ℕ)) → i < count → one bytes ≡ Some (a, after) → next s a ≡ None
    → behind (chain_at one next s (count - i) bytes) ≡ total → total ≡ None
unfolding chain_at
pass_stops one next s count i bytes a after total lt h not so_far =
    let k : count - i ≡ suc (count - (i + 1)) = omega arith in
    let step : behind (chain_at one next s (count - i) bytes) ≡ None = rw (k, h, not) refl in
    sym so_far ∙ step

pub pass_done : {A S : Type 0} (one : Reader A) (next : S → A → Option S) (s : S) (count i : ℕ) (bytes : List ℕ) (total : Option (List ℕ)) → count ≤ i → behind (chain_at one next s (count - i) bytes) ≡ total → total ≡ Some bytes
unfolding chain_at
pass_done one next s count i bytes total le so_far =
    let k : count - i ≡ 0 = omega arith in
    let step : behind (chain_at one next s (count - i) bytes) ≡ Some bytes = rw k refl in
    sym so_far ∙ step

-- ---- a value made of what was read

pub behind_made : {A B : Type 0} (f : A → B) (r : Option (A × List ℕ)) → behind (r >>= λ x. Some (f x.0, x.1)) ≡ behind r
behind_made f (Some x) = refl
behind_made f None = refl

pub behind_if : (n : List ℕ) → behind {A = ℕ} (Some (0, n)) ≡ Some n
behind_if n = refl

pub ruleset skips = (behind_made, behind_if)
