-- Whether a number is in a set whose intervals are read one by one.
use Rattle.std.proofs.Common.{◌≡◌, ℕ, suc, ◌+◌, ◌-◌, ◌<◌, ◌≤◌, ◌||◌, ◌&&◌, leb, Bool, true, false, List, ◌∷◌, Option, Some, None, refl, sym, ap, ◌∙◌, arith}
use Rattle.std.proofs.lemmas.Bool.Decides.{nat_tests}
use Rattle.version_set.specs.Members.{members, numbers, has}
use Rattle.version_set.proofs.MembersLemmas.{has-append, has-numbers}
use Rattle.xa_fields.specs.Reading.{Reader, ◌>>=◌, chain_at}

-- whether it was found, or is in the intervals that are left
abbrev pub or_in : Bool → ℕ → Option (List (ℕ × ℕ) × List ℕ) → Option Bool
or_in found n (Some x) = Some (found || has (members x.0) n)
or_in found n None = None

or_assoc : (a b c : Bool) → ((a || b) || c) ≡ (a || (b || c))
or_assoc true b c = refl
or_assoc false b c = refl

or_false : (a : Bool) → (a || false) ≡ a
or_false true = refl
or_false false = refl

-- in this interval, which it does not end before
pub begun_in : (found : Bool) (p : ℕ × ℕ) (n : ℕ) → found ≡ false → p.0 ≤ n → leb n p.1 ≡ (found || has (numbers p) n)
begun_in found p n not le = (
    let begun : leb p.0 n ≡ true = grind (arith, nat_tests) in
    sym (ap (λ (b : Bool). b || has (numbers p) n) not ∙ has-numbers p n ∙ ap (λ (b : Bool). b && leb n p.1) begun))

-- in none that begins behind it
pub behind_it : (found : Bool) (p : ℕ × ℕ) (n : ℕ) → found ≡ false → n < p.0 → leb p.0 n ≡ (found || has (numbers p) n)
behind_it found p n not lt = (
    let behind : leb p.0 n ≡ false = grind (arith, nat_tests) in
    behind ∙ sym (ap (λ (b : Bool). b || has (numbers p) n) not ∙ has-numbers p n ∙ ap (λ (b : Bool). b && leb n p.1) behind))

one_more : (found : Bool) (n : ℕ) (p : ℕ × ℕ) (read : Option (List (ℕ × ℕ) × List ℕ)) → or_in found n (read >>= λ x. Some (p ∷ x.0, x.1)) ≡ or_in (found || has (numbers p) n) n read
one_more found n p (Some x) = ap (λ (b : Bool). Some b) (ap (λ (b : Bool). found || b) (has-append (numbers p) (members x.0) n) ∙ sym (or_assoc found (has (numbers p) n) (has (members x.0) n)))
one_more found n p None = refl

-- one more interval
pub contained_on : {S : Type 0} (one : Reader (ℕ × ℕ)) (next : S → ℕ × ℕ → Option S) (s t : S) (found : Bool) (n count i : ℕ) (bytes : List ℕ) (p : ℕ × ℕ) (after : List ℕ) (total : Option Bool) → i < count → one bytes ≡ Some (p, after) → next s p ≡ Some t
    → or_in found n (chain_at one next s (count - i) bytes) ≡ total → or_in (found || has (numbers p) n) n (chain_at one next t (count - (i + 1)) after) ≡ total
unfolding chain_at
contained_on one next s t found n count i bytes p after total lt h may so_far =
    let k : count - i ≡ suc (count - (i + 1)) = omega arith in
    let step : or_in found n (chain_at one next s (count - i) bytes) ≡ or_in (found || has (numbers p) n) n (chain_at one next t (count - (i + 1)) after) = rw (k, h, may) (one_more found n p (chain_at one next t (count - (i + 1)) after)) in
    sym step ∙ so_far

-- no interval where one is wanted
pub contained_breaks : {S : Type 0} (one : Reader (ℕ × ℕ)) (next : S → ℕ × ℕ → Option S) (s : S) (found : Bool) (n count i : ℕ) (bytes : List ℕ) (total : Option Bool) → i < count → one bytes ≡ None
    → or_in found n (chain_at one next s (count - i) bytes) ≡ total → None ≡ total
unfolding chain_at
contained_breaks one next s found n count i bytes total lt h so_far =
    let k : count - i ≡ suc (count - (i + 1)) = omega arith in
    let step : or_in found n (chain_at one next s (count - i) bytes) ≡ None = rw (k, h) refl in
    sym step ∙ so_far

-- an interval that may not follow
pub contained_stops : {S : Type 0} (one : Reader (ℕ × ℕ)) (next : S → ℕ × ℕ → Option S) (s : S) (found : Bool) (n count i : ℕ) (bytes : List ℕ) (p : ℕ × ℕ) (after : List ℕ) (total : Option Bool) → i < count → one bytes ≡ Some (p, after) → next s p ≡ None
    → or_in found n (chain_at one next s (count - i) bytes) ≡ total → None ≡ total
unfolding chain_at
contained_stops one next s found n count i bytes p after total lt h not so_far =
    let k : count - i ≡ suc (count - (i + 1)) = omega arith in
    let step : or_in found n (chain_at one next s (count - i) bytes) ≡ None = rw (k, h, not) refl in
    sym step ∙ so_far

-- all intervals
pub contained_done : {S : Type 0} (one : Reader (ℕ × ℕ)) (next : S → ℕ × ℕ → Option S) (s : S) (found : Bool) (n count i : ℕ) (bytes : List ℕ) (total : Option Bool) → count ≤ i
    → or_in found n (chain_at one next s (count - i) bytes) ≡ total → Some found ≡ total
unfolding chain_at
contained_done one next s found n count i bytes total le so_far =
    let k : count - i ≡ 0 = omega arith in
    let step : or_in found n (chain_at one next s (count - i) bytes) ≡ Some found = rw k (ap (λ (b : Bool). Some b) (or_false found)) in
    sym step ∙ so_far
