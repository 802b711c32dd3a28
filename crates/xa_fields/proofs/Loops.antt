-- A loop that reads many values.
use Rattle.std.proofs.Common.{◌≡◌, ℕ, suc, ◌+◌, ◌-◌, ◌<◌, ◌≤◌, List, [], ◌∷◌, ◌++◌, Option, Some, None, refl, sym, ap, ◌∙◌, append_assoc, arith}
use Rattle.std.proofs.lemmas.List.{append-nil}
use Rattle.xa_fields.specs.Reading.{Reader, ◌>>=◌, many_at}

-- what was read before, in front
abbrev pub with_front : {A : Type 0} → List A → Option (List A × List ℕ) → Option (List A × List ℕ)
with_front front (Some x) = Some (front ++ x.0, x.1)
with_front front None = None

pub starts : {A : Type 0} (read : Option (List A × List ℕ)) → with_front [] read ≡ read
starts (Some x) = refl
starts None = refl

regroup : {A : Type 0} (front : List A) (a : A) (read : Option (List A × List ℕ)) → with_front front (read >>= λ x. Some (a ∷ x.0, x.1)) ≡ with_front (front ++ a ∷ []) read
regroup {A} front a (Some x) = ap (λ (xs : List A). Some (xs, x.1)) (simp append_assoc)
regroup front a None = refl

-- one more value
pub goes_on : {A : Type 0} (one : Reader A) (front : List A) (count i : ℕ) (bytes : List ℕ) (a : A) (after : List ℕ) (total : Option (List A × List ℕ)) → i < count → one bytes ≡ Some (a, after)
    → with_front front (many_at one (count - i) bytes) ≡ total → with_front (front ++ a ∷ []) (many_at one (count - (i + 1)) after) ≡ total
unfolding many_at
goes_on one front count i bytes a after total lt h so_far =
    let k : count - i ≡ suc (count - (i + 1)) = omega arith in
    let step : with_front front (many_at one (count - i) bytes) ≡ with_front (front ++ a ∷ []) (many_at one (count - (i + 1)) after) = rw (k, h) (regroup front a (many_at one (count - (i + 1)) after)) in
    sym step ∙ so_far

-- no value where one is wanted
pub breaks_off : {A : Type 0} (one : Reader A) (front : List A) (count i : ℕ) (bytes : List ℕ) (total : Option (List A × List ℕ)) → i < count → one bytes ≡ None → with_front front (many_at one (count - i) bytes) ≡ total → total ≡ None
unfolding many_at
breaks_off one front count i bytes total lt h so_far =
    let k : count - i ≡ suc (count - (i + 1)) = omega arith in
    let step : with_front front (many_at one (count - i) bytes) ≡ None = rw (k, h) refl in
    sym so_far ∙ step

-- all values
pub is_done : {A : Type 0} (one : Reader A) (front : List A) (count i : ℕ) (bytes : List ℕ) (total : Option (List A × List ℕ)) → count ≤ i → with_front front (many_at one (count - i) bytes) ≡ total → total ≡ Some (front, bytes)
unfolding many_at
is_done {A} one front count i bytes total le so_far =
    let k : count - i ≡ 0 = omega arith in
    let step : with_front front (many_at one (count - i) bytes) ≡ Some (front, bytes) = rw k (ap (λ (xs : List A). Some (xs, bytes)) (append-nil front)) in
    sym so_far ∙ step
