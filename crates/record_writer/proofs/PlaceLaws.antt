-- The sets at their places, as sets and places are added.
use Rattle.std.proofs.Common.{◌≡◌, ◌≢◌, ◌⊎◌, inl, inr, ◌-◌, ℕ, zero, suc, ◌<◌, ◌≤◌, List, [], ◌∷◌, ◌++◌, map, length, get_or, refl, sym, ap, arith}
use Rattle.version_set.specs.View.{pairs_of}
use Rattle.version_set.specs.declared.set.VersionSet.{VersionSet}
use Rattle.record_writer.specs.Places.{IsAtEnd, set_at, above}

pub set_at-grown : (xs more : List VersionSet) (n : ℕ) → n < length xs → set_at (xs ++ more) n ≡ set_at xs n
set_at-grown [] more n h = absurd (omega arith)
set_at-grown (x ∷ xs) more zero h = refl
set_at-grown (x ∷ xs) more (suc n) h = set_at-grown xs more n (omega arith)

pub set_at-behind : (xs : List VersionSet) (x : VersionSet) → set_at (xs ++ x ∷ []) (length xs) ≡ pairs_of x
set_at-behind [] x = refl
set_at-behind (y ∷ xs) x = set_at-behind xs x

pub set_at-is : (xs : List VersionSet) (n : ℕ) (x : VersionSet) → n < length xs → x ≡ get_or xs n x → set_at xs n ≡ pairs_of x
set_at-is [] n x h e = absurd (omega arith)
set_at-is (y ∷ xs) zero x h e = ap pairs_of (sym e)
set_at-is (y ∷ xs) (suc n) x h e = set_at-is xs n x (omega arith) e

-- places that are known keep their sets
pub sets-grown : (xs more : List VersionSet) (ps : List ℕ) → above ps ≤ length xs → map (set_at (xs ++ more)) ps ≡ map (set_at xs) ps
sets-grown xs more [] h = refl
sets-grown xs more (p ∷ ps) h = (let one = set_at-grown xs more p (omega arith) in let others = sets-grown xs more ps (omega arith) in λ i. one i ∷ others i)

pub above-behind : (ps : List ℕ) (p n : ℕ) → above ps ≤ n → p < n → above (ps ++ p ∷ []) ≤ n
above-behind [] p n h g = omega arith
above-behind (q ∷ ps) p n h g = (let others = above-behind ps p n (omega arith) g in omega arith)

pub not-at-end : (sets : List VersionSet) (set : List (ℕ × ℕ)) → set_at sets 0 ≢ set → set_at sets (length sets - 1) ≢ set → IsAtEnd sets set → ⊥
not-at-end sets set first last end = neither end.1
  where
    neither : (set_at sets 0 ≡ set) ⊎ (set_at sets (length sets - 1) ≡ set) → ⊥
    neither (inl is) = first is
    neither (inr is) = last is
