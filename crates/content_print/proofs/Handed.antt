-- A fault that a call gave and `?` hands on.
use Rattle.std.proofs.Common.{◌≡◌, Result, Ok, Err, sym, subst}
use Rattle.std.specs.Result.{IsErrAnd}

-- what is shown of the fault holds of the answer
pub at-err : {T E : Type 0} (r : Result T E) (f : E) → IsErrAnd r (λ d. d ≡ f) → (P : Result T E → Type 0) → P (Err f) → P r
at-err {E = E} (Ok x) f h P p = absurd h
at-err {E = E} (Err d) f h P p = subst (λ (z : E). P (Err z)) (sym h) p
