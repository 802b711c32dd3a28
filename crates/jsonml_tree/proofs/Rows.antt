-- Lists of values in order, as lists of their views.
use Rattle.std.proofs.Common.{◌≡◌, List, [], ◌∷◌, map, refl, ap}
use Rattle.std.specs.Cmp.Lexicographic.{slice_cmp}
use Rattle.std.specs.Ordering.{ordering_then}
use Rattle.std.specs.declared.cmp.Ordering.{Ordering}

-- where values are compared by their views, lists of them are compared by the lists of their views
pub slice_cmp-map : {X K : Type 0} (f : X → K) (r : X → X → Ordering) (R : K → K → Ordering) → ((x y : X) → r x y ≡ R (f x) (f y))
    → (xs ys : List X) → slice_cmp r xs ys ≡ slice_cmp R (map f xs) (map f ys)
slice_cmp-map f r R same [] [] = refl
slice_cmp-map f r R same [] (y ∷ ys) = refl
slice_cmp-map f r R same (x ∷ xs) [] = refl
slice_cmp-map f r R same (x ∷ xs) (y ∷ ys) = rw (same x y) (ap (ordering_then (R (f x) (f y))) (slice_cmp-map f r R same xs ys))
