-- Lists in order, and what they have.
use Rattle.std.specs.Prelude.{◌≡◌, ◌≢◌, List, [], ◌∷◌, ◌⊎◌, ⊤}
use Rattle.std.specs.List.{AllByRecursion}
use Rattle.std.specs.declared.cmp.Ordering.{Ordering}
use Rattle.std.specs.declared.cmp.Ordering.TheVariants.{Less}

-- each item is below every one after it
abbrev pub Ascends : {K : Type 0} → (K → K → Ordering) → List K → Type 0
Ascends r [] = ⊤
Ascends r (x ∷ xs) = AllByRecursion (λ y. r x y ≡ Less) xs × Ascends r xs

-- the item is one of the list
abbrev pub Has : {K : Type 0} → K → List K → Type 0
Has k [] = ⊥
Has k (x ∷ xs) = (x ≡ k) ⊎ Has k xs

-- any two of them are different
abbrev pub AllDiffer : {K : Type 0} → List K → Type 0
AllDiffer [] = ⊤
AllDiffer (x ∷ xs) = AllByRecursion (λ y. x ≢ y) xs × AllDiffer xs
