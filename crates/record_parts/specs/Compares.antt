-- Comparing values with bytes that spell a value.
use Rattle.std.specs.Prelude.{◌≡◌, ℕ, List, drop, Option, Some, None, ⊤}
use Rattle.std.specs.declared.cmp.Ordering.{Ordering}
use Rattle.std.specs.declared.cmp.Ordering.TheVariants.{Equal}

-- where a value is read, the answer is its order, and the offset is behind it if they are equal
abbrev pub Compares : {A : Type 0} → (A → Ordering) → Option (A × List ℕ) → List ℕ → Option (Ordering × ℕ) → Type 0
Compares {A} order read bytes None = (x : A × List ℕ) → read ≡ Some x → ⊥
Compares {A} order read bytes (Some r) = (x : A × List ℕ) → read ≡ Some x → (r.0 ≡ order x.0) × (r.0 ≡ Equal → drop r.1 bytes ≡ x.1)

abbrev pub ours : Option (Ordering × ℕ × ℕ) → Option (Ordering × ℕ)
ours None = None
ours (Some q) = Some (q.0, q.1)

abbrev pub IsBehind : List ℕ → List ℕ → Option (Ordering × ℕ × ℕ) → Type 0
IsBehind bytes rest None = ⊤
IsBehind bytes rest (Some q) = q.0 ≡ Equal → drop q.2 bytes ≡ rest

-- two values are read, one from each; the answer is their order, and the offsets are behind both if they are equal
abbrev pub ComparesBoth : {A : Type 0} → (A → A → Ordering) → Option (A × List ℕ) → Option (A × List ℕ) → List ℕ → List ℕ → Option (Ordering × ℕ × ℕ) → Type 0
ComparesBoth {A} order mine other bytes others q = (y : A × List ℕ) → other ≡ Some y → Compares (λ x. order x y.0) mine bytes (ours q) × IsBehind others y.1 q
