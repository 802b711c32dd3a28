-- The numbers of a row of stretches, one more at a time.
use Rattle.std.proofs.Common.{◌≡◌, ℕ, ◌+◌, ◌<◌, ◌≤◌, List, [], ◌∷◌, ◌++◌, length, map, take, get_or, refl, ap, ap₂, sym, ◌∙◌}
use Rattle.std.proofs.lemmas.List.{map-append, take_all}
use Rattle.key_spec.specs.Closed.{target_of}
use Rattle.key_spec.specs.Data.{PlainRule}
use Rattle.key_spec.proofs.Steps.{map-take}

module _ {X : Type 0} (f : X → ℕ) where
  -- the first
  pub first-row : (xs ys : List X) (x : X) (n : ℕ) → ys ≡ xs ++ x ∷ [] → xs ≡ [] → f x ≡ n → map f ys ≡ n ∷ []
  first-row xs ys x n e none is = ap (map f) (e ∙ ap (λ zs. zs ++ x ∷ []) none) ∙ ap (λ m. m ∷ []) is

  -- one more, behind those of the rules so far
  pub next-row : {Y : Type 0} (g : Y → ℕ) (xs ys : List X) (x : X) (n : ℕ) (rules : List Y) (i : ℕ) (r : Y) → ys ≡ xs ++ x ∷ [] → map f xs ≡ n ∷ map g (take i rules) → f x ≡ g r → i < length rules → r ≡ get_or rules i r
      → map f ys ≡ n ∷ map g (take (i + 1) rules)
  next-row g xs ys x n rules i r e h is low at_i =
      ap (map f) e ∙ map-append f xs (x ∷ []) ∙ ap₂ (λ js k. js ++ k ∷ []) h is ∙ ap (λ ks. n ∷ ks) (sym (map-take g rules i r low at_i))

-- all of them
pub whole-row : {X : Type 0} (rule : X → PlainRule) (g : List (List ℕ) → ℕ) (xs : List X) (i : ℕ) (ns : List ℕ) (n : ℕ) → ns ≡ n ∷ map (λ x. g (target_of (rule x))) (take i xs) → length xs ≤ i → ns ≡ n ∷ map g (map target_of (map rule xs))
whole-row {X} rule g xs i ns n e h = e ∙ ap (λ ys. n ∷ map (λ x. g (target_of (rule x))) ys) (take_all i xs h) ∙ ap (λ ks. n ∷ ks) (once xs)
  where
    once : (ys : List X) → map (λ y. g (target_of (rule y))) ys ≡ map g (map target_of (map rule ys))
    once [] = refl
    once (y ∷ ys) = ap (λ ks. g (target_of (rule y)) ∷ ks) (once ys)
