-- What is picked of a list of versions.
use Rattle.std.proofs.Common.{◌≡◌, ◌≢◌, ℕ, List, [], ◌∷◌, ◌++◌, Option, Some, None, refl, ap}
use Rattle.std.proofs.lemmas.List.{map-append}
use Rattle.std.specs.List.{AllByRecursion}
use Rattle.keyed_tree.specs.Data.{PlainKeyed}
use Rattle.archive_tree.specs.Stands.{nums, those}
use Rattle.archive_tree.proofs.Those.{onto}

-- what holds of each picked tree
pub all_picked : (P Q : PlainKeyed → Type 0) (f : PlainKeyed → Option PlainKeyed) → ((k j : PlainKeyed) → f k ≡ Some j → P k → Q j) → (ws : List (ℕ × PlainKeyed)) → AllByRecursion (λ w. P w.1) ws → AllByRecursion (λ w. Q w.1) (those f ws)
all_picked P Q f g [] h = tt
all_picked P Q f g (w ∷ ws) h =
    let rest = all_picked P Q f g ws h.1 in
    elim (f w.1) as (λ o. f w.1 ≡ o → AllByRecursion (λ w. Q w.1) (onto w.0 o (those f ws))) [
      | None ↦ λ e. rest
      | Some j ↦ λ e. (g w.1 j e h.0, rest)
    ] refl

pub those-append : (f : PlainKeyed → Option PlainKeyed) (ws : List (ℕ × PlainKeyed)) (n : ℕ) (k : PlainKeyed) → those f (ws ++ (n, k) ∷ []) ≡ those f ws ++ onto n (f k) []
those-append f [] n k = refl
those-append f (w ∷ ws) n k =
    let rest = those-append f ws n k in
    elim (f w.1) as (λ o. onto w.0 o (those f (ws ++ (n, k) ∷ [])) ≡ onto w.0 o (those f ws) ++ onto n (f k) []) [
      | None ↦ rest
      | Some j ↦ ap (λ z. (w.0, j) ∷ z) rest
    ]

pub nums-append : (ws : List (ℕ × PlainKeyed)) (n : ℕ) (k : PlainKeyed) → nums (ws ++ (n, k) ∷ []) ≡ nums ws ++ n ∷ []
nums-append ws n k = map-append _ ws ((n, k) ∷ [])

-- ---- lists one after another

pub no_items : {X : Type 0} (xs : List X) → ¬ (xs ≢ []) → xs ≡ []
no_items [] h = refl
no_items (x ∷ xs) h = absurd (h (λ d. cc))

pub some_push : {K : Type 0} (xs : List K) (x : K) → xs ++ x ∷ [] ≢ []
some_push [] x e = cc
some_push (y ∷ ys) x e = cc

pub all_append : {K : Type 0} (P : K → Type 0) (xs ys : List K) → AllByRecursion P xs → AllByRecursion P ys → AllByRecursion P (xs ++ ys)
all_append P [] ys h g = g
all_append P (x ∷ xs) ys h g = (h.0, all_append P xs ys h.1 g)
