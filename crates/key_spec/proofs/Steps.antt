-- One step of a loop over a list whose elements are seen by a view.
use Rattle.std.proofs.Common.{◌≡◌, ℕ, ◌+◌, ◌<◌, List, [], ◌∷◌, ◌++◌, length, map, ap, sym, ◌∙◌, take, drop, get_or, flat_map}
use Rattle.std.proofs.lemmas.List.{take_more, drop_more, map-append, take-append-drop, append-nil}
use Rattle.std.proofs.lemmas.Grind.{flat_map-append}

module _ {X Y : Type 0} (f : X → Y) (xs : List X) (i : ℕ) (x : X) (here : i < length xs) (is : x ≡ get_or xs i x) where
  -- what is left begins with the element
  pub map-drop : map f (drop i xs) ≡ f x ∷ map f (drop (i + 1) xs)
  map-drop = ap (map f) (drop_more xs i x here) ∙ ap (λ y. f y ∷ map f (drop (i + 1) xs)) (sym is)

  -- what is done ends with it afterwards
  pub map-take : map f (take (i + 1) xs) ≡ map f (take i xs) ++ f x ∷ []
  map-take = ap (map f) (take_more xs i x here) ∙ map-append f (take i xs) (get_or xs i x ∷ []) ∙ ap (λ y. map f (take i xs) ++ f y ∷ []) (sym is)

  -- both together are the whole
  pub map-split : map f xs ≡ map f (take i xs) ++ f x ∷ map f (drop (i + 1) xs)
  map-split = ap (map f) (sym (take-append-drop i xs)) ∙ map-append f (take i xs) (drop i xs) ∙ ap (λ ys. map f (take i xs) ++ ys) map-drop

-- the same where each element gives a list
pub flat_map-take : {X Y Z : Type 0} (g : Y → List Z) (f : X → Y) (xs : List X) (i : ℕ) (x : X) → i < length xs → x ≡ get_or xs i x
    → flat_map g (map f (take (i + 1) xs)) ≡ flat_map g (map f (take i xs)) ++ g (f x)
flat_map-take g f xs i x here is =
    ap (flat_map g) (map-take f xs i x here is) ∙ flat_map-append g (map f (take i xs)) (f x ∷ []) ∙ ap (λ ys. flat_map g (map f (take i xs)) ++ ys) (append-nil (g (f x)))
