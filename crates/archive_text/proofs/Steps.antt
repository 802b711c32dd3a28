-- Texts of several elements, and what is left of a list.
use Rattle.std.proofs.Common.{◌≡◌, ℕ, suc, ◌+◌, ◌<◌, List, [], ◌∷◌, ◌++◌, length, map, drop, get_or, refl, sym, ap, ◌∙◌, append_assoc, drop-cons, add-one}
use Rattle.std.specs.List.{flat_map}

pub flat_map-map : {X Y : Type 0} (f : Y → List ℕ) (g : X → Y) (xs : List X) → flat_map f (map g xs) ≡ flat_map (λ x. f (g x)) xs
flat_map-map f g [] = refl
flat_map-map f g (x ∷ xs) = ap (λ l. f (g x) ++ l) (flat_map-map f g xs)

-- ---- what is left

pub left_of : {X : Type 0} (xs : List X) (i : ℕ) (x : X) → i < length xs → x ≡ get_or xs i x → drop i xs ≡ x ∷ drop (i + 1) xs
left_of xs i x here is = drop-cons xs i x here ∙ ap (λ y. y ∷ drop (suc i) xs) (sym is) ∙ ap (λ n. x ∷ drop n xs) (sym (add-one i))

-- three texts, one behind another
pub three : (old a b new s t u : List ℕ) → a ≡ old ++ s → b ≡ a ++ t → new ≡ b ++ u → new ≡ old ++ (s ++ (t ++ u))
three old a b new s t u p q r = r ∙ ap (λ l. l ++ u) (q ∙ ap (λ l. l ++ t) p) ∙ append_assoc (old ++ s) t u ∙ append_assoc old s (t ++ u)
