-- Rules put in their places.
use Rattle.std.proofs.Common.{◌≡◌, ◌≤◌, List, [], ◌∷◌, length, map, fold, refl, ap, arith}
use Rattle.std.specs.BTreeSet.{replace_key}
use Rattle.std.specs.Ordering.{match_ordering, on}
use Rattle.std.specs.declared.cmp.Ordering.{Ordering}
use Rattle.std.specs.declared.cmp.Ordering.TheVariants.{Less, Equal, Greater}

-- a key in its place, seen by a view
pub replace_key-map : {X Y : Type 0} (f : X → Y) (cmp : Y → Y → Ordering) (xs : List X) (x : X) → map f (replace_key (on f cmp) xs x) ≡ replace_key cmp (map f xs) (f x)
replace_key-map f cmp [] x = refl
replace_key-map f cmp (y ∷ ys) x = by_order (cmp (f x) (f y)) (replace_key-map f cmp ys x)
  where
    by_order : (o : Ordering) → map f (replace_key (on f cmp) ys x) ≡ replace_key cmp (map f ys) (f x) → map f (match_ordering o (x ∷ y ∷ ys) (x ∷ ys) (y ∷ replace_key (on f cmp) ys x)) ≡ match_ordering o (f x ∷ f y ∷ map f ys) (f x ∷ map f ys) (f y ∷ replace_key cmp (map f ys) (f x))
    by_order Less e = refl
    by_order Equal e = refl
    by_order Greater e = ap (λ zs. f y ∷ zs) e

pub length-replace_key : {X : Type 0} (cmp : X → X → Ordering) (xs : List X) (x : X) → length xs ≤ length (replace_key cmp xs x)
length-replace_key cmp [] x = omega arith
length-replace_key cmp (y ∷ ys) x = by_order (cmp x y) (length-replace_key cmp ys x)
  where
    by_order : (o : Ordering) → length ys ≤ length (replace_key cmp ys x) → length (y ∷ ys) ≤ length (match_ordering o (x ∷ y ∷ ys) (x ∷ ys) (y ∷ replace_key cmp ys x))
    by_order Less h = omega arith
    by_order Equal h = omega arith
    by_order Greater h = omega arith

pub length-put_all : {X : Type 0} (cmp : X → X → Ordering) (old xs : List X) → length old ≤ length (fold (replace_key cmp) old xs)
length-put_all cmp old [] = omega arith
length-put_all cmp old (x ∷ xs) = let one = length-replace_key cmp old x in let more = length-put_all cmp (replace_key cmp old x) xs in omega (arith, one, more)
