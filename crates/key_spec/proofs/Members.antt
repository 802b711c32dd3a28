-- What is an element of a list, and lists that ascend strictly by their elements.
use Rattle.std.proofs.Common.{◌≡◌, Bool, true, ◌⊎◌, inl, inr, ⊎_elim, List, [], ◌∷◌, ◌++◌, map, flat_map, fold, refl, ap, sym, ◌∙◌, subst, arith, zero, suc}
use Rattle.std.proofs.lemmas.Bool.{or_cases, or_left, or_right, and_parts, and_from}
use Rattle.std.proofs.lemmas.Cmp.{tied_back, tied_itself}
use Rattle.std.proofs.lemmas.Map.Keys.{sorted_head, sorted_tail}
use Rattle.std.specs.BTreeSet.{replace_key}
use Rattle.std.specs.Cmp.{IsTotalOrder}
use Rattle.std.specs.List.{list_any, list_all, AllByRecursion, Contains}
use Rattle.std.specs.List.Sorted.{IsStrictlySortedBy}
use Rattle.std.specs.Ordering.{match_ordering}
use Rattle.std.specs.declared.cmp.Ordering.{Ordering}
use Rattle.std.specs.declared.cmp.Ordering.TheVariants.{Less, Equal, Greater}

abbrev pub In : {X : Type 0} → X → List X → Type 0
In x [] = ⊥
In x (y ∷ ys) = (x ≡ y) ⊎ In x ys

module _ {X : Type 0} where
  pub In-left : (x : X) (xs ys : List X) → In x xs → In x (xs ++ ys)
  In-left x [] ys h = absurd h
  In-left x (y ∷ more) ys (inl e) = inl e
  In-left x (y ∷ more) ys (inr h) = inr (In-left x more ys h)

  pub In-right : (x : X) (xs ys : List X) → In x ys → In x (xs ++ ys)
  In-right x [] ys h = h
  In-right x (y ∷ more) ys h = inr (In-right x more ys h)

  pub In-cases : (x : X) (xs ys : List X) → In x (xs ++ ys) → In x xs ⊎ In x ys
  In-cases x [] ys h = inr h
  In-cases x (y ∷ more) ys (inl e) = inl (inl e)
  In-cases x (y ∷ more) ys (inr h) = ⊎_elim (λ l. inl (inr l)) (λ r. inr r) (In-cases x more ys h)

  -- the same by places
  pub from-Contains : (xs : List X) (x : X) → Contains xs x → In x xs
  from-Contains [] x c = absurd (omega (arith, c.1))
  from-Contains (y ∷ ys) x (zero, h, e) = inl (sym e)
  from-Contains (y ∷ ys) x (suc k, h, e) = inr (from-Contains ys x (k, omega arith, e))

  pub to-Contains : (xs : List X) (x : X) → In x xs → Contains xs x
  to-Contains [] x h = absurd h
  to-Contains (y ∷ ys) x (inl e) = (0, omega arith, sym e)
  to-Contains (y ∷ ys) x (inr h) = let c = to-Contains ys x h in (suc c.0, omega (arith, c.1), c.2)

  -- some element passes a test
  pub from_any : (p : X → Bool) (xs : List X) → list_any p xs ≡ true → (x : X) × In x xs × (p x ≡ true)
  from_any p [] e = cc
  from_any p (x ∷ xs) e = ⊎_elim (λ f. (x, inl refl, f)) (λ f. let found = from_any p xs f in (found.0, inr found.1, found.2)) (or_cases (p x) (list_any p xs) e)

  pub to_any : (p : X → Bool) (xs : List X) (x : X) → In x xs → p x ≡ true → list_any p xs ≡ true
  to_any p [] x h e = absurd h
  to_any p (y ∷ xs) x (inl same) e = or_left (p y) (list_any p xs) (ap p (sym same) ∙ e)
  to_any p (y ∷ xs) x (inr h) e = or_right (p y) (list_any p xs) (to_any p xs x h e)

  pub from_all : (p : X → Bool) (xs : List X) (x : X) → list_all p xs ≡ true → In x xs → p x ≡ true
  from_all p [] x e h = absurd h
  from_all p (y ∷ xs) x e (inl same) = ap p same ∙ (and_parts (p y) (list_all p xs) e).0
  from_all p (y ∷ xs) x e (inr h) = from_all p xs x (and_parts (p y) (list_all p xs) e).1 h

  pub to_all : (p : X → Bool) (xs : List X) → ((x : X) → In x xs → p x ≡ true) → list_all p xs ≡ true
  to_all p [] each = refl
  to_all p (x ∷ xs) each = and_from (p x) (list_all p xs) (each x (inl refl)) (to_all p xs (λ y h. each y (inr h)))

  from_recursion : (P : X → Type 0) (xs : List X) (x : X) → AllByRecursion P xs → In x xs → P x
  from_recursion P [] x all h = absurd h
  from_recursion P (y ∷ xs) x all (inl e) = subst P (sym e) all.0
  from_recursion P (y ∷ xs) x all (inr h) = from_recursion P xs x all.1 h

pub In-flat_map : {X Y : Type 0} (f : X → List Y) (xs : List X) (y : Y) → In y (flat_map f xs) → (x : X) × In x xs × In y (f x)
In-flat_map f [] y h = absurd h
In-flat_map f (x ∷ xs) y h = ⊎_elim (λ l. (x, inl refl, l)) (λ r. let found = In-flat_map f xs y r in (found.0, inr found.1, found.2)) (In-cases y (f x) (flat_map f xs) h)

pub to_flat_map : {X Y : Type 0} (f : X → List Y) (xs : List X) (x : X) (y : Y) → In x xs → In y (f x) → In y (flat_map f xs)
to_flat_map f [] x y h g = absurd h
to_flat_map f (z ∷ xs) x y (inl e) g = In-left y (f z) (flat_map f xs) (subst (λ w. In y (f w)) e g)
to_flat_map f (z ∷ xs) x y (inr h) g = In-right y (f z) (flat_map f xs) (to_flat_map f xs x y h g)

pub In-map : {X Y : Type 0} (f : X → Y) (xs : List X) (y : Y) → In y (map f xs) → (x : X) × In x xs × (y ≡ f x)
In-map f [] y h = absurd h
In-map f (x ∷ xs) y (inl e) = (x, inl refl, e)
In-map f (x ∷ xs) y (inr h) = let found = In-map f xs y h in (found.0, inr found.1, found.2)

pub to_map : {X Y : Type 0} (f : X → Y) (xs : List X) (x : X) → In x xs → In (f x) (map f xs)
to_map f [] x h = absurd h
to_map f (y ∷ xs) x (inl e) = inl (ap f e)
to_map f (y ∷ xs) x (inr h) = inr (to_map f xs x h)

module _ {X : Type 0} {R : X → X → Ordering} (o : IsTotalOrder R) where
  -- what is put in its place comes in, and nothing else
  pub In-put : (xs : List X) (k y : X) → In y (replace_key R xs k) → (y ≡ k) ⊎ In y xs
  In-put [] k y h = h
  In-put (x ∷ xs) k y h = at (R k x) (In-put xs k y) h
    where
      at : (r : Ordering) → (In y (replace_key R xs k) → (y ≡ k) ⊎ In y xs) → In y (match_ordering r (k ∷ x ∷ xs) (k ∷ xs) (x ∷ replace_key R xs k)) → (y ≡ k) ⊎ ((y ≡ x) ⊎ In y xs)
      at Less rest h = h
      at Equal rest h = ⊎_elim (λ e. inl e) (λ l. inr (inr l)) h
      at Greater rest h = ⊎_elim (λ e. inr (inl e)) (λ l. ⊎_elim (λ e. inl e) (λ m. inr (inr m)) (rest l)) h

  pub In-put_all : (old ks : List X) (y : X) → In y (fold (replace_key R) old ks) → In y old ⊎ In y ks
  In-put_all old [] y h = inl h
  In-put_all old (k ∷ ks) y h = ⊎_elim (λ l. ⊎_elim (λ e. inr (inl e)) (λ m. inl m) (In-put old k y l)) (λ r. inr (inr r)) (In-put_all (replace_key R old k) ks y h)

  -- some element stands at the place of z
  abbrev pub Covers : List X → X → Type 0
  Covers xs z = (e : X) × In e xs × (R e z ≡ Equal)

  put-new : (xs : List X) (k : X) → In k (replace_key R xs k)
  put-new [] k = inl refl
  put-new (x ∷ xs) k = at (R k x) (put-new xs k)
    where
      at : (r : Ordering) → In k (replace_key R xs k) → In k (match_ordering r (k ∷ x ∷ xs) (k ∷ xs) (x ∷ replace_key R xs k))
      at Less rest = inl refl
      at Equal rest = inl refl
      at Greater rest = inr rest

  put-covers : (xs : List X) (k z : X) → Covers xs z → Covers (replace_key R xs k) z
  put-covers [] k z c = absurd c.1
  put-covers (x ∷ xs) k z c = at (R k x) refl (put-covers xs k z) c
    where
      at : (r : Ordering) → R k x ≡ r → (Covers xs z → Covers (replace_key R xs k) z) → Covers (x ∷ xs) z → Covers (match_ordering r (k ∷ x ∷ xs) (k ∷ xs) (x ∷ replace_key R xs k)) z
      at Less f rest d = (d.0, inr d.1, d.2)
      at Equal f rest d = ⊎_elim (λ e. (k, inl refl, o.congr k x z f ∙ ap (λ w. R w z) (sym e) ∙ d.2)) (λ l. (d.0, inr l, d.2)) d.1
      at Greater f rest d = ⊎_elim (λ e. (d.0, inl e, d.2)) (λ l. let found = rest (d.0, l, d.2) in (found.0, inr found.1, found.2)) d.1

  put_all-covers : (old ks : List X) (z : X) → Covers old z → Covers (fold (replace_key R) old ks) z
  put_all-covers old [] z c = c
  put_all-covers old (k ∷ ks) z c = put_all-covers (replace_key R old k) ks z (put-covers old k z c)

  -- each place of what is put is there afterwards
  pub put_all-new : (old ks : List X) (z : X) → In z ks → Covers (fold (replace_key R) old ks) z
  put_all-new old [] z h = absurd h
  put_all-new old (k ∷ ks) z (inl e) = put_all-covers (replace_key R old k) ks z (k, put-new old k, ap (λ w. R w z) (sym e) ∙ tied_itself o z)
  put_all-new old (k ∷ ks) z (inr h) = put_all-new (replace_key R old k) ks z h

  pub head_less : (x : X) (xs : List X) (y : X) → IsStrictlySortedBy R (x ∷ xs) → In y xs → R x y ≡ Less
  head_less x xs y s h = from_recursion (λ z. R x z ≡ Less) xs y (sorted_head R x xs s) h

  never_less : (x : X) → R x x ≡ Less → ⊥
  never_less x e = let no : Equal ≡ Less = sym (tied_itself o x) ∙ e in cc

  -- in a list that ascends strictly one place has one element
  pub one_place : (xs : List X) (x y : X) → IsStrictlySortedBy R xs → In x xs → In y xs → R x y ≡ Equal → x ≡ y
  one_place [] x y s h g e = absurd h
  one_place (z ∷ xs) x y s (inl p) (inl q) e = p ∙ sym q
  one_place (z ∷ xs) x y s (inl p) (inr g) e = let no : Less ≡ Equal = sym (head_less z xs y s g) ∙ ap (λ w. R w y) (sym p) ∙ e in cc
  one_place (z ∷ xs) x y s (inr h) (inl q) e = let no : Less ≡ Equal = sym (head_less z xs x s h) ∙ ap (λ w. R w x) (sym q) ∙ tied_back o x y e in cc
  one_place (z ∷ xs) x y s (inr h) (inr g) e = one_place xs x y (sorted_tail R z xs s) h g e

  less_both : (x y : X) → R x y ≡ Less → R y x ≡ Less → ⊥
  less_both x y e f = never_less x (o.trans x y x e f)

  -- lists that ascend strictly are one where they have the same elements
  pub same_sorted : (xs ys : List X) → IsStrictlySortedBy R xs → IsStrictlySortedBy R ys → ((z : X) → In z xs → In z ys) → ((z : X) → In z ys → In z xs) → xs ≡ ys
  same_sorted [] [] s t f g = refl
  same_sorted [] (y ∷ ys) s t f g = absurd (g y (inl refl))
  same_sorted (x ∷ xs) [] s t f g = absurd (f x (inl refl))
  same_sorted (x ∷ xs) (y ∷ ys) s t f g =
      let first : x ≡ y = ⊎_elim (λ e. e) (λ l. ⊎_elim (λ e. sym e) (λ m. absurd (less_both x y (head_less x xs y s m) (head_less y ys x t l))) (g y (inl refl))) (f x (inl refl)) in
      let rest : xs ≡ ys = same_sorted xs ys (sorted_tail R x xs s) (sorted_tail R y ys t)
      (λ z h. ⊎_elim (λ e. absurd (never_less x (subst (λ w. R x w ≡ Less) (e ∙ sym first) (head_less x xs z s h)))) (λ l. l) (f z (inr h)))
      (λ z h. ⊎_elim (λ e. absurd (never_less y (subst (λ w. R y w ≡ Less) (e ∙ first) (head_less y ys z t h)))) (λ l. l) (g z (inr h))) in
      λ i. first i ∷ rest i
