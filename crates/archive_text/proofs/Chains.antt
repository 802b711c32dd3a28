-- Pieces that come one behind another, of a whole that is known by an equation.
use Rattle.std.proofs.Common.{◌≡◌, ℕ, ◌++◌, List, Result, sym, ap, ◌∙◌, subst, append_assoc}
use Rattle.std.specs.Result.{IsErr}
use Rattle.xa_outside.specs.Taken.{Taken, Takes, TakesPrefix, Puts}
use Rattle.xa_outside.proofs.Output.{Puts-after, Puts-in, Takes-trans, outputs}

module _ {T E : Type 0} (r : Result T E) (whole : List ℕ) where
  pub second : (a b c : Taken) (x y z : List ℕ) → whole ≡ x ++ (y ++ z) → IsErr r → Takes a b x → TakesPrefix b c y → Puts a c r whole
  second a b c x y z e err p q = Puts-in a b c r whole x y z e err p q

  pub third : (a b c d : Taken) (x y z v : List ℕ) → whole ≡ x ++ (y ++ (z ++ v)) → IsErr r → Takes a b x → Takes b c y → TakesPrefix c d z → Puts a d r whole
  third a b c d x y z v e err p q s = Puts-in a c d r whole (x ++ y) z v (e ∙ sym (append_assoc x y (z ++ v))) err (Takes-trans a b c x y p q) s

  pub fourth : (a b c d f : Taken) (x y z v w : List ℕ) → whole ≡ x ++ (y ++ (z ++ (v ++ w))) → IsErr r → Takes a b x → Takes b c y → Takes c d z → TakesPrefix d f v → Puts a f r whole
  fourth a b c d f x y z v w e err p q s t = third a c d f (x ++ y) z v w (e ∙ sym (append_assoc x y (z ++ (v ++ w)))) err (Takes-trans a b c x y p q) s t

  pub two : (a b c : Taken) (x y : List ℕ) → whole ≡ x ++ y → Takes a b x → Puts b c r y → Puts a c r whole
  two a b c x y e p q = subst (Puts a c r) (sym e) (Puts-after a b c r x y p q)

  pub three : (a b c d : Taken) (x y z : List ℕ) → whole ≡ x ++ (y ++ z) → Takes a b x → Takes b c y → Puts c d r z → Puts a d r whole
  three a b c d x y z e p q s = two a b d x (y ++ z) e p (Puts-after b c d r y z q s)

  pub four : (a b c d f : Taken) (x y z v : List ℕ) → whole ≡ x ++ (y ++ (z ++ v)) → Takes a b x → Takes b c y → Takes c d z → Puts d f r v → Puts a f r whole
  four a b c d f x y z v e p q s t = three a b c f x y (z ++ v) e p q (Puts-after c d f r z v s t)

  pub five : (a b c d f g : Taken) (x y z v w : List ℕ) → whole ≡ x ++ (y ++ (z ++ (v ++ w))) → Takes a b x → Takes b c y → Takes c d z → Takes d f v → Puts f g r w → Puts a g r whole
  five a b c d f g x y z v w e p q s t u = four a b c d g x y z (v ++ w) e p q s (Puts-after d f g r v w t u)

pub ruleset chains = (outputs)

pub whole_is : (x y z v : List ℕ) → x ++ (y ++ (z ++ v)) ≡ (x ++ (y ++ z)) ++ v
whole_is x y z v = sym (append_assoc x (y ++ z) v ∙ ap (λ l. x ++ l) (append_assoc y z v))
