-- Closed rules have few key paths.
use Rattle.std.proofs.Common.{◌≡◌, ℕ, ◌<◌, ◌≤◌, Bool, true, false, cond, inl, inr, List, [], ◌∷◌, length, map, get_or, ltb, refl, subst, arith, Option, Some, None, zero, suc}
use Rattle.std.proofs.Math.Logic.{∥∥₁_elim}
use Rattle.std.proofs.Math.Bridge.{le_prop}
use Rattle.std.proofs.lemmas.Bool.{or_parts, ltb-false}
use Rattle.std.proofs.lemmas.List.{length-map, get_or-map}
use Rattle.key_spec.specs.Data.{PlainPath, PlainRule}
use Rattle.key_spec.specs.Closed.{clashes, exceeds, IsClosed}
use Rattle.key_spec.proofs.ClosedLaws.{closed_paths}
use Rattle.key_spec.proofs.Members.{In}

abbrev pub HasFew : PlainRule → Type 0
HasFew r = length r.paths ≤ 16

few_from_why : (paths : List PlainPath) (a b : Bool) → clashes paths ≡ a → exceeds paths ≡ b → cond {A = Option ℕ} a (Some 4) (cond b (Some 7) None) ≡ None → length paths ≤ 16
few_from_why paths true b e f h = cc
few_from_why paths false true e f h = cc
few_from_why paths false false e f h = ltb-false 16 (length paths) (or_parts (ltb 16 (length paths)) _ f).0

at-In : {X : Type 0} (xs : List X) (i : ℕ) (d : X) → i < length xs → In (get_or xs i d) xs
at-In [] i d h = absurd (omega (arith, h))
at-In (x ∷ xs) zero d h = inl refl
at-In (x ∷ xs) (suc i) d h = inr (at-In xs i d (omega (arith, h)))

few-closed : (rules : List PlainRule) (r : PlainRule) → IsClosed rules → In r rules → HasFew r
few-closed rules r h g = few_from_why r.paths (clashes r.paths) (exceeds r.paths) refl refl (closed_paths h.0 rules h.1 r g)

-- each closed rule has at most 16 key paths
pub kept-few : {X : Type 0} (f : X → PlainRule) (xs : List X) (i : ℕ) (d : X) → ∥ IsClosed (map f xs) ∥₁ → i < length xs → HasFew (f (get_or xs i d))
kept-few f xs i d h within =
    let inside : i < length (map f xs) = simp length-map within in
    subst HasFew (get_or-map f xs i d (f d) within) (∥∥₁_elim h le_prop (λ c. few-closed (map f xs) (get_or (map f xs) i (f d)) c (at-In (map f xs) i (f d) inside)))
