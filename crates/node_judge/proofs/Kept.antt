-- What is kept of a row: its last label, and what is still waited for.
use Rattle.std.proofs.Common.{◌≡◌, ◌==◌, Bool, true, false, cond, IsTrue, List, [], ◌∷◌, ◌++◌, length, map, filter, ℕ, Some, None, Result, Ok, Err, is_some, is_ok, OnOk, refl, ap, sym, ◌∙◌, true≢false, arith}
use Rattle.std.specs.Prelude.{suc, ◌||◌}
use Rattle.std.proofs.lemmas.Bool.Decides.{nat_tests}
use Rattle.keyed_tree.specs.Data.{PlainLabel}
use Rattle.xa_fields.specs.Reading.{whole}
use Rattle.record_parts.specs.Bounds.{IsLabel}
use Rattle.record_parts.specs.Reading.{label_at, name_at}
use Rattle.record_parts.specs.ShownParts.{spelled_label}
use Rattle.record_parts.specs.Spelling.{label_bytes}
use Rattle.node_judge.specs.Rows.{is_above}

-- ---- the last label

-- no bytes are no label
pub no_label : whole label_at [] ≡ None
unfolding label_at name_at whole
no_label = refl

pub first-above : (bytes : List ℕ) (l : PlainLabel) → IsTrue (length bytes == 0) → true ≡ is_above (whole label_at bytes) l
first-above [] l h = sym (ap (λ o. is_above o l) no_label)
first-above (b ∷ bytes) l h = absurd (not-none (length bytes) h)
  where
    not-none : (n : ℕ) → IsTrue (suc n == 0) → ⊥
    not-none n h = grind (arith, nat_tests)

module _ (l : PlainLabel) (is : IsLabel l) (old other bytes : List ℕ) (none : old ≡ []) (spelled : other ≡ label_bytes l) where
  put : (ok : Bool) → bytes ≡ cond ok (old ++ other) old → IsTrue ok → whole label_at bytes ≡ Some l
  put true e h = spelled_label l bytes is (e ∙ ap (λ xs. xs ++ other) none ∙ spelled)
  put false e h = absurd (true≢false (sym h))

  pub label-valid : (ok : Bool) → bytes ≡ cond ok (old ++ other) old → IsTrue (length bytes == 0 || is_some (whole label_at bytes))
  label-valid true e = (let there = put true e refl in rw there (or-true (length bytes == 0)))
    where
      or-true : (b : Bool) → (b || true) ≡ true
      or-true true = refl
      or-true false = refl
  label-valid false e = (let empty : bytes ≡ [] = e ∙ none in rw empty refl)

  pub label-put : {E : Type 0} (r : Result (Unit {0}) E) → bytes ≡ cond (is_ok r) (old ++ other) old → OnOk r (whole label_at bytes ≡ Some l)
  label-put (Ok x) e = put true e refl
  label-put (Err x) e = tt

-- ---- what is still waited for

pub map-filter : {X Y : Type 0} (v : X → Y) (p : Y → Bool) (xs : List X) → map v (filter (λ x. p (v x)) xs) ≡ filter p (map v xs)
map-filter v p [] = refl
map-filter v p (x ∷ xs) = elim (p (v x)) as (λ b. map v (cond b (x ∷ filter (λ x. p (v x)) xs) (filter (λ x. p (v x)) xs)) ≡ cond b (v x ∷ filter p (map v xs)) (filter p (map v xs))) [
  | true ↦ ap (λ ys. v x ∷ ys) (map-filter v p xs)
  | false ↦ map-filter v p xs
]

-- what follows from what holds where the call went well
pub on-ok : {X E P Q : Type 0} (r : Result X E) → (P → Q) → OnOk r P → OnOk r Q
on-ok (Ok x) f h = f h
on-ok (Err e) f h = tt
