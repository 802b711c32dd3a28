-- How names, contexts and key paths are read.
use Rattle.std.proofs.Common.{◌≡◌, ℕ, ◌+◌, ◌-◌, ◌<◌, List, [], ◌∷◌, ◌++◌, length, refl, ap, sym, ◌∙◌, arith, eqb, None, eqb-true, take, get_or, ne_eqb}
use Rattle.std.proofs.lemmas.Bool.{cond-false}
use Rattle.std.proofs.lemmas.List.{take_more, take_all}
use Rattle.key_spec.specs.Names.{context_of, tags_before}
use Rattle.key_spec.proofs.TokenLemmas.{by_test}

-- ---- contexts

pub context_of-none : (bs : List ℕ) → ((rest : List ℕ) → bs ≡ 47 ∷ rest → ⊥) → context_of bs ≡ None
context_of-none [] none = refl
context_of-none (b ∷ bs) none =
    by_test (eqb b 47)
    (λ e. absurd (none bs (ap (λ c. c ∷ bs) (eqb-true b 47 e))))
    (λ e. cond-false (eqb b 47) _ _ e)

-- ---- tags before an attribute

-- a list that is not empty is what stands before its last element, and that
pub from_last : (bs : List ℕ) → 0 < length bs → bs ≡ take (length bs - 1) bs ++ get_or bs (length bs - 1) 0 ∷ []
from_last bs some =
    let whole : take (length bs - 1 + 1) bs ≡ bs = take_all _ bs (omega arith) in
    sym whole ∙ take_more bs (length bs - 1) 0 (omega arith)

pub tags_before-none : (front : List ℕ) → 0 < length front → ((rest : List ℕ) → front ≡ rest ++ 47 ∷ [] → ⊥) → tags_before front ≡ None
tags_before-none front some none =
    by_test (eqb (get_or front (length front - 1) 0) 47)
    (λ e. absurd (none (take (length front - 1) front) (from_last front some ∙ ap (λ b. take (length front - 1) front ++ b ∷ []) (eqb-true _ 47 e))))
    (λ e. cond-false (eqb (length front) 0) _ _ (ne_eqb (length front) 0 (λ f. omega arith)) ∙ cond-false _ _ _ e)
