-- The orders of names, paths and rules are total, and what compares equal is equal.
use Rattle.std.proofs.Common.{◌≡◌, ℕ, List, [], ◌∷◌, refl, subst, Decides}
use Rattle.std.proofs.lemmas.Cmp.{tied_itself}
use Rattle.std.proofs.lemmas.Map.Lookups.{CmpEqualImpliesEq, exact_bytes}
use Rattle.std.specs.Cmp.{Equal-is}
use Rattle.std.specs.Cmp.Lexicographic.{slice_cmp}
use Rattle.std.specs.Ordering.{is_eq, ordering_then}
use Rattle.std.specs.declared.cmp.Ordering.{Ordering}
use Rattle.std.specs.declared.cmp.Ordering.TheVariants.{Less, Equal, Greater}
use Rattle.key_spec.specs.Data.{PlainRule}
use Rattle.key_spec.specs.Laws.{path_cmp_total}
use Rattle.key_spec.specs.Rules.{name_cmp, path_cmp, rule_cmp}

pub both_equal : (o p : Ordering) → ordering_then o p ≡ Equal → (o ≡ Equal) × (p ≡ Equal)
both_equal Less p e = cc
both_equal Equal p e = (refl, e)
both_equal Greater p e = cc

lists_exact : {K : Type 0} {R : K → K → Ordering} → CmpEqualImpliesEq R → CmpEqualImpliesEq (slice_cmp R)
lists_exact x [] [] e = refl
lists_exact x [] (b ∷ bs) e = cc
lists_exact x (a ∷ more) [] e = cc
lists_exact {K} {R} x (a ∷ more) (b ∷ bs) e =
    let both = both_equal (R a b) (slice_cmp R more bs) e in
    let first : a ≡ b = x a b both.0 in
    let rest : more ≡ bs = lists_exact x more bs both.1 in
    λ i. first i ∷ rest i

pub path_cmp_exact : CmpEqualImpliesEq path_cmp
path_cmp_exact = lists_exact exact_bytes

-- the test tells whether two paths are one
pub path_cmp-Decides : (p q : List (List ℕ)) → Decides (is_eq (path_cmp p q)) (p ≡ q)
path_cmp-Decides p q =
    (λ e. path_cmp_exact p q ((Equal-is (path_cmp p q)).0 e), λ e. (Equal-is (path_cmp p q)).1 (subst (λ r. path_cmp p r ≡ Equal) e (tied_itself path_cmp_total p)))

-- rules at one place have one context and one tag
pub rule_cmp-Equal : (r s : PlainRule) → rule_cmp r s ≡ Equal → (r.context ≡ s.context) × (r.tag ≡ s.tag)
rule_cmp-Equal r s e =
    let both = both_equal (path_cmp r.context s.context) (name_cmp r.tag s.tag) e in
    (path_cmp_exact r.context s.context both.0, exact_bytes r.tag s.tag both.1)
