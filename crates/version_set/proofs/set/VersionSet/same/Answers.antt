use Rattle.std.proofs.Common.{◌≡◌, ℕ, ◌&&◌, Bool, true, false, List, eqb, ap, sym, ◌∙◌, refl}
use Rattle.std.specs.Bool.{Decides}
use Rattle.std.proofs.lemmas.Slice.Eq.{slice_eq-Decides}
use Rattle.std.proofs.lemmas.Bool.{eqb-true, eq-eqb}
use Rattle.version_set.specs.Members.{members}
use Rattle.version_set.proofs.MembersLemmas.{members-injective}
use Rattle.version_set.proofs.set.VersionSet.same.Goals as goal

pair_test : (x y : ℕ × ℕ) → Decides (eqb x.0 y.0 && eqb x.1 y.1) (x ≡ y)
pair_test x y = (λ h. (let both = parts (eqb x.0 y.0) (eqb x.1 y.1) h in λ i. (eqb-true x.0 y.0 both.0 i, eqb-true x.1 y.1 both.1 i)), λ e. (let first = eq-eqb x.0 y.0 (λ i. (e i).0) in let last = eq-eqb x.1 y.1 (λ i. (e i).1) in rw (first, last) refl))
  where
    parts : (a b : Bool) → (a && b) ≡ true → (a ≡ true) × (b ≡ true)
    parts true b h = (refl, h)
    parts false b h = absurd cc

moved : (r : Bool) (xs ys us vs : List (ℕ × ℕ)) → us ≡ xs → vs ≡ ys → Decides r (us ≡ vs) → Decides r (xs ≡ ys)
moved r xs ys us vs e f h = (λ t. sym e ∙ h.0 t ∙ f, λ t. h.1 (e ∙ t ∙ sym f))

pub returns-clause-pairs : goal.returns-clause-pairs
returns-clause-pairs c = moved c.eq.result c.args.self.now.pairs.items c.args.other.now.pairs.items c.pairs.result.now c.pairs-2.result.now c.pairs.ensures c.pairs-2.ensures (slice_eq-Decides pair_test _ _ _ c.eq.ensures)

pub returns-clause-members : goal.returns-clause-members
returns-clause-members c =
    let decides = moved c.eq.result c.args.self.now.pairs.items c.args.other.now.pairs.items c.pairs.result.now c.pairs-2.result.now c.pairs.ensures c.pairs-2.ensures (slice_eq-Decides pair_test _ _ _ c.eq.ensures) in
    (λ t. ap members (decides.0 t), λ e. decides.1 (members-injective c.args.self.now.pairs.items c.args.other.now.pairs.items c.args.self.now.canonical c.args.other.now.canonical e))
