-- Sets of texts that grow.
use Rattle.std.proofs.Common.{◌≡◌, ℕ, Bool, true, false, ◌||◌, List, [], ◌∷◌, ◌++◌, refl, ap, sym, ◌∙◌, String, Global, bytes_eq}
use Rattle.std.proofs.lemmas.List.Folds.{list_any-append}
use Rattle.std.specs.BTreeSet.{BTreeSet, contains_text}
use Rattle.key_spec.specs.Texts.{has_text, Holds, Adds}

pub Holds-Adds : (old new : BTreeSet (String Global)) (texts more : List (List ℕ)) → Holds old texts → Adds old new more → Holds new (texts ++ more)
Holds-Adds old new texts more holds adds = λ q.
    adds q ∙ ap (λ b. b || has_text more q) (holds q) ∙ sym (list_any-append (bytes_eq q) texts more)

next : (a b c : Bool) → (a || (b || c)) ≡ ((a || (b || false)) || c)
next true b c = refl
next false true c = refl
next false false c = refl

-- one text is taken in, and the others are left
pub Adds-next : (old new : BTreeSet (String Global)) (text : List ℕ) (rest : List (List ℕ)) → Adds old new (text ∷ [])
    → (q : List ℕ) → (contains_text old q || has_text (text ∷ rest) q) ≡ (contains_text new q || has_text rest q)
Adds-next old new text rest adds q = next (contains_text old q) (bytes_eq q text) (has_text rest q) ∙ ap (λ b. b || has_text rest q) (sym (adds q))

or-none : (b : Bool) → b ≡ (b || false)
or-none true = refl
or-none false = refl

pub Adds-none : (set : BTreeSet (String Global)) → Adds set set []
Adds-none set = λ q. or-none (contains_text set q)

or-assoc : (a b c : Bool) → ((a || b) || c) ≡ (a || (b || c))
or-assoc true b c = refl
or-assoc false b c = refl

pub Adds-append : (old mid new : BTreeSet (String Global)) (texts more : List (List ℕ)) → Adds old mid texts → Adds mid new more → Adds old new (texts ++ more)
Adds-append old mid new texts more a b = λ q.
    b q ∙ ap (λ c. c || has_text more q) (a q) ∙ or-assoc (contains_text old q) (has_text texts q) (has_text more q)
    ∙ ap (λ c. contains_text old q || c) (sym (list_any-append (bytes_eq q) texts more))
