-- Intervals of a set that are read one by one.
use Rattle.std.proofs.Common.{◌≡◌, ◌↔◌, ℕ, ◌+◌, ◌-◌, ◌<◌, ◌≤◌, ◌&&◌, Bool, true, false, leb, IsTrue, List, [], ◌∷◌, ◌++◌, length, get_or, Option, Some, None, refl, sym, ap, ◌∙◌, arith}
use Rattle.std.specs.Prelude.{if◌then◌else◌}
use Rattle.std.proofs.lemmas.Bool.Decides.{nat_tests}
use Rattle.std.proofs.lemmas.List.{length-append, get_or-append-add}
use Rattle.version_set.specs.Pairs.{IsCanonical}
use Rattle.version_set.specs.Walk.{end_of}
use Rattle.version_set.proofs.Ends.{end_of-get, may_stand}
use Rattle.timestamp_tree.specs.Reading.{next_pair}

-- behind the last interval
end_of-last : (ps : List (ℕ × ℕ)) (q : ℕ × ℕ) → end_of (ps ++ q ∷ []) ≡ q.1 + 2
end_of-last ps q =
    let all : List (ℕ × ℕ) = ps ++ q ∷ [] in
    let count = length-append ps (q ∷ []) in
    let at : length all - 1 ≡ length ps + 0 = omega arith in
    let last : get_or all (length all - 1) q ≡ q = ap (λ (n : ℕ). get_or all n q) at ∙ get_or-append-add ps (q ∷ []) 0 q in
    sym (end_of-get all q (omega arith)) ∙ ap (λ (p : ℕ × ℕ). p.1 + 2) last

-- too great a number
pub too_great : (most low : ℕ) (q : ℕ × ℕ) → most < q.1 → next_pair most low q ≡ None
too_great most low q lt =
    let no : leb q.1 most ≡ false = grind (arith, nat_tests) in
    rw no (ends (leb low q.0) (leb q.0 q.1))
  where
    ends : (a b : Bool) → ◌≡◌ {A = Option ℕ} (if a && b && false then Some (q.1 + 2) else None) None
    ends true true = refl
    ends true false = refl
    ends false true = refl
    ends false false = refl

-- an interval that may stand behind those of a set is the next one, and no other is
pub next_stands : (most : ℕ) (ps new : List (ℕ × ℕ)) (q : ℕ × ℕ) (may : Bool) → IsCanonical ps → q.1 ≤ most → IsTrue may ↔ IsCanonical (ps ++ q ∷ []) → new ≡ (if may then ps ++ q ∷ [] else ps)
    → next_pair most (end_of ps) q ≡ (if may then Some (end_of new) else None)
next_stands most ps new q true c fits h e =
    let both = (may_stand ps q c).1 (h.0 refl) in
    let low = both.0 in
    let order = both.1 in
    let a : leb (end_of ps) q.0 ≡ true = grind (arith, nat_tests) in
    let b : leb q.0 q.1 ≡ true = grind (arith, nat_tests) in
    let d : leb q.1 most ≡ true = grind (arith, nat_tests) in
    rw (a, b, d) (ap (λ (n : ℕ). Some n) (sym (ap end_of e ∙ end_of-last ps q)))
next_stands most ps new q false c fits h e = refused (leb (end_of ps) q.0) (leb q.0 q.1) (leb q.1 most) refl refl
  where
    refused : (a b d : Bool) → leb (end_of ps) q.0 ≡ a → leb q.0 q.1 ≡ b → ◌≡◌ {A = Option ℕ} (if a && b && d then Some (q.1 + 2) else None) None
    refused true true d k l = (
        let low : end_of ps ≤ q.0 = grind (arith, nat_tests) in
        let order : q.0 ≤ q.1 = grind (arith, nat_tests) in
        let stands = h.1 ((may_stand ps q c).0 (low, order)) in
        absurd cc)
    refused true false d k l = refl
    refused false true d k l = refl
    refused false false d k l = refl
