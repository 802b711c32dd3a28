-- Which sets and timestamps pass the tests.
use Rattle.std.proofs.Common.{◌≡◌, ◌≢◌, ◌↔◌, ℕ, ◌+◌, ◌≤◌, ◌&&◌, Bool, leb, IsTrue, List, [], ◌∷◌, Some, None, refl, sym, ◌∙◌, arith}
use Rattle.std.specs.List.{AllByRecursion}
use Rattle.std.proofs.lemmas.Bool.{true≢false}
use Rattle.std.proofs.lemmas.Bool.Decides.{nat_tests}
use Rattle.keyed_tree.proofs.Kids.{both}
use Rattle.version_set.specs.Pairs.{IsFrom, IsCanonical, last_of}
use Rattle.archive_tree.specs.Data.{Stamp}
use Rattle.archive_tree.specs.PartsTest.{is_from}
use Rattle.archive_tree.proofs.Tells.{from-is_from}
use Rattle.record_parts.specs.Bounds.{most, IsSet, IsStamp}
use Rattle.record_parts.specs.Encodable.{both_hold}
use Rattle.record_parts.specs.Checks.{is_some_set, set_fits, stamp_fits}

le_of : (m n : ℕ) → IsTrue (leb m n) → m ≤ n
le_of m n h = grind (arith, nat_tests)

of_le : (m n : ℕ) → m ≤ n → IsTrue (leb m n)
of_le m n h = grind (arith, nat_tests)

from_of : (low : ℕ) (ps : List (ℕ × ℕ)) → IsTrue (is_from low ps) → IsFrom low ps
from_of low [] h = tt
from_of low (p ∷ ps) h =
    let one = both (leb low p.0 && leb p.0 p.1) (is_from (p.1 + 2) ps) h in
    let two = both (leb low p.0) (leb p.0 p.1) one.0 in
    (le_of low p.0 two.0, le_of p.0 p.1 two.1, from_of (p.1 + 2) ps one.1)

below_last : (low limit : ℕ) (ps : List (ℕ × ℕ)) → IsFrom low ps → last_of ps ≤ limit → AllByRecursion (λ p. p.1 ≤ limit) ps
below_last low limit [] h g = tt
below_last low limit (p ∷ []) h g = (g, tt)
below_last low limit (p ∷ q ∷ ps) h g =
    let rest = below_last (p.1 + 2) limit (q ∷ ps) h.2 g in
    let first : q.1 ≤ limit = rest.0 in
    let after : p.1 + 2 ≤ q.0 = h.2.0 in
    let up : q.0 ≤ q.1 = h.2.1 in
    (omega arith, rest)

last_below : (limit : ℕ) (ps : List (ℕ × ℕ)) → AllByRecursion (λ p. p.1 ≤ limit) ps → last_of ps ≤ limit
last_below limit [] h = omega arith
last_below limit (p ∷ []) h = h.0
last_below limit (p ∷ q ∷ ps) h = last_below limit (q ∷ ps) h.1

-- the last number decides, since the numbers of a set ascend
pub set_parts : (s : List (ℕ × ℕ)) → IsSet s ↔ (IsCanonical s × (last_of s ≤ most))
set_parts s = (λ h. (h.canonical, last_below most s h.within), λ h. record { canonical = h.0; within = below_last 1 most s h.0 h.1 })

set_there : (s : List (ℕ × ℕ)) → IsTrue (set_fits s) → IsSet s
set_there s h =
    let two = both (is_from 1 s) (leb (last_of s) most) h in
    (set_parts s).1 (from_of 1 s two.0, le_of (last_of s) most two.1)

set_back : (s : List (ℕ × ℕ)) → IsSet s → IsTrue (set_fits s)
set_back s h = (let p = (set_parts s).0 h in both_hold (is_from 1 s) (leb (last_of s) most) (from-is_from 1 s p.0) (of_le (last_of s) most p.1))

not_empty : (s : List (ℕ × ℕ)) → IsTrue (is_some_set s) → s ≢ []
not_empty [] h e = true≢false (sym h)
not_empty (p ∷ ps) h e = cc

empty_not : (s : List (ℕ × ℕ)) → s ≢ [] → IsTrue (is_some_set s)
empty_not [] h = absurd (h refl)
empty_not (p ∷ ps) h = refl

pub stamp_there : (s : Stamp) → IsTrue (stamp_fits s) → IsStamp s
stamp_there None h = tt
stamp_there (Some s) h =
    let two = both (is_some_set s) (set_fits s) h in
    (set_there s two.1, not_empty s two.0)

pub stamp_back : (s : Stamp) → IsStamp s → IsTrue (stamp_fits s)
stamp_back None h = refl
stamp_back (Some s) h = both_hold (is_some_set s) (set_fits s) (empty_not s h.1) (set_back s h.0)

pub set_test : (b : Bool) (s : List (ℕ × ℕ)) → b ≡ set_fits s → IsTrue b ↔ IsSet s
set_test b s e = (λ h. set_there s (sym e ∙ h), λ h. e ∙ set_back s h)

pub stamp_test : (b : Bool) (s : Stamp) → b ≡ stamp_fits s → IsTrue b ↔ IsStamp s
stamp_test b s e = (λ h. stamp_there s (sym e ∙ h), λ h. e ∙ stamp_back s h)
