-- Intervals of some sets divide a set exactly where the sets do.
use Rattle.std.proofs.Common.{◌≡◌, ◌∙◌, List, [], ◌∷◌, ◌++◌, ℕ, map, refl, ap}
use Rattle.std.specs.List.{AllByRecursion, flat_map}
use Rattle.std.specs.List.Sorted.{IsPermutation, IsNonDecreasingBy}
use Rattle.version_set.specs.Members.{members}
use Rattle.version_set.specs.Pairs.{IsCanonical}
use Rattle.archive_tree.specs.PartsTest.{are_parts, do_tile}
use Rattle.archive_tree.proofs.Tiles.{tiles_tell}

abbrev Canonical : Type 0
Canonical = (s : List (ℕ × ℕ)) × IsCanonical s

sets : (ss : List (List (ℕ × ℕ))) → AllByRecursion IsCanonical ss → List Canonical
sets [] h = []
sets (s ∷ ss) h = (s, h.0) ∷ sets ss h.1

sets-flat : (ss : List (List (ℕ × ℕ))) (h : AllByRecursion IsCanonical ss) → flat_map (λ s. s) ss ≡ flat_map (λ (c : Canonical). c.0) (sets ss h)
unfolding sets
sets-flat [] h = refl
sets-flat (s ∷ ss) h = ap (λ ps. s ++ ps) (sets-flat ss h.1)

sets-members : (ss : List (List (ℕ × ℕ))) (h : AllByRecursion IsCanonical ss) → map (λ (c : Canonical). members c.0) (sets ss h) ≡ map members ss
unfolding sets
sets-members [] h = refl
sets-members (s ∷ ss) h = ap (λ ns. members s ∷ ns) (sets-members ss h.1)

pub tiles-divide : (whole : List (ℕ × ℕ)) (ss : List (List (ℕ × ℕ))) (all sorted : List (ℕ × ℕ)) → IsCanonical whole → AllByRecursion IsCanonical ss → all ≡ flat_map (λ s. s) ss
    → IsPermutation all sorted → IsNonDecreasingBy (λ (p : ℕ × ℕ). p.0) sorted → do_tile 0 whole sorted ≡ are_parts (members whole) (map members ss)
tiles-divide whole ss all sorted c h e moved up =
    tiles_tell (λ (c : Canonical). c.0) (λ c. c.1) whole (sets ss h) all sorted c (e ∙ sets-flat ss h) moved up ∙ ap (are_parts (members whole)) (sets-members ss h)
