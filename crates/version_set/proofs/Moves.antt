-- Adding a number to each member.
use Rattle.std.proofs.Common.{◌≡◌, ℕ, zero, suc, ◌+◌, ◌-◌, ◌<◌, ◌≤◌, ◌&&◌, ◌||◌, Bool, true, false, IsTrue, List, [], ◌∷◌, ◌++◌, length, map, get_or, refl, sym, ap, ◌∙◌, arith, ℤ, pos, negsuc, ◌+ℤ◌, ◌≤ℤ◌, leb}
use Rattle.std.specs.List.{range_with_len}
use Rattle.std.proofs.lemmas.Int.{ints}
use Rattle.std.proofs.lemmas.List.{map-append}
use Rattle.std.proofs.lemmas.Bool.Decides.{nat_tests}
use Rattle.version_set.specs.Pairs.{IsFrom, IsCanonical}
use Rattle.version_set.specs.Members.{numbers, members, has, moved, moved_pair, whole_number, IsVersion}
use Rattle.version_set.proofs.MembersLemmas.{has-members, has-append}

whole : (z : ℤ) → pos 1 ≤ℤ z → pos (whole_number z) ≡ z
whole (pos n) h = refl
whole (negsuc n) h = absurd (omega (arith, ints))

-- the place of a number behind one that can be moved
moved-+ : (by : ℤ) (a k : ℕ) → pos 1 ≤ℤ (pos a +ℤ by) → moved by (a + k) ≡ moved by a + k
moved-+ by a k h =
    let first = whole (pos a +ℤ by) h in
    let later = whole (pos (a + k) +ℤ by) (omega (arith, ints)) in
    omega (arith, ints)

map-range : (by : ℤ) (a k : ℕ) → pos 1 ≤ℤ (pos a +ℤ by) → map (moved by) (range_with_len a k) ≡ range_with_len (moved by a) k
map-range by a zero h = refl
map-range by a (suc k) h =
    ap (λ (ns : List ℕ). moved by a ∷ ns) (map-range by (a + 1) k (omega (arith, ints)) ∙ ap (λ (n : ℕ). range_with_len n k) (moved-+ by a 1 h))

map-numbers : (by : ℤ) (p : ℕ × ℕ) → p.0 ≤ p.1 → pos 1 ≤ℤ (pos p.0 +ℤ by) → map (moved by) (numbers p) ≡ numbers (moved_pair by p)
map-numbers by p order h =
    let to : p.0 + (p.1 - p.0) ≡ p.1 = omega arith in
    let far = moved-+ by p.0 (p.1 - p.0) h in
    let same : moved by p.1 ≡ moved by p.0 + (p.1 - p.0) = ap (moved by) (sym to) ∙ far in
    let k : p.1 + 1 - p.0 ≡ moved by p.1 + 1 - moved by p.0 = omega arith in
    map-range by p.0 (p.1 + 1 - p.0) h ∙ ap (range_with_len (moved by p.0)) k

-- each of the numbers can be moved
abbrev pub CanMove : ℤ → List (ℕ × ℕ) → Type 0
CanMove by ps = (n : ℕ) → IsTrue (has (members ps) n) → IsVersion (pos n +ℤ by)

first_in : (p : ℕ × ℕ) (ps : List (ℕ × ℕ)) → p.0 ≤ p.1 → IsTrue (has (members (p ∷ ps)) p.0)
first_in p ps order = has-members (p ∷ ps) p.0 ∙ (let e : (leb p.0 p.0 && leb p.0 p.1) ≡ true = grind (arith, nat_tests) in rw e refl)

last_in : (p : ℕ × ℕ) (ps : List (ℕ × ℕ)) → p.0 ≤ p.1 → IsTrue (has (members (p ∷ ps)) p.1)
last_in p ps order = has-members (p ∷ ps) p.1 ∙ (let e : (leb p.0 p.1 && leb p.1 p.1) ≡ true = grind (arith, nat_tests) in rw e refl)

rest_in : (p : ℕ × ℕ) (ps : List (ℕ × ℕ)) (n : ℕ) → IsTrue (has (members ps) n) → IsTrue (has (members (p ∷ ps)) n)
rest_in p ps n h = has-append (numbers p) (members ps) n ∙ ap (λ (x : Bool). has (numbers p) n || x) h ∙ or_true (has (numbers p) n)
  where
    or_true : (a : Bool) → (a || true) ≡ true
    or_true true = refl
    or_true false = refl

-- the ends of an interval are members
pub ends_in : (low : ℕ) (ps : List (ℕ × ℕ)) (i : ℕ) (d : ℕ × ℕ) → IsFrom low ps → i < length ps → IsTrue (has (members ps) (get_or ps i d).0) × IsTrue (has (members ps) (get_or ps i d).1)
ends_in low [] i d c lt = absurd (omega arith)
ends_in low (p ∷ ps) zero d c lt = (first_in p ps c.1, last_in p ps c.1)
ends_in low (p ∷ ps) (suc i) d c lt =
    let rest = ends_in (p.1 + 2) ps i d c.2 (omega arith) in
    (rest_in p ps (get_or ps i d).0 rest.0, rest_in p ps (get_or ps i d).1 rest.1)

pub members-moved : (by : ℤ) (low : ℕ) (ps : List (ℕ × ℕ)) → IsFrom low ps → CanMove by ps → members (map (moved_pair by) ps) ≡ map (moved by) (members ps)
members-moved by low [] c h = refl
members-moved by low (p ∷ ps) c h =
    let rest = members-moved by (p.1 + 2) ps c.2 (λ n g. h n (rest_in p ps n g)) in
    let first = map-numbers by p c.1 (h p.0 (first_in p ps c.1)).0 in
    (λ i. sym first i ++ rest i) ∙ sym (map-append (moved by) (numbers p) (members ps))

moved_from : (by : ℤ) (low low' : ℕ) (ps : List (ℕ × ℕ)) → IsFrom low ps → CanMove by ps → ((n : ℕ) → low ≤ n → IsVersion (pos n +ℤ by) → low' ≤ moved by n) → IsFrom low' (map (moved_pair by) ps)
moved_from by low low' [] c h le = tt
moved_from by low low' (p ∷ ps) c h le =
    let order = c.1 in
    let from = h p.0 (first_in p ps order) in
    let to = h p.1 (last_in p ps order) in
    let a = whole (pos p.0 +ℤ by) from.0 in
    let b = whole (pos p.1 +ℤ by) to.0 in
    (le p.0 c.0 from, omega (arith, ints), moved_from by (p.1 + 2) (moved by p.1 + 2) ps c.2 (λ n g. h n (rest_in p ps n g)) (λ n behind fits. (let e = whole (pos n +ℤ by) fits.0 in omega (arith, ints))))

pub IsCanonical-moved : (by : ℤ) (ps : List (ℕ × ℕ)) → IsCanonical ps → CanMove by ps → IsCanonical (map (moved_pair by) ps)
IsCanonical-moved by ps c h = moved_from by 1 1 ps c h (λ n le fits. (let low = fits.0 in let e = whole (pos n +ℤ by) low in omega (arith, ints)))
