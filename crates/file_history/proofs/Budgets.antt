-- How much is left to look at, where a row is halved.
use Rattle.std.proofs.Common.{◌≡◌, ℕ, zero, suc, ◌+◌, ◌-◌, ◌*◌, ◌/◌, ◌<◌, ◌≤◌, List, [], ◌∷◌, ◌++◌, map, length, refl, sym, ap, subst, ◌∙◌, arith}
use Rattle.std.proofs.lemmas.List.{map-append}
use Rattle.archive_tree.specs.Data.{PlainNode}
use Rattle.record_format.specs.Probed.{greatest_sum, most_probes}
use Rattle.file_rows.proofs.Halves.{probes-less}
use Rattle.file_history.specs.Parts.{opening_size, cost}

-- ---- sums

sum-zero : (xs : List ℕ) → greatest_sum 0 xs ≡ 0
sum-zero [] = refl
sum-zero (x ∷ xs) = refl

sum-more : (p : ℕ) (xs : List ℕ) → greatest_sum p xs ≤ greatest_sum (suc p) xs
sum-more p [] = omega arith
sum-more zero (x ∷ xs) = omega arith
sum-more (suc p) (x ∷ xs) = (let a = sum-more p xs in let b = sum-more (suc p) xs in omega (arith, a, b))

sum-plus : (d p : ℕ) (xs : List ℕ) → greatest_sum p xs ≤ greatest_sum (d + p) xs
sum-plus zero p xs = (let e : p ≡ 0 + p = omega arith in subst (λ (n : ℕ). greatest_sum p xs ≤ greatest_sum n xs) e (omega arith))
sum-plus (suc d) p xs =
    let e : suc (d + p) ≡ suc d + p = omega arith in
    let a = sum-plus d p xs in
    let b = sum-more (d + p) xs in
    subst (λ (n : ℕ). greatest_sum p xs ≤ greatest_sum n xs) e (omega (arith, a, b))

sum-grows : (p q : ℕ) (xs : List ℕ) → p ≤ q → greatest_sum p xs ≤ greatest_sum q xs
sum-grows p q xs h = (let e : (q - p) + p ≡ q = omega (arith, h) in subst (λ (n : ℕ). greatest_sum p xs ≤ greatest_sum n xs) e (sum-plus (q - p) p xs))

sum-behind : (p x : ℕ) (xs : List ℕ) → greatest_sum p xs ≤ greatest_sum p (x ∷ xs)
sum-behind zero x xs = omega (arith, sum-zero xs)
sum-behind (suc p) x xs = omega arith

-- a number and the greatest sum of fewer of those behind it
sum-right : (p x : ℕ) (left right : List ℕ) → x + greatest_sum p right ≤ greatest_sum (suc p) (left ++ x ∷ right)
sum-right p x [] right = omega arith
sum-right p x (y ∷ left) right = (let a = sum-right p x left right in let b = sum-behind (suc p) y (left ++ x ∷ right) in omega (arith, a, b))

-- or of those before it
sum-left : (p x : ℕ) (left right : List ℕ) → x + greatest_sum p left ≤ greatest_sum (suc p) (left ++ x ∷ right)
sum-left p x [] right = omega arith
sum-left zero x (y ∷ left) right =
    let a = sum-left zero x left right in
    let b = sum-behind 1 y (left ++ x ∷ right) in
    omega (arith, a, b, sum-zero left)
sum-left (suc p) x (y ∷ left) right =
    let a = sum-left p x left right in
    let b = sum-left (suc p) x left right in
    omega (arith, a, b)

-- ---- what is looked at

-- of what is before the middle, or behind it
pub record Costs (part mid : List PlainNode) (k : PlainNode) : Type 0 where
  pub fewer : most_probes (length part) + 1 ≤ most_probes (length mid)
  pub less : 24 + opening_size k + cost part ≤ cost mid

middle-size : (left right : List PlainNode) (k : PlainNode) → map opening_size (left ++ k ∷ right) ≡ map opening_size left ++ opening_size k ∷ map opening_size right
middle-size left right k = map-append opening_size left (k ∷ right)

costs-of : (p q x : ℕ) (part mid : List ℕ) → p + 1 ≤ q → x + greatest_sum p part ≤ greatest_sum (suc p) mid → 24 + x + (24 * p + greatest_sum p part) ≤ 24 * q + greatest_sum q mid
costs-of p q x part mid h sum = (let a = sum-grows (suc p) q mid (omega (arith, h)) in omega (arith, a, h, sum))

pub cost-left : (left right : List PlainNode) (k : PlainNode) (mid : List PlainNode) → mid ≡ left ++ k ∷ right → length left ≤ length mid / 2 → 0 < length mid → Costs left mid k
cost-left left right k mid is h some =
    let fewer = probes-less (length left) (length mid) some h in
    let sizes : map opening_size left ++ opening_size k ∷ map opening_size right ≡ map opening_size mid = sym (ap (map opening_size) is ∙ middle-size left right k) in
    let sum = subst (λ (xs : List ℕ). opening_size k + greatest_sum (most_probes (length left)) (map opening_size left) ≤ greatest_sum (suc (most_probes (length left))) xs) sizes
    (sum-left (most_probes (length left)) (opening_size k) (map opening_size left) (map opening_size right)) in
    record { fewer = fewer; less = costs-of (most_probes (length left)) (most_probes (length mid)) (opening_size k) (map opening_size left) (map opening_size mid) fewer sum }

pub cost-right : (left right : List PlainNode) (k : PlainNode) (mid : List PlainNode) → mid ≡ left ++ k ∷ right → length right ≤ length mid / 2 → 0 < length mid → Costs right mid k
cost-right left right k mid is h some =
    let fewer = probes-less (length right) (length mid) some h in
    let sizes : map opening_size left ++ opening_size k ∷ map opening_size right ≡ map opening_size mid = sym (ap (map opening_size) is ∙ middle-size left right k) in
    let sum = subst (λ (xs : List ℕ). opening_size k + greatest_sum (most_probes (length right)) (map opening_size right) ≤ greatest_sum (suc (most_probes (length right))) xs) sizes
    (sum-right (most_probes (length right)) (opening_size k) (map opening_size left) (map opening_size right)) in
    record { fewer = fewer; less = costs-of (most_probes (length right)) (most_probes (length mid)) (opening_size k) (map opening_size right) (map opening_size mid) fewer sum }
