-- A number is looked for in a stored set by halving.
use Rattle.std.proofs.Common.{◌≡◌, ℕ, ◌+◌, ◌-◌, ◌*◌, ◌/◌, ◌<◌, ◌≤◌, max, min, Bool, true, false, leb, ◌&&◌, ◌||◌, List, [], ◌∷◌, ◌++◌, length, take, drop, get_or, refl, sym, ap, subst, ◌∙◌, length-drop, take-append-drop, arith}
use Rattle.std.specs.List.{flat_map, AllByRecursion}
use Rattle.std.proofs.lemmas.Bool.Decides.{nat_tests}
use Rattle.std.proofs.lemmas.List.{drop_more, length-take}
use Rattle.std.proofs.lemmas.Grind.{flat_map-append}
use Rattle.version_set.specs.Pairs.{IsFrom}
use Rattle.version_set.specs.Members.{members, has}
use Rattle.version_set.proofs.MembersLemmas.{covers, has-members, IsFrom-weaker}
use Rattle.timestamp_tree.specs.Bytes.{pair_bytes}
use Rattle.timestamp_tree.proofs.Trees.{length-pairs}
use Rattle.record_parts.specs.Bounds.{IsSet, most}
use Rattle.record_format.proofs.Pieces.{all-front, all-back}
use Rattle.file_rows.specs.StandsAt.{StandsAt}
use Rattle.file_rows.proofs.Parts.{stands-front, stands-back}
use Rattle.file_rows.proofs.Halves.{probes-less, probes-step}
use Rattle.record_format.specs.Probed.{most_probes}
use Rattle.file_get.specs.Searched.{searched}

-- ---- how many intervals are read

pub searched-few : (n : ℕ) → n ≤ 8 → searched n ≡ n
unfolding searched
searched-few n few = (let yes : leb n 8 ≡ true = grind (arith, nat_tests) in rw yes refl)

many-searched : (n : ℕ) → 8 < n → searched n ≡ min (1 + n / 2) (4 + most_probes n)
unfolding searched
many-searched n many = (let no : leb n 8 ≡ false = grind (arith, nat_tests) in rw no refl)

-- eight or fewer are no more than their digits and four
few-probes : (n : ℕ) → n ≤ 8 → n ≤ 4 + most_probes n
few-probes n few = by (leb n 4) (leb n 7) refl refl
  where
    by : (a b : Bool) → leb n 4 ≡ a → leb n 7 ≡ b → n ≤ 4 + most_probes n
    by true b e f = (let four : n ≤ 4 = grind (arith, nat_tests) in omega (arith, four))
    by false true e f =
        let some : 4 < n = grind (arith, nat_tests) in
        let seven : n ≤ 7 = grind (arith, nat_tests) in
        let one = probes-step n (omega (arith, some)) in
        let two = probes-step (n / 2) (omega (arith, some)) in
        let three = probes-step (n / 2 / 2) (omega (arith, some)) in
        omega (arith, one, two, three, seven)
    by false false e f =
        let some : 7 < n = grind (arith, nat_tests) in
        let one = probes-step n (omega (arith, some)) in
        let two = probes-step (n / 2) (omega (arith, some)) in
        let three = probes-step (n / 2 / 2) (omega (arith, some)) in
        let four = probes-step (n / 2 / 2 / 2) (omega (arith, some)) in
        omega (arith, one, two, three, four, few)

-- the one in the middle, and those of a half
searched-part : (n m : ℕ) → 8 < n → m ≤ n / 2 → 1 + searched m ≤ searched n
searched-part n m many half = by (leb m 8) refl
  where
    by : (b : Bool) → leb m 8 ≡ b → 1 + searched m ≤ searched n
    by true e =
        let few : m ≤ 8 = grind (arith, nat_tests) in
        omega (arith, half, many-searched n many, probes-less m n (omega (arith, many)) half, searched-few m few, few-probes m few)
    by false e =
        let more : 8 < m = grind (arith, nat_tests) in
        omega (arith, half, more, many-searched n many, probes-less m n (omega (arith, many)) half, many-searched m more)

pub searched-more : (n : ℕ) → 8 < n → 1 + max (searched (n / 2)) (searched (n - n / 2 - 1)) ≤ searched n
searched-more n many = omega (arith, searched-part n (n / 2) many (omega arith), searched-part n (n - n / 2 - 1) many (omega arith))

pub searched-half : (n : ℕ) → 8 < n → searched n ≤ 1 + n / 2
searched-half n many = omega (arith, many-searched n many)

pub searched-all : (n : ℕ) → searched n ≤ n
searched-all n = by (leb n 8) refl
  where
    by : (b : Bool) → leb n 8 ≡ b → searched n ≤ n
    by true e = (let few : n ≤ 8 = grind (arith, nat_tests) in omega (arith, searched-few n few))
    by false e = (let many : 8 < n = grind (arith, nat_tests) in omega (arith, searched-half n many, many))

-- ---- on which side of an interval a number is

module _ (p : ℕ × ℕ) (right : List (ℕ × ℕ)) (n : ℕ) where
  low-first : (low : ℕ) (left : List (ℕ × ℕ)) → IsFrom low (left ++ p ∷ right) → (low ≤ p.0) × (p.0 ≤ p.1)
  low-first low [] h = (h.0, h.1)
  low-first low (q ∷ left) h = (let a = h.0 in let b = h.1 in let rest = low-first (q.1 + 2) left h.2 in let c = rest.0 in (omega (arith, a, b, c), rest.1))

  none-behind : (low : ℕ) (ps : List (ℕ × ℕ)) → IsFrom low ps → n < low → covers ps n ≡ false
  none-behind low [] h less = refl
  none-behind low (q ∷ ps) h less =
      let a = h.0 in
      let b = h.1 in
      let no : leb q.0 n ≡ false = grind (arith, nat_tests) in
      rw no (none-behind (q.1 + 2) ps h.2 (omega (arith, a, b, less)))

  before : (low : ℕ) (left : List (ℕ × ℕ)) → IsFrom low (left ++ p ∷ right) → n < p.0 → covers (left ++ p ∷ right) n ≡ covers left n
  before low [] h less =
      let b = h.1 in
      let no : leb p.0 n ≡ false = grind (arith, nat_tests) in
      rw no (none-behind (p.1 + 2) right h.2 (omega (arith, b, less)))
  before low (q ∷ left) h less = ap (λ (b : Bool). (leb q.0 n && leb n q.1) || b) (before (q.1 + 2) left h.2 less)

  and-false : (b : Bool) → (b && false) ≡ false
  and-false true = refl
  and-false false = refl

  behind : (low : ℕ) (left : List (ℕ × ℕ)) → IsFrom low (left ++ p ∷ right) → p.1 < n → covers (left ++ p ∷ right) n ≡ covers right n
  behind low [] h more =
      let no : leb n p.1 ≡ false = grind (arith, nat_tests) in
      ap (λ (b : Bool). (leb p.0 n && b) || covers right n) no ∙ ap (λ (b : Bool). b || covers right n) (and-false (leb p.0 n))
  behind low (q ∷ left) h more =
      let ends = low-first (q.1 + 2) left h.2 in
      let a = ends.0 in
      let b = ends.1 in
      let no : leb n q.1 ≡ false = grind (arith, nat_tests) in
      ap (λ (b : Bool). (leb q.0 n && b) || covers (left ++ p ∷ right) n) no ∙ ap (λ (b : Bool). b || covers (left ++ p ∷ right) n) (and-false (leb q.0 n)) ∙ behind (q.1 + 2) left h.2 more

  or-true : (b : Bool) → (b || true) ≡ true
  or-true true = refl
  or-true false = refl

  within : (left : List (ℕ × ℕ)) → p.0 ≤ n → n ≤ p.1 → covers (left ++ p ∷ right) n ≡ true
  within [] low high =
      let yes : leb p.0 n ≡ true = grind (arith, nat_tests) in
      let too : leb n p.1 ≡ true = grind (arith, nat_tests) in
      rw (yes, too) refl
  within (q ∷ left) low high = ap (λ (b : Bool). (leb q.0 n && leb n q.1) || b) (within left low high) ∙ or-true (leb q.0 n && leb n q.1)

-- ---- the halves of a set

-- An interval in a set, with what is before it and behind it, and where they stand.
pub record Half (bytes : List ℕ) (at : ℕ) (s : List (ℕ × ℕ)) (half : ℕ) : Type 0 where
  pub left : List (ℕ × ℕ)
  pub p : ℕ × ℕ
  pub right : List (ℕ × ℕ)
  pub is : s ≡ left ++ p ∷ right
  pub left_count : half ≡ length left
  pub right_count : length s - half - 1 ≡ length right
  pub left_set : IsSet left
  pub right_set : IsSet right
  pub first : 1 ≤ p.0
  pub ordered : p.0 ≤ p.1
  pub last : p.1 ≤ most
  pub left_stands : StandsAt bytes at (flat_map pair_bytes left)
  pub stands : StandsAt bytes (at + 8 * half) (pair_bytes p)
  pub right_stands : StandsAt bytes (at + 8 * half + 8) (flat_map pair_bytes right)

front-from : (low : ℕ) (xs ys : List (ℕ × ℕ)) → IsFrom low (xs ++ ys) → IsFrom low xs
front-from low [] ys h = tt
front-from low (x ∷ xs) ys h = (h.0, h.1, front-from (x.1 + 2) xs ys h.2)

back-from : (low : ℕ) (xs : List (ℕ × ℕ)) (p : ℕ × ℕ) (ys : List (ℕ × ℕ)) → IsFrom low (xs ++ p ∷ ys) → IsFrom (p.1 + 2) ys
back-from low [] p ys h = h.2
back-from low (x ∷ xs) p ys h = back-from (x.1 + 2) xs p ys h.2

pub half-of : (bytes : List ℕ) (at : ℕ) (s : List (ℕ × ℕ)) (half : ℕ) → half < length s → StandsAt bytes at (flat_map pair_bytes s) → IsSet s → Half bytes at s half
half-of bytes at s half less stands set =
    let left = take half s in
    let p = get_or s half (0, 0) in
    let right = drop (half + 1) s in
    let is : s ≡ left ++ p ∷ right = sym (take-append-drop half s) ∙ ap (λ xs. take half s ++ xs) (drop_more s half (0, 0) less) in
    let canonical : IsFrom 1 (left ++ p ∷ right) = subst (λ xs. IsFrom 1 xs) is set.canonical in
    let within : AllByRecursion (λ (q : ℕ × ℕ). q.1 ≤ most) (left ++ p ∷ right) = subst (λ xs. AllByRecursion (λ (q : ℕ × ℕ). q.1 ≤ most) xs) is set.within in
    let rest = all-back (λ (q : ℕ × ℕ). q.1 ≤ most) left (p ∷ right) within in
    let ends = low-first p right 0 1 left canonical in
    let size : length left ≡ half = (let n = length-take half s in omega (arith, n, less)) in
    let long : length (flat_map pair_bytes left) ≡ 8 * half = (let n = length-pairs left in omega (arith, n, size)) in
    let spelled : flat_map pair_bytes s ≡ flat_map pair_bytes left ++ (pair_bytes p ++ flat_map pair_bytes right) = ap (flat_map pair_bytes) is ∙ flat_map-append pair_bytes left (p ∷ right) in
    let whole = subst (StandsAt bytes at) spelled stands in
    let tail = subst (λ n. StandsAt bytes (at + n) (pair_bytes p ++ flat_map pair_bytes right)) long (stands-back bytes at (flat_map pair_bytes left) (pair_bytes p ++ flat_map pair_bytes right) whole) in
    record {
      left = left;
      p = p;
      right = right;
      is = is;
      left_count = sym size;
      right_count = (let n = length-drop (half + 1) s in omega (arith, n));
      left_set = record { canonical = front-from 1 left (p ∷ right) canonical; within = all-front (λ (q : ℕ × ℕ). q.1 ≤ most) left (p ∷ right) within };
      right_set = record { canonical = IsFrom-weaker 1 (p.1 + 2) right (omega arith) (back-from 1 left p right canonical); within = rest.1 };
      first = ends.0;
      ordered = ends.1;
      last = rest.0;
      left_stands = stands-front bytes at (flat_map pair_bytes left) (pair_bytes p ++ flat_map pair_bytes right) whole;
      stands = stands-front bytes (at + 8 * half) (pair_bytes p) (flat_map pair_bytes right) tail;
      right_stands = stands-back bytes (at + 8 * half) (pair_bytes p) (flat_map pair_bytes right) tail;
    }

module _ (bytes : List ℕ) (at : ℕ) (s : List (ℕ × ℕ)) (half : ℕ) (set : IsSet s) (h : Half bytes at s half) (n : ℕ) where
  canonical : IsFrom 1 (h.left ++ h.p ∷ h.right)
  canonical = subst (λ xs. IsFrom 1 xs) h.is set.canonical

  pub has-before : n < h.p.0 → has (members h.left) n ≡ has (members s) n
  has-before less = has-members h.left n ∙ sym (before h.p h.right n 1 h.left canonical less) ∙ sym (has-members (h.left ++ h.p ∷ h.right) n) ∙ ap (λ xs. has (members xs) n) (sym h.is)

  pub has-behind : h.p.1 < n → has (members h.right) n ≡ has (members s) n
  has-behind more = has-members h.right n ∙ sym (behind h.p h.right n 1 h.left canonical more) ∙ sym (has-members (h.left ++ h.p ∷ h.right) n) ∙ ap (λ xs. has (members xs) n) (sym h.is)

  pub has-within : h.p.0 ≤ n → n ≤ h.p.1 → true ≡ has (members s) n
  has-within low high = sym (within h.p h.right n h.left low high) ∙ sym (has-members (h.left ++ h.p ∷ h.right) n) ∙ ap (λ xs. has (members xs) n) (sym h.is)
